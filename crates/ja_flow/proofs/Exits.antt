-- What an exit gives back, by the node of the edge and that of the exit.
use Rattle.std.proofs.Common.{◌≡◌, [], Option, Some, None, refl, sym, ap}
use Rattle.std.specs.Prelude.{unwrap_or}
use Rattle.ja_base.specs.declared.ids.Reg.{Reg}
use Rattle.ja_base.proofs.Options.{none_not_some}
use Rattle.ja_graph.specs.declared.node.Node.{Node}
use Rattle.ja_graph.specs.declared.node.Node.TheVariants as node
use Rattle.ja_graph.specs.declared.node.NodeInfo.{NodeInfo}
use Rattle.ja_abstract.specs.AbstractState.{AbstractState}
use Rattle.ja_abstract.specs.AbstractValue.{AbstractValue}
use Rattle.ja_abstract.specs.Reading.{View}
use Rattle.ja_rows.specs.declared.table.Edge.{Edge}
use Rattle.ja_rows.specs.Calls as calls
use Rattle.ja_rows.specs.Out.{sets_in}
use Rattle.ja_flow.specs.code.Back.{destination, returned_value}

-- ---- by the node of the edge

-- a value is returned to the register of the node
pub returned_to : (w : View) (a : AbstractState) (i : NodeInfo) (this v : AbstractValue) (n : Node)
    (dst : Reg) → destination n ≡ Some dst
    → sets_in w a dst (returned_value n this v) i.next ≡ calls.returned w a i n this v
returned_to w a i this v (node.Call to callee receiver list error) dst is =
    ap (λ (o : Option Reg). sets_in w a (unwrap_or o to) v i.next) (sym is)
returned_to w a i this v (node.New to callee list site error) dst is =
    ap (λ (o : Option Reg). sets_in w a (unwrap_or o to) (calls.constructed this v) i.next) (sym is)
returned_to w a i this v (node.Convert to src kind other) dst is =
    ap (λ (o : Option Reg). sets_in w a (unwrap_or o to) v i.next) (sym is)
returned_to w a i this v n dst is = absurd (none_not_some is)

-- a node without such a register enters no function
pub returned_nowhere : (w : View) (a : AbstractState) (i : NodeInfo) (this v : AbstractValue)
    (n : Node) → destination n ≡ None → [] ≡ calls.returned w a i n this v
returned_nowhere w a i this v (node.Call to callee receiver list error) is =
    absurd (none_not_some (sym is))
returned_nowhere w a i this v (node.New to callee list site error) is =
    absurd (none_not_some (sym is))
returned_nowhere w a i this v (node.Convert to src kind other) is =
    absurd (none_not_some (sym is))
returned_nowhere w a i this v n is = refl

-- the value of a node that isn't a construction
pub value_returned : (n : Node) (this v : AbstractValue)
    → ((dst callee : Reg) (list : _) (site error : _)
    → n ≡ node.New dst callee list site error → ⊥) → v ≡ returned_value n this v
value_returned (node.New dst callee list site error) this v other =
    absurd (other dst callee list site error refl)
value_returned n this v other = refl

-- ---- by the node of the exit

pub no_exit : (w : View) (e : Edge) (i : NodeInfo) (exit : AbstractState) (n : Node)
    → ((src : Reg) → n ≡ node.Return src → ⊥) → (n ≡ node.Escape → ⊥)
    → [] ≡ calls.given_back w e i exit n
no_exit w e i exit (node.Return src) no_return no_escape = absurd (no_return src refl)
no_exit w e i exit node.Escape no_return no_escape = absurd (no_escape refl)
no_exit w e i exit n no_return no_escape = refl
