-- What goes wrong at the next step of the machine, and the operation at which a state stands.
use Rattle.std.specs.Prelude.{◌≡◌, ◌⊎◌, Bool, true, false, not, if◌then◌else◌, List, [], ◌∷◌, Option, Some, None, is_some, Contains}
use Rattle.std.specs.Option.{option_map, option_and_then}
use Rattle.ja_base.specs.declared.ids.Place.{Place}
use Rattle.ja_base.specs.declared.ids.ScopeKind.{ScopeKind}
use Rattle.ja_base.specs.declared.ids.ScopeKind.TheVariants as scope_kind
use Rattle.ja_prim.specs.declared.primitive.Primitive.TheVariants as primitive
use Rattle.ja_graph.specs.declared.node.Node.{Node}
use Rattle.ja_graph.specs.declared.node.Node.TheVariants as node
use Rattle.ja_graph.specs.declared.node.NodeInfo.{NodeInfo}
use Rattle.ja_graph.specs.declared.program.Program.{Program}
use Rattle.ja_graph.specs.Program.{node_at}
use Rattle.ja_machine.specs.declared.machine.Value.{Value}
use Rattle.ja_machine.specs.declared.machine.Value.TheVariants as value
use Rattle.ja_machine.specs.declared.machine.Frame.{Frame}
use Rattle.ja_machine.specs.declared.machine.Conf.{Conf}
use Rattle.ja_machine.specs.declared.machine.Answer.{Answer}
use Rattle.ja_machine.specs.declared.machine.End.TheVariants as ending
use Rattle.ja_machine.specs.declared.machine.Event.TheVariants as event
use Rattle.ja_machine.specs.Frames.{register_of}
use Rattle.ja_machine.specs.Calls.{function_called, function_constructing}
use Rattle.ja_machine.specs.Machine.{step}
use Rattle.ja_rows.specs.declared.table.WarningKind.{WarningKind}
use Rattle.ja_rows.specs.declared.table.WarningKind.TheVariants.{NotAFunction, NoObject, UnboundName, ScopeRow}
use Rattle.ja_rows.specs.Warning.{Operation, operation_at}

-- ---- in the machine

abbrev pub is_nothing_value : Value → Bool
is_nothing_value (value.Primitive primitive.Undefined) = true
is_nothing_value (value.Primitive primitive.Null) = true
is_nothing_value v = false

abbrev pub is_null : Value → Bool
is_null (value.Primitive primitive.Null) = true
is_null v = false

abbrev pub if_so : Bool → WarningKind → Option WarningKind
if_so b kind = if b then Some kind else None

-- what goes wrong at the next step: the callee runs no function, undefined or null has no property,
-- the base of a name is null
abbrev pub fault_at : Program → Frame → Node → Option WarningKind
fault_at p f (node.Call dst callee receiver args error) =
    if_so (not (is_some (function_called p (register_of f callee)))) NotAFunction
fault_at p f (node.New dst callee args site error) =
    if_so (not (is_some (function_constructing p (register_of f callee)))) NotAFunction
fault_at p f (node.ToObject dst src sites error) =
    if_so (is_nothing_value (register_of f src)) NoObject
fault_at p f (node.ReadRef dst base name error) = if_so (is_null (register_of f base)) UnboundName
fault_at p f n = None

abbrev pub fault_of_frames : Program → List Frame → Option Operation
fault_of_frames p [] = None
fault_of_frames p (f ∷ below) =
    let fault = λ (i : NodeInfo). option_map (operation_at p f.function i) (fault_at p f i.node) in
    option_and_then fault (node_at p f.function f.node)

abbrev pub fault_of : Program → Conf → Option Operation
fault_of p c = fault_of_frames p c.frames

-- ---- the operation at which a state stands

-- what may go wrong at a node, and whether it may read a built-in that isn't there
abbrev pub kinds : Node → List WarningKind
kinds (node.Call dst callee receiver args error) = NotAFunction ∷ []
kinds (node.New dst callee args site error) = NotAFunction ∷ []
kinds (node.ToObject dst src sites error) = NoObject ∷ []
kinds (node.ReadRef dst base name error) = UnboundName ∷ ScopeRow ∷ []
kinds (node.ReadSoft dst base name) = ScopeRow ∷ []
kinds (node.ReadProp dst object key) = ScopeRow ∷ []
kinds n = []

-- The top frame stands at a node that is the operation. The read of a name is two operations, one
-- of each of its kinds; and several nodes may be one, as the copies of the block of a `finally`.
pub record StandsAt (p : Program) (c : Conf) (o : Operation) : Type 0 where
  pub top : Frame
  pub below : List Frame
  pub frames_are : c.frames ≡ top ∷ below
  pub info : NodeInfo
  pub info_is : node_at p top.function top.node ≡ Some info
  pub kind_is : Contains (kinds info.node) o.kind
  pub operation_is : operation_at p top.function info o.kind ≡ o

-- the step ends the run, which leaves the profile at this place
abbrev pub Leaves : Program → Conf → Answer → ScopeKind → Place → Type 0
Leaves p c answer kind place =
    (d : Conf) × (step p c answer ≡ Some (event.End (ending.Scope kind place) d))

-- How a state fails at its operation: what it does there goes wrong, or it reads a built-in that
-- isn't there. The node of a name takes an object or null, and that of a property an object and a
-- key: where a register holds anything else the run leaves the profile too.
abbrev pub Fails : Program → Conf → Answer → Operation → WarningKind → Type 0
Fails p c answer o NotAFunction = fault_of p c ≡ Some o
Fails p c answer o NoObject = fault_of p c ≡ Some o
Fails p c answer o UnboundName =
    (fault_of p c ≡ Some o) ⊎ Leaves p c answer scope_kind.Register o.place
Fails p c answer o ScopeRow =
    Leaves p c answer scope_kind.Row o.place ⊎ Leaves p c answer scope_kind.Register o.place
