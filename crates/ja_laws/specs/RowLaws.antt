-- What steps, visits and exits give, in other words than those of their rows.
use Rattle.std.specs.Prelude.{◌≡◌, ℕ, true, false, IsTrue, Option, Some, None, IsSome, is_some}
use Rattle.std.specs.List.{AllByRecursion}
use Rattle.ja_base.specs.declared.ids.Context.{Context}
use Rattle.ja_base.specs.declared.ids.FnId.{FnId}
use Rattle.ja_base.specs.declared.ids.Label.{Label}
use Rattle.ja_base.specs.declared.ids.NodeId.{NodeId}
use Rattle.ja_abstract.specs.declared.abstraction.Key.{Key}
use Rattle.ja_abstract.specs.AbstractValue.{AbstractValue}
use Rattle.ja_abstract.specs.AbstractState.{AbstractState}
use Rattle.ja_abstract.specs.Order.{LeqState}
use Rattle.ja_abstract.specs.Reading.{View}
use Rattle.ja_abstract.specs.Resolved.{Demands}
use Rattle.ja_abstract.specs.Values.{has_atoms}
use Rattle.ja_rows.specs.declared.table.Edge.{Edge}
use Rattle.ja_rows.specs.Calls.{entered_by}
use Rattle.ja_rows.specs.Out.{Given, Point}
use Rattle.ja_rows.specs.Table.{Table}

-- each state goes to this node
abbrev pub GoTo : NodeId → Given → Type 0
GoTo n states = AllByRecursion (λ (g : ℕ × AbstractState). g.0 ≡ n.0) states

-- a value that is all objects that run functions, and one that has none
abbrev pub AllRun : (Label → Option FnId) → AbstractValue → Type 0
AllRun entry v =
    (has_atoms v ≡ false)
    × ((l : Label) → IsTrue (v.label l) → IsTrue (is_some (entry l)))

abbrev pub NoneRun : (Label → Option FnId) → AbstractValue → Type 0
NoneRun entry v = (l : Label) → IsTrue (v.label l) → entry l ≡ None

-- there is one, and it has the property
abbrev pub HasOne : {A : Type 0} → (A → Type 0) → Option A → Type 0
HasOne P None = ⊥
HasOne P (Some a) = P a

-- each pair that is demanded of a context has a value there
abbrev pub AreThere : Table → Context → Demands → Type 0
AreThere t x demands = (l : Label) (k : Key) → IsTrue (demands l k) → IsSome (t.entry x l k)

-- a state that a node gives is in the table
abbrev pub IsJoined : Table → Context → ℕ × AbstractState → Type 0
IsJoined t x g = HasOne (LeqState g.1) (t.state x g.0)

-- the table has the edge and its callee, there the state that enters it, and what is demanded of
-- the caller for that
pub record IsEntered (w : View) (x : Point) (t : Table) (e : Edge) : Type 0 where
  pub edge : t.edge e ≡ true
  pub context : t.context e.callee ≡ true
  pub state : HasOne (LeqState (entered_by w e x.info.node).state) (t.state e.callee 0)
  pub demands : AreThere t x.context (entered_by w e x.info.node).demands
