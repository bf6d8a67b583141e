-- Tables that were read: their items in order, and the first of them that would change the table.
use Rattle.std.specs.Prelude.{◌≡◌, ◌≢◌, ℕ, if◌then◌else◌, List, [], ◌∷◌, ◌++◌, map, Option, is_some, All}
use Rattle.std.specs.List.{flat_map}
use Rattle.ja_base.specs.declared.ids.Context.{Context}
use Rattle.ja_graph.specs.declared.program.Program.{Program}
use Rattle.ja_abstract.specs.AbstractState.{AbstractState}
use Rattle.ja_rows.specs.declared.table.Item.{Item}
use Rattle.ja_rows.specs.declared.table.Item.TheVariants.{Open, Step, Fill, Back}
use Rattle.ja_rows.specs.Listed.{contexts_of, edges_of}
use Rattle.ja_rows.specs.Table.{Table, node_numbers, visited, HasOpening}
use Rattle.ja_check.specs.declared.fault.CheckFault.{CheckFault}
use Rattle.ja_check.specs.declared.fault.CheckFault.TheVariants.{NotOpen, NotClosed, Memory}

-- ---- the items of a table, in order

-- the step of a node, where the context has a state
abbrev pub step_at : Context → (ℕ → Option AbstractState) → ℕ → List Item
step_at x states n = if is_some (states n) then Step x (record { 0 = n }) ∷ [] else []

abbrev pub steps_at : Program → Context → (ℕ → Option AbstractState) → List Item
steps_at p x states = flat_map (step_at x states) (node_numbers p x.function)

abbrev pub steps_of : Program → Table → List Item
steps_of p t = flat_map (λ (x : Context). steps_at p x (t.state x)) (contexts_of p t)

-- Open, the steps by context and node, the fill of each edge, and then the back of each
abbrev pub items_of : Program → Table → List Item
items_of p t = Open ∷ (steps_of p t ++ map Fill (edges_of p t) ++ map Back (edges_of p t))

-- ---- the first that would change it

-- a visit of it changes the table, and none of those before it does
pub record IsFirstAmong (p : Program) (t : Table) (items : List Item) (item : Item) : Type 0 where
  pub before : List Item
  pub after : List Item
  pub items_are : items ≡ before ++ item ∷ after
  pub settled : All (λ (i : Item). visited p t i ≡ t) before
  pub changes : visited p t item ≢ t

abbrev pub IsFirstUnsettled : Program → Table → Item → Type 0
IsFirstUnsettled p t item = IsFirstAmong p t (items_of p t) item

-- the cause of each fault
abbrev pub Explains : Program → Table → CheckFault → Type 0
Explains p t NotOpen = HasOpening p t → ⊥
Explains p t (NotClosed item) = HasOpening p t × IsFirstUnsettled p t item
Explains p t Memory = Unit {0}
