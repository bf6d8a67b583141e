-- Tables that grow: one part of what a visit joins in after another.
use Rattle.std.specs.Prelude.{◌≡◌, ◌==◌, ℕ, true, if◌then◌else◌, List, [], ◌∷◌, Option, None, Some, map, replicate}
use Rattle.ja_base.specs.declared.ids.Context.{Context}
use Rattle.ja_abstract.specs.AbstractState.{AbstractState}
use Rattle.ja_abstract.specs.Resolved.{Entries}
use Rattle.ja_rows.specs.declared.table.Edge.{Edge}
use Rattle.ja_rows.specs.declared.table.Item.{Item}
use Rattle.ja_rows.specs.declared.table.Item.TheVariants.{Step}
use Rattle.ja_rows.specs.Out.{Given}
use Rattle.ja_rows.specs.Table.{Table, joined_state, same_context, same_edge}
use Rattle.ja_table.specs.declared.table.ATable.{ATable}
use Rattle.ja_table.specs.declared.table.CallEdge.{CallEdge}
use Rattle.ja_table.specs.declared.table.ContextTable.{ContextTable}
use Rattle.ja_table.specs.declared.table.NodeTable.{NodeTable}

-- no state at any of so many nodes
abbrev pub no_nodes : ℕ → List NodeTable
no_nodes count = replicate count (record { state = None })

-- a context more, an edge more
abbrev pub with_context : Table → Context → Table
with_context t x = record t { context = λ y. if same_context x y then true else t.context y }

abbrev pub with_edge : Table → Edge → Table
with_edge t e = record t { edge = λ d. if same_edge e d then true else t.edge d }

-- states by node, with one joined in
abbrev pub with_given : (ℕ → Option AbstractState) → ℕ × AbstractState → ℕ → Option AbstractState
with_given states given n =
    if given.0 == n then Some (joined_state (states n) given.1) else states n

-- a state joined in at a node of a context, and several, the first of them first
abbrev pub with_state_at : Table → Context → ℕ → AbstractState → Table
with_state_at t x n a =
    record t { state = λ y. if same_context x y then with_given (t.state y) (n, a) else t.state y }

abbrev pub with_states_at : Table → Context → Given → Table
with_states_at t x [] = t
with_states_at t x (g ∷ gs) = with_states_at (with_state_at t x g.0 g.1) x gs

-- other values at the entry of a context
abbrev pub with_entries_at : Table → Context → Entries → Table
with_entries_at t x entries =
    record t { entry = λ y. if same_context x y then entries else t.entry y }

-- the contexts and the edges are the same, in the same places
pub record HasSameKeys (before after : ATable) : Type 0 where
  pub contexts : map (λ (c : ContextTable). c.context) after.contexts.items
      ≡ map (λ (c : ContextTable). c.context) before.contexts.items
  pub edges : map (λ (d : CallEdge). d.edge) after.edges.items
      ≡ map (λ (d : CallEdge). d.edge) before.edges.items

-- .. where the item isn't the step of a node
abbrev pub HasSameEdges : Item → ATable → ATable → Type 0
HasSameEdges (Step x n) before after = Unit {0}
HasSameEdges item before after = HasSameKeys before after
