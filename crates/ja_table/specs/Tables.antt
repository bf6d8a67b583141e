-- What the analyser's tables stand for.
use Rattle.std.specs.Prelude.{◌≡◌, ◌<◌, ℕ, Bool, List, Option, Some, None, IsSome, IsTrue, All, find, length, slice_get, vec_len}
use Rattle.std.specs.Option.{option_map, option_map_or, option_and_then}
use Rattle.std.specs.List.{list_any}
use Rattle.ja_base.specs.declared.ids.Context.{Context}
use Rattle.ja_base.specs.declared.ids.Label.{Label}
use Rattle.ja_graph.specs.declared.program.Program.{Program}
use Rattle.ja_graph.specs.Program.{node_at, nodes_of}
use Rattle.ja_machine.specs.Frames.{registers_of}
use Rattle.ja_abstract.specs.declared.abstraction.Key.{Key}
use Rattle.ja_abstract.specs.AbstractState.{AbstractState, is_key, is_label}
use Rattle.ja_abstract.specs.Resolved.{Entries}
use Rattle.ja_rows.specs.declared.table.Edge.{Edge}
use Rattle.ja_rows.specs.Table.{Table, root, same_context, same_edge}
use Rattle.ja_aheap.specs.Entries.{entries_of}
use Rattle.ja_astate.specs.declared.state.AState.{AState}
use Rattle.ja_astate.specs.State.{state_of, IsStateOf}
use Rattle.ja_table.specs.declared.table.ATable.{ATable}
use Rattle.ja_table.specs.declared.table.CallEdge.{CallEdge}
use Rattle.ja_table.specs.declared.table.ContextTable.{ContextTable}
use Rattle.ja_table.specs.declared.table.NodeTable.{NodeTable}
use Rattle.ja_table.specs.Order.{AreContextsOrdered, AreEdgesOrdered}

-- ---- one context

-- the state that is kept of a node
abbrev pub kept_state : List NodeTable → ℕ → Option AState
kept_state nodes n = option_and_then (λ (s : NodeTable). s.state) (slice_get nodes n)

-- the states of a list by node
abbrev pub states_in : List NodeTable → ℕ → Option AbstractState
states_in nodes n = option_map state_of (kept_state nodes n)

-- ---- all of them

abbrev pub is_of : Context → ContextTable → Bool
is_of x c = same_context c.context x

abbrev pub find_context : Context → List ContextTable → Option ContextTable
find_context x contexts = find (is_of x) contexts

abbrev pub no_entries : Entries
no_entries l k = None

abbrev pub table_of : ATable → Table
table_of t = record {
  context = λ x. list_any (is_of x) t.contexts.items;
  state =
      λ x n. option_and_then (λ (c : ContextTable). states_in c.nodes.items n)
      (find_context x t.contexts.items);
  entry =
      λ x. option_map_or (λ (c : ContextTable). entries_of c.entries)
      (find_context x t.contexts.items) no_entries;
  edge = λ e. list_any (λ (d : CallEdge). same_edge d.edge e) t.edges.items;
}

-- a context of the program
pub record IsContext (p : Program) (x : Context) : Type 0 where
  pub function : x.function.0 < length p.functions
  pub receiver : IsTrue (is_label p x.receiver)

-- A context's table has a place for each node of its function, each state has the registers of the
-- function, and each pair that is demanded has a label and a key of the program.
pub record FitsContext (p : Program) (c : ContextTable) : Type 0 where
  pub context : IsContext p c.context
  pub nodes : vec_len c.nodes ≡ length (nodes_of p c.context.function)
  pub states : (n : ℕ) (s : AState) → kept_state c.nodes.items n ≡ Some s
      → IsStateOf p (registers_of p c.context.function) s
  pub labels : (l : Label) (k : Key) → IsSome (entries_of c.entries l k) → IsTrue (is_label p l)
  pub keys : (l : Label) (k : Key) → IsSome (entries_of c.entries l k) → IsTrue (is_key p k)

-- an edge leads from a node of a context into a context, and both are reached
pub record FitsEdge (p : Program) (t : ATable) (e : Edge) : Type 0 where
  pub caller : IsTrue ((table_of t).context e.caller)
  pub node : IsSome (node_at p e.caller.function e.node)
  pub callee : IsTrue ((table_of t).context e.callee)

-- The contexts and the edges are in order, so the program's own context comes first.
pub record Fits (p : Program) (t : ATable) : Type 0 where
  pub each : All (FitsContext p) t.contexts.items
  pub ordered : AreContextsOrdered t.contexts.items
  pub edges : All (λ (d : CallEdge). FitsEdge p t d.edge) t.edges.items
  pub edges_ordered : AreEdgesOrdered t.edges.items
  pub first : ContextTable
  pub first_is : slice_get t.contexts.items 0 ≡ Some first
  pub first_is_root : first.context ≡ root

-- a table that was read is as one of the solver's (`Fits`), but may lack the program's own context
pub record FitsListed (p : Program) (t : ATable) : Type 0 where
  pub each : All (FitsContext p) t.contexts.items
  pub ordered : AreContextsOrdered t.contexts.items
  pub edges : All (λ (d : CallEdge). FitsEdge p t d.edge) t.edges.items
  pub edges_ordered : AreEdgesOrdered t.edges.items
