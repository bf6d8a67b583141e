-- What the exits of a callee give back, as it is kept.
use Rattle.std.specs.Prelude.{◌≡◌, ℕ, Bool, ◌&&◌, true, false, [], Option, Some, None, is_some}
use Rattle.std.specs.List.{flat_map, list_any, AllByRecursion}
use Rattle.std.specs.Option.{option_map_or}
use Rattle.ja_base.specs.declared.ids.NodeId.{NodeId}
use Rattle.ja_graph.specs.declared.node.NodeInfo.{NodeInfo}
use Rattle.ja_graph.specs.declared.program.Program.{Program}
use Rattle.ja_graph.specs.Program.{node_at}
use Rattle.ja_machine.specs.Frames.{registers_of}
use Rattle.ja_abstract.specs.AbstractState.{AbstractState}
use Rattle.ja_rows.specs.declared.table.Edge.{Edge}
use Rattle.ja_rows.specs.Calls.{demands_of_calling, given_back}
use Rattle.ja_rows.specs.Out.{Given as Out}
use Rattle.ja_rows.specs.Table.{Table, exit_at, has_exit, is_exit, node_numbers, view_at}
use Rattle.ja_aheap.specs.Objects.{demands_in}
use Rattle.ja_astate.specs.declared.state.AState.{AState}
use Rattle.ja_astate.specs.State.{IsStateOf}
use Rattle.ja_transfer.specs.Outcomes.{given_of}
use Rattle.ja_flow.specs.Flow.{AllFit, caller_node, caller_view}
use Rattle.ja_flow.specs.declared.caller.Caller.{Caller}
use Rattle.ja_table.specs.declared.table.ContextTable.{ContextTable}
use Rattle.ja_rules.specs.declared.visits.Given.{Given}
use Rattle.ja_table.specs.Tables.{states_in}
use Rattle.ja_rules.specs.code.Ends.{IsCallingAt}

-- a node is an exit at which a context has a state
abbrev pub is_left : Program → ContextTable → ℕ → Bool
is_left p c n =
    option_map_or (λ (i : NodeInfo). is_exit i.node)
    (node_at p c.context.function (record { 0 = n })) false
    && is_some (states_in c.nodes.items n)

abbrev pub has_left : Program → ContextTable → Bool
has_left p c = list_any (is_left p c) (node_numbers p c.context.function)

-- what a node gives back, and all of them
abbrev pub given_at : Caller → ContextTable → ℕ → Out
given_at c callee n =
    let at = node_at c.reader.program.now callee.context.function (record { 0 = n }) in
    let given =
    λ (a : AbstractState). option_map_or (λ (i : NodeInfo).
    given_back (caller_view c) c.edge c.info.now a i.node) at [] in
    option_map_or given (states_in callee.nodes.items n) []

pub record AreAllGiven (c : Caller) (callee : ContextTable) (given : Given) : Type 0 where
  pub states : given_of given.states ≡ flat_map (given_at c callee)
      (node_numbers c.reader.program.now callee.context.function)
  pub fit : AllFit c given.states
  pub demands_are : demands_in given.demands
      ≡ demands_of_calling (caller_view c) (caller_node c) c.edge.callee.function.0

-- nothing where the caller has no state at the node or no exit has one
pub record GivesNothing (p : Program) (t : Table) (e : Edge) : Type 0 where
  pub nothing : (i : NodeInfo) (a : AbstractState) → IsCallingAt p t e i a
      → list_any (has_exit p t e.callee) (node_numbers p e.callee.function) ≡ false

abbrev pub IsGivenBack : Program → Table → Edge → Option Given → Type 0
IsGivenBack p t e None = GivesNothing p t e
IsGivenBack p t e (Some g) =
    (i : NodeInfo) × (a : AbstractState) × IsCallingAt p t e i a
    × (list_any (has_exit p t e.callee) (node_numbers p e.callee.function) ≡ true)
    × (given_of g.states ≡ flat_map (exit_at p t e (view_at p t e.caller a) i)
    (node_numbers p e.callee.function))
    × (demands_in g.demands
    ≡ demands_of_calling (view_at p t e.caller a) i.node e.callee.function.0)
    × AllByRecursion (λ (s : NodeId × AState).
    IsStateOf p (registers_of p e.caller.function) s.1) g.states.list.items
