-- The ends of a call edge, as they are kept.
use Rattle.std.specs.Prelude.{◌≡◌, Option, Some, None}
use Rattle.ja_graph.specs.declared.node.NodeInfo.{NodeInfo}
use Rattle.ja_graph.specs.declared.program.Program.{Program}
use Rattle.ja_graph.specs.Program.{node_at}
use Rattle.ja_machine.specs.Frames.{registers_of}
use Rattle.ja_abstract.specs.AbstractState.{AbstractState}
use Rattle.ja_rows.specs.declared.table.Edge.{Edge}
use Rattle.ja_rows.specs.Table.{Table, view_at}
use Rattle.ja_astate.specs.declared.state.AState.{AState}
use Rattle.ja_astate.specs.State.{state_of, IsStateOf}
use Rattle.ja_flow.specs.Flow.{caller_view, IsCaller}
use Rattle.ja_table.specs.declared.table.ATable.{ATable}
use Rattle.ja_rules.specs.declared.visits.Ends.{Ends}
use Rattle.ja_table.specs.Tables.{find_context, table_of}

-- what the caller has at a node
pub record IsCallingAt (p : Program) (t : Table) (e : Edge) (i : NodeInfo) (a : AbstractState)
    : Type 0 where
  pub info_is : node_at p e.caller.function e.node ≡ Some i
  pub state_is : t.state e.caller e.node.0 ≡ Some a

-- the caller's state at the node of the edge
abbrev pub caller_state : Ends → AState
caller_state ends = ends.caller.reader.state.now

-- the caller as the table has it, and the callee that is found
pub record AreEnds (p : Program) (t : ATable) (e : Edge) (ends : Ends) : Type 0 where
  pub caller : IsCaller ends.caller
  pub program_is : ends.caller.reader.program.now ≡ p
  pub edge_is : ends.caller.edge ≡ e
  pub view_is : caller_view ends.caller
      ≡ view_at p (table_of t) e.caller (state_of (caller_state ends))
  pub calling : IsCallingAt p (table_of t) e ends.caller.info.now (state_of (caller_state ends))
  pub fits : IsStateOf p (registers_of p e.caller.function) (caller_state ends)
  pub callee_is : find_context e.callee t.contexts.items ≡ Some ends.callee.now

-- none where the caller has no state at the node
abbrev pub AreEndsOf : Program → ATable → Edge → Option Ends → Type 0
AreEndsOf p t e None = (table_of t).state e.caller e.node.0 ≡ None
AreEndsOf p t e (Some ends) = AreEnds p t e ends
