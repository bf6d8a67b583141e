-- The step of a node, with the functions that it enters.
use Rattle.std.specs.Prelude.{◌≡◌, List, map, Some, IsSome, IsTrue}
use Rattle.std.specs.List.{AllByRecursion}
use Rattle.ja_base.specs.declared.ids.NodeId.{NodeId}
use Rattle.ja_graph.specs.declared.node.NodeInfo.{NodeInfo}
use Rattle.ja_graph.specs.declared.program.Program.{Program}
use Rattle.ja_graph.specs.Program.{node_at}
use Rattle.ja_machine.specs.Frames.{registers_of}
use Rattle.ja_abstract.specs.Reading.{View}
use Rattle.ja_rows.specs.declared.table.Edge.{Edge}
use Rattle.ja_rows.specs.Calls.{entered_by}
use Rattle.ja_rows.specs.Table.{Table, point}
use Rattle.ja_rows.specs.Transfer.{transfer}
use Rattle.ja_aheap.specs.Entries.{entries_of}
use Rattle.ja_aheap.specs.Objects.{demands_in}
use Rattle.ja_astate.specs.declared.state.AState.{AState}
use Rattle.ja_astate.specs.State.{state_of, HaveOneShape, IsStateOf}
use Rattle.ja_astate.specs.declared.reader.Reader.{Reader}
use Rattle.ja_transfer.specs.declared.outcome.Outcome.{Outcome}
use Rattle.ja_transfer.specs.Outcomes.{out_of}
use Rattle.ja_flow.specs.Flow.{IsCallerAt, IsEnteredBy}
use Rattle.ja_table.specs.declared.table.ContextTable.{ContextTable}
use Rattle.ja_rules.specs.declared.visits.Entry.{Entry}
use Rattle.ja_rules.specs.declared.visits.Step.{Step}
use Rattle.ja_table.specs.Tables.{kept_state, IsContext}
use Rattle.ja_table.specs.code.Growing.{with_context, with_edge, with_state_at}
use Rattle.ja_rules.specs.code.Entries.{with_demands_at, AreDemandsOf}

-- an edge that leads from the node of a reader's state
abbrev pub IsCallerOf : Reader → NodeInfo → Edge → Type 0
IsCallerOf r i e = IsCallerAt r.program.now i r.state.now e

-- each edge with the state that enters its callee, in order
pub record AreEntered (p : Program) (w : View) (i : NodeInfo) (edges : List Edge)
    (entries : List Entry) : Type 0 where
  pub edges_are : map (λ (x : Entry). x.edge) entries ≡ edges
  pub entered : AllByRecursion
      (λ (x : Entry). IsEnteredBy p x.edge (entered_by w x.edge i.node) x.entered) entries

-- the step of a node of a context, from the state that is kept there
abbrev pub view_in : Program → ContextTable → AState → View
view_in p own a =
    record { program = p; state = state_of a; entries = entries_of own.entries }

-- what the node of a context does, from a state that is kept there
pub record IsOutcomeAt (p : Program) (own : ContextTable) (n : NodeId) (state : AState)
    (outcome : Outcome) : Type 0 where
  pub info : NodeInfo
  pub info_is : node_at p own.context.function n ≡ Some info
  pub is : out_of outcome ≡ transfer (view_in p own state) (point own.context n info)
  pub fits : AllByRecursion (λ (s : NodeId × AState). HaveOneShape state s.1)
      outcome.states.list.items

pub record IsStep (p : Program) (own : ContextTable) (n : NodeId) (step : Step) : Type 0 where
  pub info : NodeInfo
  pub info_is : node_at p own.context.function n ≡ Some info
  pub state : AState
  pub state_is : kept_state own.nodes.items n.0 ≡ Some state
  pub outcome : out_of step.outcome ≡ transfer (view_in p own state) (point own.context n info)
  pub fits : AllByRecursion (λ (s : NodeId × AState). HaveOneShape state s.1)
      step.outcome.states.list.items
  pub entered : AreEntered p (view_in p own state) info step.outcome.edges.items
      step.entries.items

-- what an edge gives: its callee, the state that enters it, its demands and itself
abbrev pub with_entered : Table → Entry → Table
with_entered t x =
    let reached = with_context t x.edge.callee in
    let joined = with_state_at reached x.edge.callee 0 (state_of x.entered.state) in
    with_edge (with_demands_at joined x.edge.caller (demands_in x.entered.demands)) x.edge

pub record FitsEntered (p : Program) (t : Table) (x : Entry) : Type 0 where
  pub caller : IsTrue (t.context x.edge.caller)
  pub node : IsSome (node_at p x.edge.caller.function x.edge.node)
  pub callee : IsContext p x.edge.callee
  pub state : IsStateOf p (registers_of p x.edge.callee.function) x.entered.state
  pub demands : AreDemandsOf p (demands_in x.entered.demands)
