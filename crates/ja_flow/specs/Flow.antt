-- What stands for a call edge as its caller sees it, and for what goes along it.
use Rattle.std.specs.Prelude.{◌≡◌, ◌<◌, ◌++◌, length, All}
use Rattle.ja_base.specs.declared.ids.NodeId.{NodeId}
use Rattle.ja_graph.specs.declared.node.Node.{Node}
use Rattle.ja_graph.specs.declared.node.NodeInfo.{NodeInfo}
use Rattle.ja_graph.specs.declared.program.Program.{Program}
use Rattle.ja_machine.specs.Frames.{registers_of}
use Rattle.ja_abstract.specs.Reading.{View}
use Rattle.ja_rows.specs.declared.table.Edge.{Edge}
use Rattle.ja_rows.specs.Calls.{Entered}
use Rattle.ja_rows.specs.Out.{Given}
use Rattle.ja_rows.specs.Table.{point}
use Rattle.ja_aheap.specs.Objects.{demands_in}
use Rattle.ja_astate.specs.declared.state.AState.{AState}
use Rattle.ja_astate.specs.State.{state_of, HaveOneShape, IsStateOf}
use Rattle.ja_astate.specs.Looks.{view_of}
use Rattle.ja_transfer.specs.Outcomes.{IsAtNode, given_of}
use Rattle.ja_transfer.specs.declared.given.States.{States}
use Rattle.ja_flow.specs.declared.caller.Caller.{Caller}
use Rattle.ja_flow.specs.declared.entering.Entered.{Entered as Kept}

-- the caller's state at the node of the edge, with the values at the entry of its context
abbrev pub caller_view : Caller → View
caller_view c = view_of c.reader

abbrev pub caller_node : Caller → Node
caller_node c = c.info.now.node

-- the edge leads from a node of the program, at which the state is, into a function
pub record IsCallerAt (p : Program) (i : NodeInfo) (a : AState) (e : Edge) : Type 0 where
  pub at_node : IsAtNode p (point e.caller e.node i) a
  pub callee : e.callee.function.0 < length p.functions

abbrev pub IsCaller : Caller → Type 0
IsCaller c = IsCallerAt c.reader.program.now c.info.now c.reader.state.now c.edge

-- a state at the entry of the callee, and what it demands of the caller
pub record IsEnteredBy (p : Program) (e : Edge) (entered : Entered) (kept : Kept) : Type 0 where
  pub state : state_of kept.state ≡ entered.state
  pub demands_are : demands_in kept.demands ≡ entered.demands
  pub fits : IsStateOf p (registers_of p e.callee.function) kept.state

abbrev pub IsEntered : Caller → Entered → Kept → Type 0
IsEntered c entered kept = IsEnteredBy c.reader.program.now c.edge entered kept

-- each state is one of the caller's function
abbrev pub AllFit : Caller → States → Type 0
AllFit c states =
    All (λ (s : NodeId × AState). HaveOneShape c.reader.state.now s.1) states.list.items

-- states are given back besides, with the nodes that they go to
pub record AreGivenMore (c : Caller) (more : Given) (before after : States) : Type 0 where
  pub given : given_of after ≡ given_of before ++ more
  pub fits : AllFit c before → AllFit c after
