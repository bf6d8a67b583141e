-- What the analyser's outcomes stand for.
use Rattle.std.specs.Prelude.{◌≡◌, ◌++◌, ℕ, List, map, All, Some}
use Rattle.ja_base.specs.declared.ids.NodeId.{NodeId}
use Rattle.ja_graph.specs.declared.program.Program.{Program}
use Rattle.ja_graph.specs.Program.{node_at}
use Rattle.ja_graph.specs.WellFormed.{IsWellFormed}
use Rattle.ja_machine.specs.Frames.{registers_of}
use Rattle.ja_abstract.specs.AbstractState.{AbstractState}
use Rattle.ja_abstract.specs.Reading.{View}
use Rattle.ja_rows.specs.Out.{Out, Point, Given}
use Rattle.ja_aheap.specs.Objects.{demands_in}
use Rattle.ja_astate.specs.declared.state.AState.{AState}
use Rattle.ja_astate.specs.State.{state_of, IsStateOf, HaveOneShape}
use Rattle.ja_astate.specs.Looks.{view_of}
use Rattle.ja_transfer.specs.declared.given.States.{States}
use Rattle.ja_transfer.specs.declared.outcome.Outcome.{Outcome}
use Rattle.ja_transfer.specs.declared.stepper.Stepper.{Stepper}

-- ---- states with the nodes that they go to

abbrev pub given_by : NodeId × AState → ℕ × AbstractState
given_by s = (s.0.0, state_of s.1)

abbrev pub given_of : States → Given
given_of g = map given_by g.list.items

-- each state is one of the program and the function of the state that the step is taken from
abbrev pub FitsAll : Stepper → List (NodeId × AState) → Type 0
FitsAll s = All (λ (g : NodeId × AState). HaveOneShape s.reader.state.now g.1)

-- states are given besides
pub record AreAdded (s : Stepper) (more : Given) (before after : States) : Type 0 where
  pub given : given_of after ≡ given_of before ++ more
  pub fits : FitsAll s before.list.items → FitsAll s after.list.items

-- the states are these
pub record AreGiven (s : Stepper) (given : Given) (states : States) : Type 0 where
  pub given_is : given_of states ≡ given
  pub fits : FitsAll s states.list.items

-- ---- outcomes

abbrev pub out_of : Outcome → Out
out_of o =
    record { states = given_of o.states; demands = demands_in o.demands; edges = o.edges.items }

pub record IsOutcome (s : Stepper) (out : Out) (o : Outcome) : Type 0 where
  pub out_is : out_of o ≡ out
  pub fits : FitsAll s o.states.list.items

-- ---- where a step is taken

abbrev pub at_view : Stepper → View
at_view s = view_of s.reader

abbrev pub point_of : Stepper → Point
point_of s = record { context = s.context; number = s.number; info = s.info.now }

-- a node of a program, and a state of its function
pub record IsAtNode (p : Program) (x : Point) (a : AState) : Type 0 where
  pub well_formed : IsWellFormed p
  pub node_is : node_at p x.context.function x.number ≡ Some x.info
  pub state_is : IsStateOf p (registers_of p x.context.function) a
