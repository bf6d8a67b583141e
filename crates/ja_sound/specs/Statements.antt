-- What is to be shown of one step: within an activation, into a function, and out of it.
use Rattle.std.specs.Prelude.{◌≡◌, IsTrue, List, ◌∷◌, Some}
use Rattle.ja_graph.specs.declared.program.Program.{Program}
use Rattle.ja_graph.specs.Program.{node_at}
use Rattle.ja_machine.specs.declared.machine.Addr.{Addr}
use Rattle.ja_machine.specs.declared.machine.Heap.{Heap}
use Rattle.ja_machine.specs.declared.machine.Frame.{Frame}
use Rattle.ja_machine.specs.declared.machine.Conf.{Conf}
use Rattle.ja_machine.specs.declared.machine.Answer.{Answer}
use Rattle.ja_machine.specs.declared.machine.Event.TheVariants as event
use Rattle.ja_machine.specs.Machine.{step}
use Rattle.ja_machine.specs.State.{IsHeap, IsFrame, IsState, IsObjectOf}
use Rattle.ja_machine.specs.Runs.{IsSameActivation}
use Rattle.ja_abstract.specs.AbstractState.{AbstractState}
use Rattle.ja_abstract.specs.Resolved.{demands_of, IsFilled}
use Rattle.ja_abstract.specs.Keys.{Spot, key_of}
use Rattle.ja_abstract.specs.Contents.{content, label_of}
use Rattle.ja_abstract.specs.Reading.{View}
use Rattle.ja_abstract.specs.Lists.{Member}
use Rattle.ja_meaning.specs.Meaning.{knows, EntriesHold, context_of, Grows, Holds}
use Rattle.ja_rows.specs.declared.table.Edge.{Edge}
use Rattle.ja_rows.specs.Out.{Point, Given}
use Rattle.ja_rows.specs.Transfer.{transfer}
use Rattle.ja_rows.specs.Calls.{calling_state, demands_of_calling, entered_by, filled_with, given_back}

-- What is known before a step: the view's state holds of the heap at the top frame's entry and of
-- the state now, and the values at entry hold of that heap.
pub record IsAt (p : Program) (e : Heap) (c : Conf) (top : Frame) (below : List Frame) (x : Point)
    (w : View) : Type 0 where
  pub program : w.program ≡ p
  pub entry_heap : IsHeap p e
  pub known : IsState p c
  pub grows : Grows e c.heap
  pub frames_are : c.frames ≡ top ∷ below
  pub context : x.context ≡ context_of e top
  pub number : x.number ≡ top.node
  pub info : node_at p top.function top.node ≡ Some x.info
  pub holds : Holds p e c.heap top w.state
  pub entries : EntriesHold p e w.entries

-- one of the states that are given holds of the top frame after the step
pub record IsGiven (p : Program) (e : Heap) (below : List Frame) (given : Given)
    (d : Conf) : Type 0 where
  pub top : Frame
  pub frames_are : d.frames ≡ top ∷ below
  pub state : AbstractState
  pub among : Member (top.node.0, state) given
  pub holds : Holds p e d.heap top state

-- ---- within an activation

abbrev pub SoundWithin : Program → Type 0
SoundWithin p =
    (e : Heap) (c d : Conf) (answer : Answer) (top moved : Frame) (below : List Frame) (x : Point)
    (w : View) → IsAt p e c top below x w → IsFilled w.entries (transfer w x).demands
    → step p c answer ≡ Some (event.Next d) → IsState p d → d.frames ≡ moved ∷ below
    → IsSameActivation top moved → IsGiven p e below (transfer w x).states d

-- ---- into a function

abbrev pub edge_into : Point → Heap → Frame → Edge
edge_into x m entered =
    record { caller = x.context; node = x.number; callee = context_of m entered }

pub record IsEntered (p : Program) (e : Heap) (d : Conf) (top entered : Frame) (x : Point)
    (w : View) : Type 0 where
  pub edge : Member (edge_into x d.heap entered) (transfer w x).edges
  pub state : IsFilled w.entries (entered_by w (edge_into x d.heap entered) x.info.node).demands
      → Holds p d.heap d.heap entered (entered_by w (edge_into x d.heap entered) x.info.node).state
  pub calling : IsFilled w.entries (demands_of_calling w x.info.node entered.function.0)
      → Holds p e d.heap top (calling_state w x.info.node entered.function.0)
  pub values : (a : Addr) (y : Spot) → IsObjectOf d.heap a
      → IsFilled w.entries (demands_of_calling w x.info.node entered.function.0)
      → IsFilled w.entries (demands_of (calling_state w x.info.node entered.function.0)
      (label_of d.heap a) (key_of p y)) → IsTrue
      (knows d.heap (filled_with w (edge_into x d.heap entered) x.info.node (label_of d.heap a)
      (key_of p y)) (content d.heap a y))

abbrev pub SoundInto : Program → Type 0
SoundInto p =
    (e : Heap) (c d : Conf) (answer : Answer) (top entered : Frame) (below : List Frame) (x : Point)
    (w : View) → IsAt p e c top below x w → step p c answer ≡ Some (event.Next d) → IsState p d
    → d.frames ≡ entered ∷ top ∷ below → IsEntered p e d top entered x w

-- ---- out of a function

-- The caller's state at its node, in the heap with which the function was entered, which had the
-- receiver and the caller's values.
pub record IsCalling (p : Program) (e m : Heap) (caller top : Frame) (x : Point)
    (w : View) : Type 0 where
  pub program : w.program ≡ p
  pub entry_heap : IsHeap p e
  pub heap : IsHeap p m
  pub grows : Grows e m
  pub frame : IsFrame p m caller
  pub receiver : IsObjectOf m top.receiver
  pub info : node_at p caller.function caller.node ≡ Some x.info
  pub holds : Holds p e m caller (calling_state w x.info.node top.function.0)

abbrev pub SoundOutOf : Program → Type 0
SoundOutOf p =
    (e m : Heap) (c d : Conf) (answer : Answer) (top caller moved : Frame) (below : List Frame)
    (x y : Point) (w exit : View) → IsCalling p e m caller top x w
    → IsAt p m c top (caller ∷ below) y exit → step p c answer ≡ Some (event.Next d) → IsState p d
    → d.frames ≡ moved ∷ below → IsSameActivation caller moved
    → IsGiven p e below (given_back w (edge_into x m top) x.info exit.state y.info.node) d
