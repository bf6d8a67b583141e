-- What holds of every run of a program.
use Rattle.std.specs.Prelude.{◌≡◌, ◌⊎◌, ◌≤◌, ◌↔◌, ℕ, ◌+◌, true, IsTrue, List, ◌∷◌, slice_get, Option, Some, IsSome}
use Rattle.std.specs.List.{IsDistinct}
use Rattle.ja_base.specs.declared.ids.NodeId.{NodeId}
use Rattle.ja_prim.specs.Texts.{same_text}
use Rattle.ja_graph.specs.declared.node.Node.{Node}
use Rattle.ja_graph.specs.declared.node.Node.TheVariants as node
use Rattle.ja_graph.specs.declared.node.NodeInfo.{NodeInfo}
use Rattle.ja_graph.specs.declared.program.Program.{Program}
use Rattle.ja_graph.specs.Node.{may_throw}
use Rattle.ja_graph.specs.Program.{node_at}
use Rattle.ja_machine.specs.declared.machine.Addr.{Addr}
use Rattle.ja_machine.specs.declared.machine.Object.{Object}
use Rattle.ja_machine.specs.declared.machine.Heap.{Heap}
use Rattle.ja_machine.specs.declared.machine.Frame.{Frame}
use Rattle.ja_machine.specs.declared.machine.Conf.{Conf}
use Rattle.ja_machine.specs.declared.machine.Answer.{Answer}
use Rattle.ja_machine.specs.declared.machine.Event.{Event}
use Rattle.ja_machine.specs.declared.machine.Event.TheVariants as event
use Rattle.ja_machine.specs.Heap.{size, object_at, chain, prototype_of, outer_of}
use Rattle.ja_machine.specs.Machine.{fits, wants, step, state_of}
use Rattle.ja_machine.specs.Enumeration.{names}
use Rattle.ja_machine.specs.State.{IsHeap, IsState, IsObjectOf, enters_functions}

-- ---- states

-- each state of a run is one as `State` says
abbrev pub AreStates : Program → Type 0
AreStates p = (answers : List Answer) (c : Conf) → state_of p answers ≡ Some c → IsState p c

-- No run is stuck: a state has a step with each answer that it wants, and with no other.
abbrev pub NeverStuck : Program → Type 0
NeverStuck p =
    (answers : List Answer) (c : Conf) (answer : Answer) → state_of p answers ≡ Some c
    → IsTrue (fits p (wants p c) answer) ↔ IsSome (step p c answer)

-- Of any state that is as it should be, whether a run comes to it or not: it has a step with each
-- answer that it wants, and with no other, ..
abbrev pub HaveSteps : Program → Type 0
HaveSteps p =
    (c : Conf) (answer : Answer) →
    IsState p c →
    IsTrue (fits p (wants p c) answer) ↔ IsSome (step p c answer)

-- .. and a step leads to such a state, where the run goes on.
abbrev pub StepsKeepStates : Program → Type 0
StepsKeepStates p =
    (c d : Conf) (answer : Answer) →
    IsState p c →
    step p c answer ≡ Some (event.Next d) →
    IsState p d

-- ---- steps

-- the frame is the same activation after a step
pub record IsSameActivation (before after : Frame) : Type 0 where
  pub function : after.function ≡ before.function
  pub born : after.born ≡ before.born
  pub receiver : after.receiver ≡ before.receiver
  pub callee : after.callee ≡ before.callee
  pub scope : after.scope ≡ before.scope
  pub arguments : after.arguments ≡ before.arguments

-- The top frame goes along an edge of its node. Only a node that may throw goes to its handler.
pub record GoesAlongEdge (p : Program) (before after : List Frame) : Type 0 where
  pub top : Frame
  pub below : List Frame
  pub before_is : before ≡ top ∷ below
  pub info : NodeInfo
  pub info_is : node_at p top.function top.node ≡ Some info
  pub moved : Frame
  pub after_is : after ≡ moved ∷ below
  pub same : IsSameActivation top moved
  pub edge : (moved.node ≡ info.next) ⊎ ((moved.node ≡ info.other)
      ⊎ (IsTrue (may_throw info.node) × (moved.node ≡ info.handler)))

-- A function is entered at its first node, above the frame that calls it, which stays as it is.
pub record EntersFunction (p : Program) (c : Conf) (after : List Frame) : Type 0 where
  pub top : Frame
  pub below : List Frame
  pub before_is : c.frames ≡ top ∷ below
  pub info : NodeInfo
  pub info_is : node_at p top.function top.node ≡ Some info
  pub enters : enters_functions info.node ≡ true
  pub entered : Frame
  pub after_is : after ≡ entered ∷ top ∷ below
  pub first_node : entered.node.0 ≡ 0
  pub born : entered.born ≡ c.steps + 1

-- where the caller goes on, by the node that leaves the function: behind its node after a Return,
-- at its handler after an Escape
abbrev pub ReturnsTo : Node → NodeInfo → NodeId → Type 0
ReturnsTo (node.Return src) caller n = n ≡ caller.next
ReturnsTo node.Escape caller n = n ≡ caller.handler
ReturnsTo node caller n = ⊥

-- A function is left, by a Return or an Escape: its caller goes on.
pub record LeavesFunction (p : Program) (before after : List Frame) : Type 0 where
  pub top : Frame
  pub caller : Frame
  pub below : List Frame
  pub before_is : before ≡ top ∷ caller ∷ below
  pub info : NodeInfo
  pub info_is : node_at p top.function top.node ≡ Some info
  pub caller_info : NodeInfo
  pub caller_info_is : node_at p caller.function caller.node ≡ Some caller_info
  pub moved : Frame
  pub after_is : after ≡ moved ∷ below
  pub same : IsSameActivation caller moved
  pub edge : ReturnsTo info.node caller_info moved.node

-- A step counts one more. Where the run goes on, the top frame goes along an edge, enters a
-- function or leaves its own; where it ends, nothing else changes.
abbrev pub IsStep : Program → Conf → Event → Type 0
IsStep p c (event.Next d) =
    (d.steps ≡ c.steps + 1) × (GoesAlongEdge p c.frames d.frames
    ⊎ (EntersFunction p c d.frames ⊎ LeavesFunction p c.frames d.frames))
IsStep p c (event.End e d) = d ≡ record c { steps = c.steps + 1 }

abbrev pub AreSteps : Program → Type 0
AreSteps p = (c : Conf) (answer : Answer) (e : Event) → step p c answer ≡ Some e → IsStep p c e

-- ---- objects

-- an object stays, with its class and its internal properties
pub record Stays (before after : Heap) (a : Addr) : Type 0 where
  pub old : Object
  pub was : object_at before a ≡ Some old
  pub new : Object
  pub is : object_at after a ≡ Some new
  pub class : new.class ≡ old.class
  pub slots : new.slots ≡ old.slots

-- no object goes
abbrev pub ObjectsStay : Program → Type 0
ObjectsStay p =
    (c d : Conf) (answer : Answer) → step p c answer ≡ Some (event.Next d) → (a : Addr)
    → IsObjectOf c.heap a → Stays c.heap d.heap a

-- ---- the names that `for`-`in` shows

-- an object of a heap that is as it should be shows no name twice
abbrev pub NamesAreDistinct : Program → Type 0
NamesAreDistinct p = (h : Heap) (a : Addr) → IsHeap p h → IsDistinct same_text (names h a)

-- ---- chains

-- no object stands twice
abbrev pub AreDistinct : List Addr → Type 0
AreDistinct xs = (i j : ℕ) (a : Addr) → slice_get xs i ≡ Some a → slice_get xs j ≡ Some a → i ≡ j

-- From an object on, the link leads to objects of the heap alone, to none of them twice, and ends:
-- there are no more of them than the heap has objects.
pub record IsChained (h : Heap) (link : Object → Option Addr) : Type 0 where
  pub objects : (n i : ℕ) (a b : Addr) → IsObjectOf h a
      → slice_get (chain link h n (Some a)) i ≡ Some b → IsObjectOf h b
  pub distinct : (n : ℕ) (a : Addr) → IsObjectOf h a → AreDistinct (chain link h n (Some a))
  pub ends : (n : ℕ) (a : Addr) → IsObjectOf h a → size h ≤ n
      → chain link h n (Some a) ≡ chain link h (size h) (Some a)

-- prototypes and scopes are chained after each list of answers
abbrev pub ChainsEnd : Program → Type 0
ChainsEnd p =
    (answers : List Answer) (c : Conf) → state_of p answers ≡ Some c
    → IsChained c.heap prototype_of × IsChained c.heap outer_of
