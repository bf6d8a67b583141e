-- What is known of the view and of the top frame where a step is taken.
use Rattle.std.specs.Prelude.{ℕ, Bool, IsTrue, List, [], ◌∷◌}
use Rattle.std.proofs.Common.{refl, sym, subst, inl}
use Rattle.std.proofs.lemmas.Bool.{cond-true}
use Rattle.ja_base.specs.declared.ids.NodeId.{NodeId}
use Rattle.ja_graph.specs.declared.program.Program.{Program}
use Rattle.ja_machine.specs.declared.machine.Heap.{Heap}
use Rattle.ja_machine.specs.declared.machine.Frame.{Frame}
use Rattle.ja_machine.specs.declared.machine.Conf.{Conf}
use Rattle.ja_machine.specs.State.{IsFrame, AreFrames}
use Rattle.ja_abstract.specs.AbstractState.{AbstractState}
use Rattle.ja_abstract.specs.Reading.{View}
use Rattle.ja_abstract.proofs.Lists.{Member}
use Rattle.ja_meaning.proofs.Moments.{Reads}
use Rattle.ja_rows.specs.Out.{Point, goes}
use Rattle.ja_sound.specs.Statements.{IsAt}

pub member-goes : (b : Bool) (n : NodeId) (a : AbstractState) → IsTrue b
    → Member {X = ℕ × AbstractState} (n.0, a) (goes b n a)
member-goes b n a e =
    let x : ℕ × AbstractState = (n.0, a) in
    subst (Member x) (sym (cond-true b (x ∷ []) [] e)) (inl refl)

module _ (e : Heap) (c : Conf) (top : Frame) (below : List Frame) (x : Point) (w : View)
    (at : IsAt w.program e c top below x w) where
  abbrev p : Program
  p = w.program

  pub frame : IsFrame p c.heap top
  frame =
      let fs : AreFrames p c.heap (top ∷ below) = subst
      (AreFrames p c.heap) at.frames_are at.known.frames in fs.0

  pub read_at : Reads e c.heap w
  read_at = record {
    heap_at_entry = at.entry_heap;
    heap_now = at.known.heap;
    grows = at.grows;
    holds = at.holds.heap;
    entries = at.entries;
  }
