-- The parts of a state that holds, as proofs take them: what its properties and its masks say of
-- the objects of a set, whatever its registers are, and what its registers say, whatever the rest.
use Rattle.std.specs.Prelude.{◌≡◌, ◌<◌, ◌≤◌, ℕ, IsTrue, Some, slice_get}
use Rattle.ja_base.specs.declared.ids.Label.{Label}
use Rattle.ja_base.specs.declared.ids.Site.{Site}
use Rattle.ja_graph.specs.declared.program.Program.{Program}
use Rattle.ja_machine.specs.declared.machine.Addr.{Addr}
use Rattle.ja_machine.specs.declared.machine.Frame.{Frame}
use Rattle.ja_machine.specs.declared.machine.Heap.{Heap}
use Rattle.ja_machine.specs.declared.machine.Value.{Value}
use Rattle.ja_machine.specs.Frames.{parameters_of}
use Rattle.ja_machine.specs.Heap.{count}
use Rattle.ja_machine.specs.State.{IsObjectOf}
use Rattle.ja_abstract.specs.declared.abstraction.Key.{Key}
use Rattle.ja_abstract.specs.declared.abstraction.Mask.{Mask}
use Rattle.ja_abstract.specs.AbstractState.{AbstractState}
use Rattle.ja_abstract.specs.AbstractValue.{AbstractProperty, AbstractValue}
use Rattle.ja_abstract.specs.Contents.{label_of}
use Rattle.ja_abstract.specs.Keys.{Spot, key_of}
use Rattle.ja_meaning.specs.Meaning.{Holds, HoldsOfHeap, Tells, has_value, rest_of}

abbrev pub Properties : Type 0
Properties = Label → Key → AbstractProperty

-- of the objects of a set
pub record HoldsOfParts (p : Program) (There : Addr → Type 0) (at_entry now : Heap)
    (property : Properties) (mask : ℕ → Mask) : Type 0 where
  pub objects : (a : Addr) (x : Spot) → There a
      → Tells at_entry now a x (property (label_of now a) (key_of p x))
  pub some : (t : Site) → count at_entry t < count now t → IsTrue (mask t.0).some
  pub none : (t : Site) → count at_entry t ≡ count now t → IsTrue (mask t.0).none

abbrev pub HoldsOf : Program → (Addr → Type 0) → Heap → Heap → AbstractState → Type 0
HoldsOf p There at_entry now s = HoldsOfParts p There at_entry now s.property s.mask

-- .. of all objects
abbrev pub HoldsOfAll : Program → Heap → Heap → AbstractState → Type 0
HoldsOfAll p at_entry now s = HoldsOf p (IsObjectOf now) at_entry now s

-- .. of a frame
pub record HoldsOfRegisters (p : Program) (now : Heap) (f : Frame)
    (register : ℕ → AbstractValue) : Type 0 where
  pub registers : (r : ℕ) (v : Value) → slice_get f.registers r ≡ Some v
      → IsTrue (has_value now (register r) v)
  pub rest : (i : ℕ) (v : Value) → parameters_of p f.function ≤ i → slice_get f.arguments i ≡ Some v
      → IsTrue (has_value now (register (rest_of p f)) v)

abbrev pub HoldsOfFrame : Program → Heap → Frame → AbstractState → Type 0
HoldsOfFrame p now f s = HoldsOfRegisters p now f s.register

-- ---- from a state that holds, and back

pub all_of : {p : Program} {e now : Heap} {s : AbstractState} → HoldsOfHeap p e now s
    → HoldsOfAll p e now s
all_of h = record { objects = h.objects; some = h.some; none = h.none }

pub frame_of : {p : Program} {e now : Heap} {f : Frame} {s : AbstractState} → Holds p e now f s
    → HoldsOfFrame p now f s
frame_of h = record { registers = h.registers; rest = h.rest }

pub of_all : (p : Program) (e now : Heap) (s : AbstractState) → HoldsOfAll p e now s
    → HoldsOfHeap p e now s
of_all p e now s h = record { objects = h.objects; some = h.some; none = h.none }

pub holding : {p : Program} {e now : Heap} {f : Frame} {s : AbstractState} → HoldsOfAll p e now s
    → HoldsOfFrame p now f s → Holds p e now f s
holding {p} {e} {now} {f} {s} h g =
    record { heap = of_all p e now s h; registers = g.registers; rest = g.rest }
