-- What abstract values, properties and states say of the heap at the entry of a function and of the
-- state now (SAS 2006, recency abstraction; SAS 2010, what is as at entry).
use Rattle.std.specs.Prelude.{◌≡◌, Bool, ◌&&◌, IsTrue, Some, IsSome, ◌≤◌, ◌⊎◌, ◌<◌, ℕ, slice_get}
use Rattle.ja_base.specs.declared.ids.Label.{Label}
use Rattle.ja_base.specs.declared.ids.Context.{Context}
use Rattle.ja_base.specs.declared.ids.Site.{Site}
use Rattle.ja_graph.specs.declared.program.Program.{Program}
use Rattle.ja_machine.specs.declared.machine.Addr.{Addr}
use Rattle.ja_machine.specs.declared.machine.Value.{Value}
use Rattle.ja_machine.specs.declared.machine.Value.TheVariants as value
use Rattle.ja_machine.specs.declared.machine.Heap.{Heap}
use Rattle.ja_machine.specs.declared.machine.Frame.{Frame}
use Rattle.ja_machine.specs.Heap.{object_at, count}
use Rattle.ja_machine.specs.State.{IsValueOf, IsObjectOf}
use Rattle.ja_machine.specs.Frames.{parameters_of}
use Rattle.ja_abstract.specs.declared.abstraction.Key.{Key}
use Rattle.ja_abstract.specs.AbstractValue.{AbstractValue, AbstractProperty, same_label}
use Rattle.ja_abstract.specs.AbstractState.{same_key, AbstractState}
use Rattle.ja_abstract.specs.Resolved.{Entries}
use Rattle.ja_abstract.specs.Parts.{has_primitive, allows_attrs}
use Rattle.ja_abstract.specs.Keys.{Spot, key_of}
use Rattle.ja_abstract.specs.Contents.{label_of, missing, present_row, SpotContent, held, present, content}
use Rattle.ja_abstract.specs.Made.{rest_register}

-- the value has the part of a value of the heap
abbrev pub has_value : Heap → AbstractValue → Value → Bool
has_value h v (value.Primitive q) = has_primitive v q
has_value h v (value.Object a) = v.label (label_of h a)

-- the property has the content of an object of the heap
abbrev pub knows : Heap → AbstractProperty → SpotContent → Bool
knows h q missing = q.value.flags.absent
knows h q (held v) = has_value h q.value v
knows h q (present v attrs) = has_value h q.value v && allows_attrs q.attrs attrs
knows h q (present_row attrs) = q.value.flags.row && allows_attrs q.attrs attrs

-- ---- as at entry

-- the object was there at the entry, and has now what it had there
pub record IsAsAtEntry (at_entry now : Heap) (a : Addr) (x : Spot) : Type 0 where
  pub there : IsSome (object_at at_entry a)
  pub same : content now a x ≡ content at_entry a x

-- each value at entry that was demanded has the contents at entry
abbrev pub EntriesHold : Program → Heap → Entries → Type 0
EntriesHold p at_entry entries =
    (l : Label) (k : Key) (q : AbstractProperty) → entries l k ≡ Some q → (a : Addr) (x : Spot)
    → IsSome (object_at at_entry a) → IsTrue (same_label (label_of at_entry a) l)
    → IsTrue (same_key (key_of p x) k) → IsTrue (knows at_entry q (content at_entry a x))

abbrev pub context_of : Heap → Frame → Context
context_of at_entry f = record { function = f.function; receiver = label_of at_entry f.receiver }

-- what a spot has is of the heap
abbrev pub IsOfHeap : Heap → SpotContent → Type 0
IsOfHeap h missing = Unit {0}
IsOfHeap h (held v) = IsValueOf h v
IsOfHeap h (present v attrs) = IsValueOf h v
IsOfHeap h (present_row attrs) = Unit {0}

-- no object goes: each object of the first heap is one of the second
abbrev pub Grows : Heap → Heap → Type 0
Grows before now = (s : Site) → count before s ≤ count now s

-- what a property says of a spot of an object: it knows the content, or the content is as at the
-- entry
abbrev pub Tells : Heap → Heap → Addr → Spot → AbstractProperty → Type 0
Tells at_entry now a x q =
    IsTrue (knows now q (content now a x)) ⊎ (IsTrue q.value.flags.entry
    × IsAsAtEntry at_entry now a x)

-- ---- states

-- A state holds of a heap: its properties say of each object what it has, and its masks at which
-- sites objects were made since the entry, and at which none was.
pub record HoldsOfHeap (p : Program) (at_entry now : Heap) (s : AbstractState) : Type 0 where
  pub objects : (a : Addr) (x : Spot) → IsObjectOf now a
      → Tells at_entry now a x (s.property (label_of now a) (key_of p x))
  pub some : (t : Site) → count at_entry t < count now t → IsTrue (s.mask t.0).some
  pub none : (t : Site) → count at_entry t ≡ count now t → IsTrue (s.mask t.0).none

-- the register of the arguments past the parameters
abbrev pub rest_of : Program → Frame → ℕ
rest_of p f = rest_register (parameters_of p f.function)

-- A state holds of a heap and a frame, where at_entry is the heap when the frame was entered: its
-- registers have what those of the frame hold, and that of the rest its arguments past the
-- parameters.
pub record Holds (p : Program) (at_entry now : Heap) (f : Frame) (s : AbstractState) : Type 0 where
  pub heap : HoldsOfHeap p at_entry now s
  pub registers : (r : ℕ) (v : Value) → slice_get f.registers r ≡ Some v
      → IsTrue (has_value now (s.register r) v)
  pub rest : (i : ℕ) (v : Value) → parameters_of p f.function ≤ i → slice_get f.arguments i ≡ Some v
      → IsTrue (has_value now (s.register (rest_of p f)) v)
