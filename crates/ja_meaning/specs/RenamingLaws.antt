-- What renaming comes to: the labels of an object at the entry of a function and now (SAS 2010).
use Rattle.std.specs.Prelude.{◌≡◌, ◌<◌, ℕ, IsTrue}
use Rattle.std.specs.List.{list_any}
use Rattle.ja_base.specs.declared.ids.Site.{Site}
use Rattle.ja_machine.specs.declared.machine.Addr.{Addr}
use Rattle.ja_machine.specs.declared.machine.Heap.{Heap}
use Rattle.ja_machine.specs.Heap.{count}
use Rattle.ja_machine.specs.State.{IsObjectOf}
use Rattle.ja_abstract.specs.declared.abstraction.Mask.{Mask}
use Rattle.ja_abstract.specs.AbstractValue.{Labels, AbstractProperty, same_label}
use Rattle.ja_abstract.specs.Contents.{SpotContent, label_of}
use Rattle.ja_abstract.specs.Resolved.{origins, renamed_labels, renamed}
use Rattle.ja_meaning.specs.Meaning.{Grows, IsOfHeap, knows}

-- the masks hold of two heaps, and no object goes from the one to the other
pub record IsAged (at_entry now : Heap) (mask : ℕ → Mask) : Type 0 where
  pub grows : Grows at_entry now
  pub some : (t : Site) → count at_entry t < count now t → IsTrue (mask t.0).some
  pub none : (t : Site) → count at_entry t ≡ count now t → IsTrue (mask t.0).none

-- an object that was there had a label that is an origin of its label now
abbrev pub HaveOrigins : Heap → Heap → (ℕ → Mask) → Type 0
HaveOrigins at_entry now mask =
    (a : Addr) → IsObjectOf at_entry a
    → IsTrue (list_any (same_label (label_of at_entry a)) (origins mask (label_of now a)))

-- the renamed labels have the label now of each object that had one of the labels there
abbrev pub AreRenamed : Heap → Heap → (ℕ → Mask) → Type 0
AreRenamed at_entry now mask =
    (a : Addr) (set : Labels) → IsObjectOf at_entry a → IsTrue (set (label_of at_entry a))
    → IsTrue (renamed_labels mask set (label_of now a))

-- what a property knew there the renamed one knows now
abbrev pub KnowsRenamed : Heap → Heap → (ℕ → Mask) → Type 0
KnowsRenamed at_entry now mask =
    (q : AbstractProperty) (c : SpotContent) → IsOfHeap at_entry c → IsTrue (knows at_entry q c)
    → IsTrue (knows now (renamed mask q) c)
