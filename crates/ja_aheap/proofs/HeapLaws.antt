-- What each heap has, whatever it went through.
use Rattle.std.proofs.Common.{◌≡◌, ℕ, List, Bool, false, Option, Some, None, if◌then◌else◌, refl, ap, slice_get}
use Rattle.std.specs.Option.{option_map_or}
use Rattle.ja_base.specs.declared.ids.Label.{Label}
use Rattle.ja_abstract.specs.declared.abstraction.Key.{Key}
use Rattle.ja_abstract.specs.AbstractValue.{entry_property}
use Rattle.ja_abstract.specs.AbstractState.{label_number}
use Rattle.ja_aheap.specs.declared.heap.AHeap.{AHeap}
use Rattle.ja_aheap.specs.declared.object.AObject.{AObject}
use Rattle.ja_aheap.specs.KeysBelow.{is_key_below, at_keys_below}
use Rattle.ja_aheap.specs.Heap.{heap_of, has_key, property_at}
use Rattle.ja_aheap.specs.Objects.{object_of}

pub shown_other : (objects : List AObject) (names : ℕ) (l : Label) (k : Key)
    → is_key_below names k ≡ false → property_at objects names l k ≡ entry_property
shown_other objects names l k other = pick (slice_get objects (label_number l))
  where
    pick : (x : Option AObject)
        → option_map_or (λ (o : AObject). at_keys_below names (object_of o) k) x entry_property
        ≡ entry_property
    pick None = refl
    pick (Some o) = ap (λ (b : Bool). if b then object_of o k else entry_property) other

-- what is no key of the program is as at entry
pub other_key_entry : (h : AHeap) (l : Label) (k : Key) → has_key (heap_of h) k ≡ false
    → (heap_of h).property l k ≡ entry_property
other_key_entry h l k other = shown_other h.objects h.names l k other
