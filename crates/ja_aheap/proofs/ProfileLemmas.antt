-- Heaps and values at entry as they are kept are of the profile.
use Rattle.std.specs.Prelude.{ℕ, Bool, true, false, if◌then◌else◌, Option, None, Some, IfSome, slice_get}
use Rattle.std.specs.Option.{option_map, option_map_or, option_and_then}
use Rattle.std.specs.Ordering.{nat_cmp}
use Rattle.std.specs.BTreeMap.{BTreeMap, get}
use Rattle.std.specs.declared.rc.Rc.{Rc}
use Rattle.std.specs.Global.{Global}
use Rattle.ja_base.specs.declared.ids.Label.{Label}
use Rattle.ja_abstract.specs.declared.abstraction.Key.{Key}
use Rattle.ja_abstract.specs.AbstractValue.{entry_property}
use Rattle.ja_abstract.specs.AbstractState.{label_number, key_number}
use Rattle.ja_abstract.specs.Profile.{IsPropertyOfProfile}
use Rattle.ja_value.specs.declared.property.AProp.{AProp}
use Rattle.ja_value.specs.Value.{property_of}
use Rattle.ja_value.proofs.ProfileLemmas.{flags_of_profile, property_of_profile}
use Rattle.ja_aheap.specs.declared.entries.DemandedEntries.{DemandedEntries}
use Rattle.ja_aheap.specs.declared.heap.AHeap.{AHeap}
use Rattle.ja_aheap.specs.declared.object.AObject.{AObject}
use Rattle.ja_aheap.specs.Entries.{entries_of}
use Rattle.ja_aheap.specs.KeysBelow.{at_keys_below, is_key_below}
use Rattle.ja_aheap.specs.Heap.{heap_of}
use Rattle.ja_aheap.specs.Numbers.{property_in}
use Rattle.ja_aheap.specs.Objects.{at, object_of, shared_property}

entry_of_profile : IsPropertyOfProfile entry_property
entry_of_profile = flags_of_profile entry_property.value.flags

at_of_profile : (o : AObject) (q : ℕ) → IsPropertyOfProfile (at o q)
at_of_profile o q = by (get nat_cmp o.listed q)
  where
    by : (x : Option (Rc AProp Global))
        → IsPropertyOfProfile (option_map_or shared_property x (property_of o.common))
    by None = property_of_profile o.common
    by (Some p) = property_of_profile p.value

object_of_profile : (names : ℕ) (o : AObject) (k : Key)
    → IsPropertyOfProfile (at_keys_below names (object_of o) k)
object_of_profile names o k = by (is_key_below names k)
  where
    by : (b : Bool) → IsPropertyOfProfile (if b then object_of o k else entry_property)
    by true = at_of_profile o (key_number k)
    by false = entry_of_profile

-- what a heap has at a label and a key
pub heap_of_profile : (h : AHeap) (l : Label) (k : Key)
    → IsPropertyOfProfile ((heap_of h).property l k)
heap_of_profile h l k = by (slice_get h.objects (label_number l))
  where
    by : (x : Option AObject) → IsPropertyOfProfile (option_map_or (λ (o : AObject).
        at_keys_below h.names (object_of o) k) x entry_property)
    by None = entry_of_profile
    by (Some o) = object_of_profile h.names o k

-- what is kept of the values at entry
pub entries_of_profile : (e : DemandedEntries) (l : Label) (k : Key)
    → IfSome (entries_of e l k) IsPropertyOfProfile
entries_of_profile e l k = by (get nat_cmp e.objects (label_number l))
  where
    at_key : (x : Option AProp) → IfSome (option_map property_of x) IsPropertyOfProfile
    at_key None = tt
    at_key (Some q) = property_of_profile q

    by : (x : Option (BTreeMap ℕ AProp)) → IfSome (option_and_then (λ (m : BTreeMap ℕ AProp).
        property_in m (key_number k)) x) IsPropertyOfProfile
    by None = tt
    by (Some m) = at_key (get nat_cmp m (key_number k))
