-- What the analyser's heaps stand for: maps from labels and keys to properties, and from sites to
-- masks; and what a call makes of such a map.
use Rattle.std.specs.Prelude.{◌≡◌, ◌==◌, ◌<◌, ◌≤◌, ℕ, Bool, true, false, ◌&&◌, not, if◌then◌else◌, nat_lt, List, [], ◌∷◌, length, Option, None, Some, slice_get}
use Rattle.std.specs.Option.{option_map_or}
use denote.Ref.{Bor}
use Rattle.ja_base.specs.declared.ids.Label.{Label}
use Rattle.ja_base.specs.declared.ids.Site.{Site}
use Rattle.ja_graph.specs.declared.program.Program.{Program}
use Rattle.ja_abstract.specs.declared.abstraction.Key.{Key}
use Rattle.ja_abstract.specs.declared.abstraction.Key.TheVariants as key
use Rattle.ja_abstract.specs.declared.abstraction.Mask.{Mask}
use Rattle.ja_abstract.specs.AbstractValue.{AbstractProperty, same_label, no_value, entry_property, join_properties}
use Rattle.ja_abstract.specs.AbstractState.{AbstractState, label_number, same_key, made_property, exactly_none, exactly_some, join_masks}
use Rattle.ja_abstract.specs.Composed.{all_of, composed_mask}
use Rattle.ja_abstract.specs.Order.{LeqProperty}
use Rattle.ja_abstract.specs.Resolved.{resolved}
use Rattle.ja_abstract.specs.Made.{Own}
use Rattle.ja_abstract.specs.Writes.{Write, joined_at, replaced_at}
use Rattle.ja_value.specs.declared.property.AProp.{AProp}
use Rattle.ja_value.specs.Labels.{mask_in}
use Rattle.ja_value.specs.Value.{property_of}
use Rattle.ja_aheap.specs.declared.heap.AHeap.{AHeap}
use Rattle.ja_aheap.specs.declared.object.AObject.{AObject}
use Rattle.ja_aheap.specs.KeysBelow.{is_key_below, at_keys_below}
use Rattle.ja_aheap.specs.Objects.{object_of}

-- a heap of a program with so many sites and names
pub record HeapMap : Type 0 where
  pub sites : ℕ
  pub names : ℕ
  pub property : Label → Key → AbstractProperty
  pub mask : ℕ → Mask

-- ---- what a heap stands for

abbrev pub property_at : List AObject → ℕ → Label → Own
property_at objects names l k =
    option_map_or (λ (o : AObject). at_keys_below names (object_of o) k)
    (slice_get objects (label_number l)) entry_property

abbrev pub heap_of : AHeap → HeapMap
heap_of h =
    record {
      sites = h.sites;
      names = h.names;
      property = property_at h.objects h.names;
      mask = mask_in h.masks.value;
    }

-- ---- programs, labels and keys of a heap

pub record IsHeapOf (p : Program) (h : HeapMap) : Type 0 where
  pub sites : h.sites ≡ length p.sites
  pub names : h.names ≡ length p.names

pub record AreAlike (g h : HeapMap) : Type 0 where
  pub sites : g.sites ≡ h.sites
  pub names : g.names ≡ h.names

abbrev pub has_label : HeapMap → Label → Bool
has_label h l = nat_lt l.site.0 h.sites

abbrev pub has_key : HeapMap → Key → Bool
has_key h k = is_key_below h.names k

-- a key that stands for several names
abbrev pub is_rest : Key → Bool
is_rest key.OtherIndex = true
is_rest key.OtherName = true
is_rest k = false

-- ---- what calls make of a heap

-- the half of a state that is a heap
abbrev pub half : HeapMap → AbstractState
half h = record { register = λ r. no_value; property = h.property; mask = h.mask }

-- each property as at entry, and nothing made
abbrev pub entry_heap : ℕ → ℕ → HeapMap
entry_heap sites names =
    record {
      sites = sites;
      names = names;
      property =
          λ l k. entry_property;
      mask = λ s. exactly_none;
    }

abbrev pub with_property_in : HeapMap → Label → Key → AbstractProperty → HeapMap
with_property_in h l k q =
    record h { property = λ m j. if same_label l m && same_key k j then q else h.property m j }

-- an object more at a site, each key of which is exactly absent
abbrev pub made_in : HeapMap → Site → HeapMap
made_in h s =
    record h {
      property = λ l. at_keys_below h.names (made_property (half h) s l);
      mask = λ t. if s.0 == t then exactly_some else h.mask t;
    }

-- some masks are set, of those of one site the first
abbrev pub masks_with : List (Site × Mask) → (ℕ → Mask) → ℕ → Mask
masks_with [] mask s = mask s
masks_with (m ∷ ms) mask s = if m.0.0 == s then m.1 else masks_with ms mask s

abbrev pub with_masks_in : HeapMap → List (Site × Mask) → HeapMap
with_masks_in h masks = record h { mask = masks_with masks h.mask }

-- an object has these properties
abbrev pub with_own_in : HeapMap → Label → Own → HeapMap
with_own_in h l own =
    record h {
      property =
          λ m j. if same_label l m then at_keys_below h.names own j else h.property m j;
    }

-- writes at the one object of a label, and at all objects of a label
abbrev pub strongly_in : HeapMap → Label → List Write → HeapMap
strongly_in h l writes =
    record h {
      property = λ m j. if same_label l m then replaced_at writes
          (h.property m j) j else h.property m j;
    }

abbrev pub weakly_in : HeapMap → Label → List Write → HeapMap
weakly_in h l writes =
    record h {
      property = λ m j. if same_label l m then joined_at writes
          (h.property m j) j else h.property m j;
    }

abbrev pub join_heaps : HeapMap → HeapMap → HeapMap
join_heaps a b =
    record a {
      property = λ l k. join_properties (a.property l k) (b.property l k);
      mask = λ s. join_masks (a.mask s) (b.mask s);
    }

pub record LeqHeap (a b : HeapMap) : Type 0 where
  pub property : (l : Label) (k : Key) → LeqProperty (a.property l k) (b.property l k)
  pub mask : (s : ℕ) → join_masks (a.mask s) (b.mask s) ≡ b.mask s

-- a heap read through a later one
abbrev pub composed_in : HeapMap → HeapMap → HeapMap
composed_in a b =
    record a {
      property = λ l. at_keys_below a.names (resolved (half b) (all_of (half a)) l);
      mask = λ s. composed_mask (a.mask s) (b.mask s);
    }

-- ---- reading

-- a property, where one is kept
abbrev pub IsPropertyAt : HeapMap → Label → Key → Option (Bor AProp) → Type 0
IsPropertyAt h l k None = h.property l k ≡ entry_property
IsPropertyAt h l k (Some q) = property_of q.now ≡ h.property l k

-- a site whose mask isn't exactly none
abbrev pub is_masked : HeapMap → Site → Bool
is_masked h s = not ((h.mask s.0).none && not (h.mask s.0).some)

-- each label of the sites from one up to another is as at entry
abbrev pub AreUntouched : HeapMap → ℕ → ℕ → Type 0
AreUntouched h from to =
    (l : Label) (k : Key) → from ≤ l.site.0 → l.site.0 < to → h.property l k ≡ entry_property
