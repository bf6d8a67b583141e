-- Abstract states: maps from registers to values, from labels and keys to properties, from sites to
-- masks.
use Rattle.std.specs.Prelude.{ℕ, ◌+◌, ◌*◌, Bool, true, false, ◌&&◌, ◌||◌, if◌then◌else◌, ◌==◌, nat_lt, List, [], ◌∷◌, ◌++◌, map, length}
use Rattle.std.specs.List.{flat_map, range_with_len}
use Rattle.ja_base.specs.declared.ids.Label.{Label}
use Rattle.ja_base.specs.declared.ids.Reg.{Reg}
use Rattle.ja_base.specs.declared.ids.Site.{Site}
use Rattle.ja_graph.specs.declared.program.Program.{Program}
use Rattle.ja_graph.specs.Program.{global}
use Rattle.ja_abstract.specs.declared.abstraction.Mask.{Mask}
use Rattle.ja_abstract.specs.declared.abstraction.Slot.{Slot}
use Rattle.ja_abstract.specs.declared.abstraction.Slot.TheVariants as slot
use Rattle.ja_abstract.specs.declared.abstraction.Key.{Key}
use Rattle.ja_abstract.specs.declared.abstraction.Key.TheVariants as key
use Rattle.ja_abstract.specs.AbstractValue.{AbstractValue, AbstractProperty, same_label, join, join_properties, absent_property}

pub record AbstractState : Type 0 where
  pub register : ℕ → AbstractValue
  pub property : Label → Key → AbstractProperty
  pub mask : ℕ → Mask

-- ---- labels and keys

abbrev pub new : Site → Label
new s = record { site = s; old = false }

abbrev pub old : Site → Label
old s = record { site = s; old = true }

abbrev pub site_of : ℕ → Site
site_of s = record { 0 = s }

abbrev pub sites_below : ℕ → List Site
sites_below n = map site_of (range_with_len 0 n)

-- the labels of the first n sites in order, and those of a program
abbrev pub labels_below : ℕ → List Label
labels_below n = flat_map (λ s. new (site_of s) ∷ old (site_of s) ∷ []) (range_with_len 0 n)

abbrev pub labels_of : Program → List Label
labels_of p = labels_below (length p.sites)

-- labels have numbers in this order
abbrev pub label_number : Label → ℕ
label_number l = 2 * l.site.0 + (if l.old then 1 else 0)

-- keys have numbers, so that they can be compared
abbrev pub slot_number : Slot → ℕ
slot_number slot.Prototype = 0
slot_number slot.Outer = 1
slot_number slot.Scope = 2
slot_number slot.Value = 3

abbrev pub key_number : Key → ℕ
key_number (key.Slot s) = slot_number s
key_number key.OtherIndex = 4
key_number key.OtherName = 5
key_number (key.Name n) = 6 + n.0

abbrev pub same_key : Key → Key → Bool
same_key a b = key_number a == key_number b

-- the keys of a program in order
abbrev pub name_key : ℕ → Key
name_key n = key.Name (record { 0 = n })

abbrev pub keys_below : ℕ → List Key
keys_below n =
    map name_key (range_with_len 0 n) ++ (key.OtherIndex ∷ key.OtherName ∷ key.Slot slot.Prototype
    ∷ key.Slot slot.Outer ∷ key.Slot slot.Scope ∷ key.Slot slot.Value ∷ [])

abbrev pub keys_of : Program → List Key
keys_of p = keys_below (length p.names)

-- a label is one of a program if its site is
abbrev pub is_label : Program → Label → Bool
is_label p l = nat_lt l.site.0 (length p.sites)

-- a key is one of a program if it is none of a name that the program doesn't have
abbrev pub is_key : Program → Key → Bool
is_key p (key.Name n) = nat_lt n.0 (length p.names)
is_key p k = true

-- ---- masks

abbrev pub exactly_none : Mask
exactly_none = record { none = true; some = false }

abbrev pub exactly_some : Mask
exactly_some = record { none = false; some = true }

abbrev pub join_masks : Mask → Mask → Mask
join_masks a b = record { none = a.none || b.none; some = a.some || b.some }

-- ---- states

abbrev pub join_states : AbstractState → AbstractState → AbstractState
join_states a b = record {
  register = λ r. join (a.register r) (b.register r);
  property = λ l k. join_properties (a.property l k) (b.property l k);
  mask = λ s. join_masks (a.mask s) (b.mask s);
}

abbrev pub with_register : AbstractState → Reg → AbstractValue → AbstractState
with_register s dst v = record s { register = λ r. if dst.0 == r then v else s.register r }

abbrev pub with_property : AbstractState → Label → Key → AbstractProperty → AbstractState
with_property s l k q =
    record s { property = λ m j. if same_label l m && same_key k j then q else s.property m j }

-- ---- an object more

-- a value after an object more was made at a site: the one that was new is old
abbrev pub aged : Site → AbstractValue → AbstractValue
aged s v =
    record v {
      label = λ l. if l.site.0 == s.0 then l.old && (v.label (old s) || v.label (new s))
          else v.label l;
    }

abbrev pub aged_property : Site → AbstractProperty → AbstractProperty
aged_property s q = record q { value = aged s q.value }

-- the new object's properties are exactly absent; the old ones are what the old ones or the one
-- that was new had
abbrev pub made_property : AbstractState → Site → Label → Key → AbstractProperty
made_property a s l k =
    if same_label (new s) l then absent_property else if same_label (old s) l
    then join_properties (aged_property s (a.property (old s) k))
    (aged_property s (a.property (new s) k)) else aged_property s (a.property l k)

abbrev pub with_made : AbstractState → Site → AbstractState
with_made a s = record {
  register = λ r. aged s (a.register r);
  property = made_property a s;
  mask = λ t. if s.0 == t then exactly_some else a.mask t;
}
