-- The properties of an object at the keys of a program, and how two objects are compared and
-- joined.
use Rattle.std.specs.Prelude.{ℕ, if◌then◌else◌, List, slice_get}
use Rattle.std.specs.Option.{option_map_or}
use Rattle.ja_base.specs.declared.ids.Label.{Label}
use Rattle.ja_base.specs.declared.ids.Site.{Site}
use Rattle.ja_abstract.specs.declared.abstraction.Key.{Key}
use Rattle.ja_abstract.specs.AbstractValue.{same_label, join_properties, absent_property, entry_property}
use Rattle.ja_abstract.specs.AbstractState.{new, old, aged_property}
use Rattle.ja_abstract.specs.Made.{Own}
use Rattle.ja_abstract.specs.Order.{LeqProperty}
use Rattle.ja_aheap.specs.declared.object.AObject.{AObject}
use Rattle.ja_aheap.specs.KeysBelow.{at_keys_below}
use Rattle.ja_aheap.specs.Objects.{object_of}

-- what an object has at the keys of the first names; at any other key everything is as at entry
abbrev pub own_below : ℕ → AObject → Own
own_below names o = at_keys_below names (object_of o)

abbrev pub join_owns : Own → Own → Own
join_owns a b k = join_properties (a k) (b k)

abbrev pub LeqOwn : Own → Own → Type 0
LeqOwn a b = (k : Key) → LeqProperty (a k) (b k)

-- the object of a number, where there is one, as a heap shows it
abbrev pub own_in_place : ℕ → List AObject → ℕ → Own
own_in_place names objects n k =
    option_map_or (λ (o : AObject). own_below names o k) (slice_get objects n) entry_property

-- after an object more was made at a site
abbrev pub aged_own : Site → Own → Own
aged_own s own k = aged_property s (own k)

-- the object that was new at a site among the old ones, and a new one that has each key exactly
-- absent
abbrev pub moved_in : ℕ → Site → (Label → Own) → Label → Own
moved_in names s own l =
    if same_label (new s) l then at_keys_below names (λ k. absent_property)
    else if same_label (old s) l then join_owns (own (old s)) (own (new s)) else own l
