-- What is as it was at the entry: labels renamed, the resolved reading and what it demands (SAS
-- 2010, lazy propagation); and the least sets of labels that are closed under a step.
use Rattle.std.specs.Prelude.{ℕ, zero, suc, Bool, false, ◌&&◌, ◌||◌, if◌then◌else◌, List, [], ◌∷◌, map, length, Option, IsTrue, IsSome}
use Rattle.std.specs.List.{list_any}
use Rattle.std.specs.Option.{option_map_or}
use Rattle.ja_base.specs.declared.ids.Label.{Label}
use Rattle.ja_abstract.specs.declared.abstraction.Mask.{Mask}
use Rattle.ja_abstract.specs.declared.abstraction.Slot.TheVariants as slot
use Rattle.ja_abstract.specs.declared.abstraction.Key.{Key}
use Rattle.ja_abstract.specs.declared.abstraction.Key.TheVariants as key
use Rattle.ja_abstract.specs.AbstractValue.{Labels, AbstractValue, AbstractProperty, same_label, join, join_properties, no_value, no_property}
use Rattle.ja_abstract.specs.AbstractState.{AbstractState, new, old, same_key}

-- the values at entry that were demanded: none where the pair was not, and one without parts where
-- it isn't filled yet
abbrev pub Entries : Type 0
Entries = Label → Key → Option AbstractProperty

-- the pairs that a reading demands
abbrev pub Demands : Type 0
Demands = Label → Key → Bool

-- ---- from the entry to now

-- the labels at the entry of the objects that have this label now
abbrev pub origins : (ℕ → Mask) → Label → List Label
origins mask l =
    if l.old then old l.site ∷ (if (mask l.site.0).some then new l.site ∷ [] else [])
    else (if (mask l.site.0).none then new l.site ∷ [] else [])

-- the labels now of the objects that had these labels at the entry
abbrev pub renamed_labels : (ℕ → Mask) → Labels → Labels
renamed_labels mask set l =
    if l.old then set (old l.site) || (set (new l.site) && (mask l.site.0).some)
    else set (new l.site) && (mask l.site.0).none

abbrev pub renamed : (ℕ → Mask) → AbstractProperty → AbstractProperty
renamed mask q = record q { value = record q.value { label = renamed_labels mask q.value.label } }

-- the part that isn't as at entry
abbrev pub known_part : AbstractProperty → AbstractProperty
known_part q =
    record q { value = record q.value { flags = record q.value.flags { entry = false } } }

abbrev pub join_all : List AbstractProperty → AbstractProperty
join_all [] = no_property
join_all (q ∷ qs) = join_properties q (join_all qs)

-- what the objects of a label now had at entry
abbrev pub from_entry : AbstractState → Entries → Label → Key → AbstractProperty
from_entry a entries l k =
    join_all (map (λ (m : Label). option_map_or (renamed a.mask) (entries m k) no_property)
    (origins a.mask l))

-- the resolved reading: the property, with what was there at entry in the place of `entry`
abbrev pub resolved : AbstractState → Entries → Label → Key → AbstractProperty
resolved a entries l k =
    let q = a.property l k in
    if q.value.flags.entry then join_properties (known_part q) (from_entry a entries l k) else q

abbrev pub demands_of : AbstractState → Label → Key → Demands
demands_of a l k m j =
    (a.property l k).value.flags.entry && same_key k j
    && list_any (λ (o : Label). same_label o m) (origins a.mask l)

-- ---- walks: the least sets of labels that are closed under a step

abbrev pub one_more : (Label → Labels) → List Label → Labels → Labels
one_more next labels set l = set l || list_any (λ (m : Label). set m && next m l) labels

abbrev pub rounds : (Label → Labels) → List Label → Labels → ℕ → Labels
rounds next labels start zero = start
rounds next labels start (suc n) = one_more next labels (rounds next labels start n)

-- each round but the last adds a label, so as many rounds as there are labels are enough
abbrev pub reached : (Label → Labels) → List Label → Labels → Labels
reached next labels start = rounds next labels start (length labels)

abbrev pub prototype : Key
prototype = key.Slot slot.Prototype

abbrev pub outer : Key
outer = key.Slot slot.Outer

abbrev pub join_values : List AbstractValue → AbstractValue
join_values [] = no_value
join_values (v ∷ vs) = join v (join_values vs)

-- each pair that is demanded has a value at entry
abbrev pub IsFilled : Entries → Demands → Type 0
IsFilled entries demands = (l : Label) (k : Key) → IsTrue (demands l k) → IsSome (entries l k)
