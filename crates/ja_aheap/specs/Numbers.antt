-- Labels and keys by number, and what is kept at numbers.
use Rattle.std.specs.Prelude.{ℕ, is_some, filter, List, Bool, Option}
use Rattle.std.specs.Option.{option_map, option_and_then}
use Rattle.std.specs.Ordering.{nat_cmp}
use Rattle.std.specs.BTreeMap.{BTreeMap, get}
use Rattle.ja_abstract.specs.declared.abstraction.Key.{Key}
use Rattle.ja_abstract.specs.AbstractValue.{AbstractProperty}
use Rattle.ja_abstract.specs.AbstractState.{key_number, keys_below}
use Rattle.ja_value.specs.declared.property.AProp.{AProp}
use Rattle.ja_value.specs.Value.{property_of}

-- demanded properties by the numbers of keys, and by the numbers of labels and keys
abbrev pub property_in : BTreeMap ℕ AProp → ℕ → Option AbstractProperty
property_in properties q = option_map property_of (get nat_cmp properties q)

abbrev pub entry_in : BTreeMap ℕ (BTreeMap ℕ AProp) → ℕ → ℕ → Option AbstractProperty
entry_in objects p q =
    option_and_then (λ (properties : BTreeMap ℕ AProp). property_in properties q)
    (get nat_cmp objects p)

abbrev pub is_demanded : BTreeMap ℕ AProp → Key → Bool
is_demanded properties k = is_some (get nat_cmp properties (key_number k))

-- the demanded keys of the first names, in order
abbrev pub keys_in : BTreeMap ℕ AProp → ℕ → List Key
keys_in properties names = filter (is_demanded properties) (keys_below names)
