-- Values at entry, joined into those that are demanded.
use Rattle.std.specs.Prelude.{◌≡◌, ◌≢◌, ◌&&◌, if◌then◌else◌, List, [], ◌∷◌, IsSome, IsTrue, Option, Some, None}
use Rattle.std.specs.List.{list_any}
use Rattle.std.specs.Option.{option_map}
use Rattle.ja_base.specs.declared.ids.Label.{Label}
use Rattle.ja_abstract.specs.declared.abstraction.Key.{Key}
use Rattle.ja_abstract.specs.AbstractState.{AbstractState, same_key}
use Rattle.ja_abstract.specs.AbstractValue.{AbstractProperty, same_label, join_properties}
use Rattle.ja_abstract.specs.Resolved.{Demands, Entries, demands_of}
use Rattle.ja_value.specs.Value.{property_of}
use Rattle.ja_flow.specs.declared.values.EntryValue.{EntryValue}

-- a value is joined into each pair that is demanded
abbrev pub filled : Entries → (Label → Key → AbstractProperty) → Entries
filled entries value l k =
    option_map (λ (q : AbstractProperty). join_properties q (value l k)) (entries l k)

-- the values of pairs are set
abbrev pub with_set : Entries → List EntryValue → Entries
with_set entries [] l k = entries l k
with_set entries (v ∷ vs) l k =
    if same_label v.label l && same_key v.key k then Some (property_of v.value)
    else with_set entries vs l k

-- a pair's value with the other joined in, which changes it
pub record IsChanged (entries : Entries) (value : Label → Key → AbstractProperty) (l : Label)
    (k : Key) (v : EntryValue) : Type 0 where
  pub label : v.label ≡ l
  pub key : v.key ≡ k
  pub joined : Some (property_of v.value) ≡ filled entries value l k
  pub changed : filled entries value l k ≢ entries l k

-- .. if it changes
abbrev pub IsChange : Entries → (Label → Key → AbstractProperty) → Label → Key → Option EntryValue
    → Type 0
IsChange entries value l k None = filled entries value l k ≡ entries l k
IsChange entries value l k (Some v) = IsChanged entries value l k v

-- each pair that is demanded is in a list
abbrev pub AreDemanded : Entries → List (Label × Key) → Type 0
AreDemanded entries pairs =
    (l : Label) (k : Key) → IsSome (entries l k) → IsTrue (list_any
    (λ (p : Label × Key). same_label p.0 l && same_key p.1 k) pairs)

-- what the readings of some pairs take from the entry
abbrev pub demands_at_pairs : AbstractState → List (Label × Key) → Demands
demands_at_pairs a pairs m j =
    list_any (λ (p : Label × Key). demands_of a p.0 p.1 m j) pairs
