-- States in which objects were made whose properties aren't written yet, and what is listed of
-- activations and arguments objects.
use Rattle.std.specs.Prelude.{ℕ, List, [], ◌∷◌, map, slice_get, Option, Some, None}
use Rattle.std.specs.List.{flat_map, range_with_len}
use Rattle.std.specs.Option.{option_map_or}
use Rattle.ja_base.specs.declared.ids.FnId.{FnId}
use Rattle.ja_base.specs.declared.ids.NameId.{NameId}
use Rattle.ja_base.specs.declared.ids.Site.{Site}
use Rattle.ja_graph.specs.declared.attrs.TheConstants.{DONT_DELETE}
use Rattle.ja_graph.specs.declared.program.Program.{Program}
use Rattle.ja_abstract.specs.declared.abstraction.Key.{Key}
use Rattle.ja_abstract.specs.declared.abstraction.Key.TheVariants as key
use Rattle.ja_abstract.specs.AbstractValue.{AbstractProperty}
use Rattle.ja_abstract.specs.AbstractState.{AbstractState, with_made}
use Rattle.ja_abstract.specs.Resolved.{join_all}
use Rattle.ja_abstract.specs.Made.{argument_property, index_property, parameter_register, property_of}

-- an object was made at a site, and maybe another one at a second site
abbrev pub aged_at : AbstractState → Site → Option Site → AbstractState
aged_at a first None = with_made a first
aged_at a first (Some second) = with_made (with_made a first) second

-- what an activation has of the parameter of a number
abbrev pub parameter_at : AbstractState → List NameId → ℕ → List (Key × AbstractProperty)
parameter_at a names j =
    option_map_or (λ (n : NameId). property_of (key.Name n)
    (a.register (parameter_register j)) DONT_DELETE ∷ []) (slice_get names j) []

-- what an arguments object has at each of some keys, if it is that of an index
abbrev pub listed_at : Key → Option AbstractProperty → List (Key × AbstractProperty)
listed_at k None = []
listed_at k (Some q) = (k, q) ∷ []

abbrev pub index_properties : Program → FnId → AbstractState → List Key
    → List (Key × AbstractProperty)
index_properties p f a keys = flat_map (λ (k : Key). listed_at k (index_property p f a k)) keys

-- what the arguments from one number on have, as many as are told
abbrev pub arguments_from : Program → FnId → AbstractState → ℕ → ℕ → AbstractProperty
arguments_from p f a from count =
    join_all (map (argument_property p f a) (range_with_len from count))
