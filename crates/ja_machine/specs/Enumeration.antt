-- The names that `for`-`in` shows (ES3 12.6.4).
use Rattle.std.specs.Prelude.{ℕ, Bool, false, not, List, [], ◌∷◌, ◌++◌, map, filter, is_some}
use Rattle.std.specs.Option.{option_map_or}
use Rattle.ja_machine.specs.declared.machine.Addr.{Addr}
use Rattle.ja_machine.specs.declared.machine.Property.{Property}
use Rattle.ja_machine.specs.declared.machine.Object.{Object}
use Rattle.ja_machine.specs.declared.machine.Heap.{Heap}
use Rattle.ja_machine.specs.Heap.{object_at, own, get, prototypes}

abbrev pub is_enumerable : Property → Bool
is_enumerable q = not q.attrs.dont_enum

-- whether an object shows a name: the nearest property of the name is enumerable
abbrev pub shows : Heap → Addr → List ℕ → Bool
shows h a name = option_map_or is_enumerable (get h a name) false

abbrev pub own_names : Heap → Addr → List (List ℕ)
own_names h a =
    option_map_or (λ (o : Object). map (λ (q : Property). q.name)
    (filter is_enumerable o.properties)) (object_at h a) []

-- those of the objects of a chain, the nearest first; an own property hides those of its name
-- behind it
abbrev pub names_along : Heap → List Addr → List (List ℕ)
names_along h [] = []
names_along h (a ∷ rest) =
    own_names h a ++ filter (λ name. not (is_some (own h a name))) (names_along h rest)

-- the names that an object shows: its own in order of insertion, then those that it inherits
abbrev pub names : Heap → Addr → List (List ℕ)
names h a = names_along h (prototypes h a)
