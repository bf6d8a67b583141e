-- The data that a value stands for.
use Rattle.std.specs.Prelude.{List, [], ◌∷◌, map, Option, Some, None, String, string_bytes}
use Rattle.std.specs.declared.alloc.Global.{Global}
use Rattle.serde_json.specs.Data.{Data, Items, item, Members, null, boolean, number, unsigned, string, array, object}
use Rattle.serde_json.specs.View.{items_of, members_of, number_view}
use Rattle.ja_cert_json.specs.declared.value.Json.{Json, fold-Json}
use Rattle.ja_cert_json.specs.declared.value.Json.TheOpen.{Json-F}

-- one level, with each value inside already seen as its data
abbrev pub view_step : Json-F Data → Data
view_step Json-F.Null = null
view_step (Json-F.Bool b) = boolean b
view_step (Json-F.Whole n) = number (unsigned n)
view_step (Json-F.Number x) = number (number_view x.value)
view_step (Json-F.Text s) = string (string_bytes s.value)
view_step (Json-F.List v) = array (items_of v.value.items)
view_step (Json-F.Object m) = object (members_of m.value.entries)

abbrev pub view : Json → Data
view = fold-Json Data view_step

abbrev pub items_view : List Json → Items
items_view xs = items_of (map view xs)

abbrev pub members_view : List (String Global × Json) → Members
members_view ms = members_of (map (λ m. (m.0, view m.1)) ms)

-- a value that was read beside another one: where there is none it is the same
abbrev pub seen : Json → Option Json → Data
seen other None = view other
seen other (Some json) = view json

-- items behind those of a list
abbrev pub items_before : List Json → Items → Items
items_before [] rest = rest
items_before (v ∷ vs) rest = item (view v) (items_before vs rest)
