-- The numbers of names.
use Rattle.std.specs.Prelude.{ℕ, List, [], ◌∷◌, ◌++◌}
use Rattle.std.specs.Bool.{if◌then◌else◌}
use Rattle.std.specs.List.{list_any, position_or_len}
use Rattle.std.specs.Str.{bytes_eq}
use Rattle.ja_base.specs.declared.ids.NameId.{NameId}

-- the number of a name: its first place among the names, or the number behind the last one where it
-- is none of them
abbrev pub number : List (List ℕ) → List ℕ → NameId
number names t = record { 0 = position_or_len (bytes_eq t) names }

-- the names, and this one behind them where it is new
abbrev pub with_name : List (List ℕ) → List ℕ → List (List ℕ)
with_name names t = if list_any (bytes_eq t) names then names else names ++ t ∷ []
