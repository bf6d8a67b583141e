-- What clauses of the code cite beside `Texts`, and no believed statement.
use Rattle.std.specs.Prelude.{ℕ, List, ◌++◌}
use Rattle.std.specs.List.{flat_map}
use lib.Chars.{codes}

-- ---- values

-- parts with a bar behind each
unfoldable pub with_bars : List (List ℕ) → List ℕ
with_bars parts = flat_map (λ (x : List ℕ). x ++ codes "|") parts
