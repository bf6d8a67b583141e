-- Which texts the symbols of the grammar have.
use Rattle.std.specs.Prelude.{ℕ, Bool, true, not, ◌&&◌, List, [], ◌∷◌, ◌++◌, map}
use Rattle.std.specs.List.{count_by, list_any}
use Rattle.std.specs.Str.{bytes_eq}
use Rattle.ja_syntax.specs.declared.symbol.Symbol.{Symbol}
use Rattle.ja_syntax.specs.declared.symbol.Symbol.TheVariants.{Name, Number, Text, End, Foreign}
use Rattle.ja_syntax.specs.Symbols.{keywords, punctuators, same_symbol}

-- the texts of a table
abbrev pub texts : {A : Type 0} → List (List ℕ × A) → List (List ℕ)
texts table = map (λ row. row.0) table

-- no text stands twice
abbrev pub are_distinct : List (List ℕ) → Bool
are_distinct [] = true
are_distinct (t ∷ ts) = not (list_any (bytes_eq t) ts) && are_distinct ts

-- how many keywords and punctuators a symbol is that of
abbrev pub spellings : Symbol → ℕ
spellings s = count_by (λ row. same_symbol row.1 s) (keywords ++ punctuators)

-- None of a name, a number, a string, the end, and what the grammar doesn't know; and of each other
-- symbol one.
abbrev pub expected_spellings : Symbol → ℕ
expected_spellings Name = 0
expected_spellings Number = 0
expected_spellings Text = 0
expected_spellings End = 0
expected_spellings Foreign = 0
expected_spellings _ = 1
