-- The lines of a text.
use Rattle.std.specs.Prelude.{ℕ, ◌-◌, ◌+◌, if◌then◌else◌, List, [], ◌∷◌, slice_get, unwrap_or}
use Rattle.ja_lex.specs.Spots.{ends_line}

-- a character in front of the first of some lines
abbrev pub in_first : ℕ → List (List ℕ) → List (List ℕ)
in_first c [] = (c ∷ []) ∷ []
in_first c (line ∷ lines) = (c ∷ line) ∷ lines

-- the lines of these characters, without those that end them (ES3 7.3)
unfoldable pub lines_of : List ℕ → List (List ℕ)
lines_of [] = [] ∷ []
lines_of (c ∷ cs) = if ends_line (c ∷ cs) then [] ∷ lines_of cs else in_first c (lines_of cs)

-- the line with this number, from 1
abbrev pub line_at : List (List ℕ) → ℕ → List ℕ
line_at lines number = unwrap_or (slice_get lines (number - 1)) []

-- how many of these characters end their line
abbrev pub endings : List ℕ → ℕ
endings [] = 0
endings (c ∷ cs) = (if ends_line (c ∷ cs) then 1 else 0) + endings cs
