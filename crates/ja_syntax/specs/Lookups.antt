-- Tables from texts.
use Rattle.std.specs.Prelude.{ℕ, if◌then◌else◌, List, [], ◌∷◌, Option, Some, None}
use Rattle.std.specs.Str.{bytes_eq}

-- what a table gives for a text
abbrev pub lookup : {A : Type 0} → List (List ℕ × A) → List ℕ → Option A
lookup [] text = None
lookup (entry ∷ entries) text = if bytes_eq entry.0 text then Some entry.1 else lookup entries text
