-- What clauses of the code cite beside `Streams`, and no believed statement.
use Rattle.std.specs.Prelude.{ℕ, ◌≤◌, List, length, Option}
use Rattle.ja_base.specs.Streams.{Takes}

-- some bytes were taken, and this many at most
abbrev pub TakesAtMost : ℕ → Option (List ℕ) → Option (List ℕ) → Type 0
TakesAtMost most before after = (bytes : List ℕ) × (length bytes ≤ most) × Takes before after bytes
