-- How much of a text stands at the end of another, and no believed statement.
use Rattle.std.specs.Prelude.{ℕ, ◌≡◌, ◌≤◌, List, ◌++◌, length, take, drop, Some, slice_get}

-- a text stands at the end of another
abbrev pub StandsLast : List ℕ → List ℕ → Type 0
StandsLast text last = (before : List ℕ) × (text ≡ before ++ last)

-- so many of the first units of a mark stand there, and no more of them
pub record IsMet (mark text : List ℕ) (count : ℕ) : Type 0 where
  pub within : count ≤ length mark
  pub stands : StandsLast text (take count mark)
  pub most : (more : ℕ) → more ≤ length mark → StandsLast text (take more mark) → more ≤ count

-- for each beginning of a mark that has a unit or more, how many of the mark's first units stand at
-- its end besides itself
abbrev pub AreBorders : List ℕ → List ℕ → Type 0
AreBorders mark borders =
    (i border : ℕ) → slice_get borders i ≡ Some border → IsMet mark (take i (drop 1 mark)) border
