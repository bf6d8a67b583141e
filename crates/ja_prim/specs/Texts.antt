-- The units of a text, when two texts are equal, the greatest length of one, and what an operation
-- that takes memory may answer.
use Rattle.std.specs.Prelude.{ℕ, Bool, nat_eq, nat_le, nat_lt, if◌then◌else◌, List, length, Result, Ok, Err}
use Rattle.std.specs.Cmp.Lexicographic.{pointwise}
use Rattle.ja_prim.specs.declared.stop.Stop.{Stop}
use Rattle.ja_prim.specs.declared.stop.Stop.TheVariants.{TextLength}

-- the same units
abbrev pub same_text : List ℕ → List ℕ → Bool
same_text a b = pointwise nat_eq a b

-- the most units that a text of the profile may have: 2^20
abbrev pub max_units : ℕ
max_units = 1048576

-- units that aren't too many for a text
abbrev pub is_short : List ℕ → Bool
is_short units = nat_le (length units) max_units

-- the text of these units, if it isn't too long
abbrev pub limited_text : List ℕ → Result (List ℕ) Stop
limited_text units = if nat_lt max_units (length units) then Err TextLength else Ok units
