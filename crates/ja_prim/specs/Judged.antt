-- Whether the profile has an exact number.
use Rattle.std.specs.Prelude.{ℕ, ◌*◌, ◌/◌, ◌%◌, ◌==◌, nat_lt, if◌then◌else◌, Bool, ℤ, pos, neg_ℤ, Result, Ok, Err}
use Rattle.ja_prim.specs.declared.primitive.Num.{Num}
use Rattle.ja_prim.specs.declared.primitive.Num.TheVariants.{Whole}
use Rattle.ja_prim.specs.declared.stop.Stop.{Stop}
use Rattle.ja_prim.specs.declared.stop.Stop.TheVariants.{Fraction, Range}

-- the greatest magnitude: 2^53 - 1
abbrev pub max_magnitude : ℕ
max_magnitude = 9007199254740991

-- a magnitude with its sign; minus zero is zero
abbrev pub signed : Bool → ℕ → ℤ
signed negative n = if negative then neg_ℤ (pos n) else pos n

-- The number of this sign and magnitude n / d, where d isn't 0: first its range is judged, then
-- whether it is whole.
abbrev pub judged : Bool → ℕ → ℕ → Result Num Stop
judged negative n d =
    if nat_lt (max_magnitude * d) n then Err Range else if n % d == 0
    then Ok (Whole (signed negative (n / d))) else Err Fraction
