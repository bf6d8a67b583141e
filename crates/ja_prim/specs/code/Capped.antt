-- How a number is judged by its whole part alone, where that may be given as no more than a cap.
use Rattle.std.specs.Prelude.{ℕ, Bool, not, ◌&&◌, ◌||◌, ◌==◌, nat_lt, min, if◌then◌else◌, Result, Ok, Err}
use Rattle.ja_prim.specs.declared.primitive.Num.{Num}
use Rattle.ja_prim.specs.declared.primitive.Num.TheVariants.{Whole}
use Rattle.ja_prim.specs.declared.stop.Stop.{Stop}
use Rattle.ja_prim.specs.declared.stop.Stop.TheVariants.{Fraction, Range}
use Rattle.ja_prim.specs.Judged.{max_magnitude, signed}

-- the number, or 2^53 where it is greater
abbrev pub capped : ℕ → ℕ
capped n = min n 9007199254740992

-- a number with this whole part, which is whole or not
unfoldable pub parted : Bool → ℕ → Bool → Result Num Stop
parted negative value whole =
    if nat_lt max_magnitude value || (value == max_magnitude && not whole) then Err Range
    else if whole then Ok (Whole (signed negative value)) else Err Fraction
