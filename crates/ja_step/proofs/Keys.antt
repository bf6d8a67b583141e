-- Numbers of the profile are keys.
use Rattle.std.proofs.Common.{◌≡◌, ◌≤ℤ◌, ℤ, pos, negsuc, true, Some, refl, arith}
use Rattle.std.specs.Prelude.{neg_ℤ, nat_le, unsigned_abs}
use Rattle.std.proofs.lemmas.Bool.{le-leb}
use Rattle.std.proofs.lemmas.Int.{ints}
use Rattle.ja_prim.specs.declared.primitive.Num.TheVariants.{Whole}
use Rattle.ja_prim.specs.Conversions.{to_text}
use Rattle.ja_prim.specs.Judged.{max_magnitude}
use Rattle.ja_prim.specs.declared.primitive.Primitive.TheVariants.{Number}
use Rattle.ja_machine.specs.Values.{is_in_profile, key_of_number}

-- a whole number within its range is one of the profile
in_profile : (z : ℤ) → neg_ℤ (pos max_magnitude) ≤ℤ z → z ≤ℤ pos max_magnitude
    → is_in_profile (Whole z) ≡ true
in_profile (pos n) low high = le-leb n max_magnitude (omega (arith, ints))
in_profile (negsuc n) low high =
    le-leb (unsigned_abs (negsuc n)) max_magnitude (omega (arith, ints))

-- .. so it is a key
pub number_is_key : (z : ℤ) → neg_ℤ (pos max_magnitude) ≤ℤ z → z ≤ℤ pos max_magnitude
    → key_of_number (Whole z) ≡ Some (to_text (Number (Whole z)))
number_is_key z low high = rw (in_profile z low high) refl
