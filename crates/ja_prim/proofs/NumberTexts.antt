-- The text of a number is short.
use Rattle.std.proofs.Common.{◌≤◌, ◌<◌, ◌^◌, ℤ, length, arith}
use Rattle.std.specs.Fmt.{signed_decimal}
use Rattle.std.specs.Int.Signed.{mag}
use Rattle.std.proofs.lemmas.Fmt.{length_signed_le}
use Rattle.ja_prim.specs.Texts.{max_units}

pub number_short : (z : ℤ) → mag z < 2 ^ 63 → length (signed_decimal z) ≤ max_units
number_short z small = omega (arith, length_signed_le 19 z (omega arith) small)
