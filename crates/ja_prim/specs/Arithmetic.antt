-- Arithmetic on numbers (ES3 11.4.7, 11.5, 11.6): the exact result, judged. Of NaN the result is
-- NaN.
use Rattle.std.specs.Prelude.{◌%◌, ◌==◌, if◌then◌else◌, Bool, true, false, ℤ, pos, negsuc, neg_ℤ, ◌+ℤ◌, ◌-ℤ◌, ◌*ℤ◌, unsigned_abs, Result, Ok, Err}
use Rattle.std.specs.Int.{is_negative}
use Rattle.ja_prim.specs.declared.primitive.Num.{Num}
use Rattle.ja_prim.specs.declared.primitive.Num.TheVariants.{NaN, Whole}
use Rattle.ja_prim.specs.declared.stop.Stop.{Stop}
use Rattle.ja_prim.specs.declared.stop.Stop.TheVariants.{Range}
use Rattle.ja_prim.specs.Judged.{judged}

-- an operation on whole numbers, and NaN where one of the two is NaN
abbrev pub of_both : (ℤ → ℤ → Result Num Stop) → Num → Num → Result Num Stop
of_both operation NaN b = Ok NaN
of_both operation (Whole m) NaN = Ok NaN
of_both operation (Whole m) (Whole n) = operation m n

-- an exact whole number, judged
abbrev pub judged_whole : ℤ → Result Num Stop
judged_whole z = judged (is_negative z) (unsigned_abs z) 1

-- the exact sum (11.6.3)
abbrev pub add : Num → Num → Result Num Stop
add = of_both (λ m n. judged_whole (m +ℤ n))

-- the exact difference (11.6.3)
abbrev pub sub : Num → Num → Result Num Stop
sub = of_both (λ m n. judged_whole (m -ℤ n))

-- the exact product (11.5.1)
abbrev pub mul : Num → Num → Result Num Stop
mul = of_both (λ m n. judged_whole (m *ℤ n))

-- whether just one of the two is negative
abbrev pub signs_differ : ℤ → ℤ → Bool
signs_differ (pos m) (pos n) = false
signs_differ (pos m) (negsuc n) = true
signs_differ (negsuc m) (pos n) = true
signs_differ (negsuc m) (negsuc n) = false

-- The exact quotient (11.5.2): negative where just one of the two is. By 0 it is infinite, but 0 /
-- 0 is NaN.
abbrev pub quotient : ℤ → ℤ → Result Num Stop
quotient m n =
    if unsigned_abs n == 0 then (if unsigned_abs m == 0 then Ok NaN else Err Range)
    else judged (signs_differ m n) (unsigned_abs m) (unsigned_abs n)

-- the quotient, and NaN of NaN
abbrev pub div : Num → Num → Result Num Stop
div = of_both quotient

-- The remainder of the magnitudes, with the sign of the dividend (11.5.3). By 0 it is NaN.
abbrev pub remainder : ℤ → ℤ → Result Num Stop
remainder m n =
    if unsigned_abs n == 0 then Ok NaN else judged (is_negative m) (unsigned_abs m % unsigned_abs n)
    1

-- the remainder, and NaN of NaN
abbrev pub rem : Num → Num → Result Num Stop
rem = of_both remainder

-- the opposite (11.4.7)
abbrev pub neg : Num → Num
neg NaN = NaN
neg (Whole m) = Whole (neg_ℤ m)
