-- What the operations come to, in the words of the integers.
use Rattle.std.specs.Prelude.{◌≡◌, ◌≢◌, ◌↔◌, ◌⊎◌, ◌<◌, ◌≤◌, ℕ, ◌+◌, ◌*◌, ◌/◌, ◌%◌, ◌^◌, Bool, true, false, not, ◌==◌, ℤ, pos, ◌+ℤ◌, ◌*ℤ◌, ◌≤ℤ◌, ◌<ℤ◌, neg_ℤ, unsigned_abs, Result, Ok, Err}
use Rattle.std.specs.Int.{is_negative}
use Rattle.ja_prim.specs.declared.primitive.Num.{Num}
use Rattle.ja_prim.specs.declared.primitive.Num.TheVariants.{Whole}
use Rattle.ja_prim.specs.declared.stop.Stop.{Stop}
use Rattle.ja_prim.specs.declared.stop.Stop.TheVariants.{Range}
use Rattle.ja_prim.specs.Bits.{to_uint32, to_int32}
use Rattle.ja_prim.specs.Judged.{max_magnitude}

-- of whole numbers an operation is that of the integers where the profile has its result, and Range
-- exactly where not
pub record IsOfIntegers (operation : Num → Num → Result Num Stop) (exact : ℤ → ℤ → ℤ) : Type 0 where
  pub had : (m n : ℤ) → unsigned_abs (exact m n) ≤ max_magnitude
      → operation (Whole m) (Whole n) ≡ Ok (Whole (exact m n))
  pub range : (m n : ℤ) → (operation (Whole m) (Whole n) ≡ Err Range)
      ↔ (max_magnitude < unsigned_abs (exact m n))

-- q is the exact quotient of m by n
pub record IsQuotient (m n q : ℤ) : Type 0 where
  pub divisor : n ≢ pos 0
  pub product : m ≡ q *ℤ n

-- r is a remainder of m by n: what is left of m beside a multiple of n, less than n, and 0 or of
-- the sign of m
pub record IsRemainder (m n r : ℤ) : Type 0 where
  pub times : ℤ
  pub sum : m ≡ times *ℤ n +ℤ r
  pub small : unsigned_abs r < unsigned_abs n
  pub sign : (r ≡ pos 0) ⊎ (is_negative r ≡ is_negative m)

-- two whole numbers are congruent modulo 2^32
abbrev pub AreCongruent : ℤ → ℤ → Type 0
AreCongruent m n = (k : ℤ) × (m ≡ k *ℤ pos (2 ^ 32) +ℤ n)

-- n is the number from 0 to 2^32 - 1 that is congruent to z
pub record IsUnsignedResidue (z : ℤ) (n : ℕ) : Type 0 where
  pub below : n < 2 ^ 32
  pub congruent : AreCongruent z (pos n)

-- n is the number from -2^31 to 2^31 - 1 that is congruent to z
pub record IsSignedResidue (z n : ℤ) : Type 0 where
  pub above : neg_ℤ (pos (2 ^ 31)) ≤ℤ n
  pub below : n <ℤ pos (2 ^ 31)
  pub congruent : AreCongruent z n

-- whether bit k of a number's 32 bits is set (9.6); bit 0 is the lowest
abbrev pub bit : Num → ℕ → Bool
bit a k = to_uint32 a / 2 ^ k % 2 == 1

-- a whole number from -2^31 to 2^31 - 1
pub record IsInt32 (a : Num) : Type 0 where
  pub value : ℤ
  pub whole : a ≡ Whole value
  pub above : neg_ℤ (pos (2 ^ 31)) ≤ℤ value
  pub below : value <ℤ pos (2 ^ 31)

-- the result has 32 bits, and each is what an operation on truth values makes of those of the
-- operands (11.10)
pub record IsBitwise (operation : Num → Num → Num) (of_bits : Bool → Bool → Bool) : Type 0 where
  pub signed : (a b : Num) → IsInt32 (operation a b)
  pub bits : (a b : Num) (k : ℕ) → k < 32 → bit (operation a b) k ≡ of_bits (bit a k) (bit b k)

-- just one of the two
abbrev pub differ : Bool → Bool → Bool
differ true q = not q
differ false q = q

-- the result has 32 bits, and each is the other one than the operand's (11.4.8)
pub record IsComplement (operation : Num → Num) : Type 0 where
  pub signed : (a : Num) → IsInt32 (operation a)
  pub bits : (a : Num) (k : ℕ) → k < 32 → bit (operation a) k ≡ not (bit a k)

-- a shift by b moves n places: what is left of its residue beside a multiple of 32 (11.7)
pub record IsPlaces (b : Num) (n : ℕ) : Type 0 where
  pub times : ℕ
  pub sum : to_uint32 b ≡ times * 32 + n
  pub below : n < 32

-- q is the quotient of z by d, rounded down
pub record IsFloor (z : ℤ) (d : ℕ) (q : ℤ) : Type 0 where
  pub left : ℕ
  pub below : left < d
  pub sum : z ≡ q *ℤ pos d +ℤ pos left

-- the left shift by n places is times 2^n, modulo 2^32 (11.7.1); the right shifts are quotients by
-- 2^n (11.7.2, 11.7.3)
abbrev pub IsShiftedLeft : Num → ℕ → Num → Type 0
IsShiftedLeft a n result =
    (z : ℤ) × (result ≡ Whole z) × IsSignedResidue (to_int32 a *ℤ pos (2 ^ n)) z

abbrev pub IsShiftedRight : ℤ → ℕ → Num → Type 0
IsShiftedRight z n result = (q : ℤ) × (result ≡ Whole q) × IsFloor z (2 ^ n) q
