-- Shifts multiply and divide by powers of two.
use Rattle.std.proofs.Common.{◌≡◌, ◌<◌, ℕ, suc, ◌+◌, ◌-◌, ◌*◌, ◌/◌, ◌%◌, ◌^◌, ℤ, pos, negsuc, neg_ℤ, ◌*ℤ◌, arith, refl, sym, ap}
use Rattle.std.specs.Int.{int_div_euclid}
use Rattle.std.proofs.lemmas.Int.{ints}
use Rattle.std.proofs.lemmas.Nat.{div-add-mod', pow_pos}
use Rattle.std.proofs.Math.Nat.{mod-lt}
use Rattle.ja_prim.specs.declared.primitive.Num.{Num}
use Rattle.ja_prim.specs.Bits as bits
use Rattle.ja_prim.specs.Laws.{IsPlaces, IsFloor, IsShiftedLeft, IsShiftedRight}
use Rattle.ja_prim.proofs.Residues.{signed_residue}

-- ---- quotients, rounded down

floor_of : (u d : ℕ) → 0 < d → IsFloor (pos u) d (pos (u / d))
floor_of u d h = record { left = u % d; below = mod-lt u h; sum = ap pos (sym (div-add-mod' u d)) }

floor_of_negative : (a d : ℕ) → 0 < d → IsFloor (negsuc a) d (negsuc (a / d))
floor_of_negative a d h =
    let below : a % d < d = mod-lt a h in
    let parts : a / d * d + a % d ≡ a = div-add-mod' a d in
    let product : negsuc (a / d) *ℤ pos d ≡ neg_ℤ (pos (suc (a / d) * d)) = refl in
    let wider : suc (a / d) * d ≡ a / d * d + d = omega arith in
    record { left = d - 1 - a % d; below = omega arith; sum = omega (arith, ints) }

floor_of_int : (z : ℤ) (d : ℕ) → 0 < d → IsFloor z d (int_div_euclid z (pos d))
floor_of_int (pos a) d h = floor_of a d h
floor_of_int (negsuc a) d h = floor_of_negative a d h

-- ---- shifts

places_are : (b : Num) (n : ℕ) → IsPlaces b n → n ≡ bits.places b
places_are b n p = omega (arith, p.sum, p.below)

pub left : (a b : Num) (n : ℕ) → IsPlaces b n → IsShiftedLeft a n (bits.shl a b)
left a b n p =
    rw (places_are b n p) (_, refl, signed_residue (bits.to_int32 a *ℤ pos (2 ^ bits.places b)))

pub unsigned : (a b : Num) (n : ℕ) → IsPlaces b n
    → IsShiftedRight (pos (bits.to_uint32 a)) n (bits.ushr a b)
unsigned a b n p =
    rw (places_are b n p) (
      _,
      refl,
      floor_of (bits.to_uint32 a) (2 ^ bits.places b)
          (pow_pos (bits.places b)),
    )

pub right : (a b : Num) (n : ℕ) → IsPlaces b n → IsShiftedRight (bits.to_int32 a) n (bits.shr a b)
right a b n p =
    rw (places_are b n p) (
      _,
      refl,
      floor_of_int (bits.to_int32 a) (2 ^ bits.places b)
          (pow_pos (bits.places b)),
    )
