-- AND, OR, XOR and the complement go bit by bit.
use Rattle.std.proofs.Common.{◌≡◌, ◌≤◌, ◌<◌, ◌⊎◌, inl, inr, ℕ, zero, suc, ◌+◌, ◌-◌, ◌/◌, ◌%◌, ◌^◌, min, max, not, ◌&&◌, ◌||◌, ◌==◌, pos, ◌-ℤ◌, arith, refl, sym, ap, ◌∙◌}
use Rattle.std.specs.Prelude.{unsigned_abs}
use Rattle.std.specs.Int.{bit_at, int_rem_euclid}
use Rattle.std.specs.Int.Bits.{and_lt}
use Rattle.std.proofs.lemmas.Bool.{cases_lt}
use Rattle.std.proofs.lemmas.Bool.Decides.{nat_tests}
use Rattle.std.proofs.lemmas.Int.{ints, int_rem_euclid_is}
use Rattle.std.proofs.lemmas.Nat.{or_lt, xor_lt}
use Rattle.std.proofs.lemmas.Nat.Bits.{bit_at_and, bit_at_or, bit_at_xor, bit_at-lt, bit_at-suc, bit_at_lowest}
use Rattle.ja_prim.specs.declared.primitive.Num.{Num}
use Rattle.ja_prim.specs.declared.primitive.Num.TheVariants.{NaN, Whole}
use Rattle.ja_prim.specs.Bits as bits
use Rattle.ja_prim.specs.Laws.{IsInt32, IsBitwise, IsComplement, differ}
use Rattle.ja_prim.proofs.Residues.{residue_below, low, high}

-- ---- a residue as a signed number, and back

pub uint32_below : (a : Num) → bits.to_uint32 a < 2 ^ 32
uint32_below NaN = omega arith
uint32_below (Whole z) = residue_below z

residue_of_low : (r : ℕ) → r < 2 ^ 31 → bits.residue (pos r) ≡ r
residue_of_low r h = omega arith

residue_of_high : (r : ℕ) → r < 2 ^ 32 → 2 ^ 31 ≤ r → bits.residue (pos r -ℤ pos (2 ^ 32)) ≡ r
residue_of_high r h l =
    let e : int_rem_euclid (pos r -ℤ pos (2 ^ 32)) (pos (2 ^ 32))
    ≡ pos (r % 2 ^ 32) = int_rem_euclid_is (pos r -ℤ pos (2 ^ 32)) (pos (2 ^ 32)) (2 ^ 32) 1 r
    (omega arith) refl (omega (arith, ints)) in
    ap unsigned_abs e ∙ omega arith

pub read_back : (r : ℕ) → r < 2 ^ 32 → bits.residue (bits.signed_of r) ≡ r
read_back r h = at (cases_lt r (2 ^ 31))
  where
    at : (r < 2 ^ 31) ⊎ (2 ^ 31 ≤ r) → bits.residue (bits.signed_of r) ≡ r
    at (inl l) = rw (low r l) (residue_of_low r l)
    at (inr l) = rw (high r l) (residue_of_high r h l)

pub is_int32 : (r : ℕ) → r < 2 ^ 32 → IsInt32 (Whole (bits.signed_of r))
is_int32 r h = at (cases_lt r (2 ^ 31))
  where
    at : (r < 2 ^ 31) ⊎ (2 ^ 31 ≤ r) → IsInt32 (Whole (bits.signed_of r))
    at (inl l) =
        record {
          value = bits.signed_of r;
          whole = refl;
          above = rw (low r l) (omega (arith, ints));
          below = rw (low r l) (omega (arith, ints));
        }
    at (inr l) =
        record {
          value = bits.signed_of r;
          whole = refl;
          above = rw (high r l) (omega (arith, ints));
          below = rw (high r l) (omega (arith, ints));
        }

-- ---- truth values of bits

both : (x y : ℕ) → x < 2 → y < 2 → (min x y == 1) ≡ ((x == 1) && (y == 1))
both x y h k = grind (arith, nat_tests)

either : (x y : ℕ) → x < 2 → y < 2 → (max x y == 1) ≡ ((x == 1) || (y == 1))
either x y h k = grind (arith, nat_tests)

one_of_two : (x y : ℕ) → x < 2 → y < 2 → ((x + y) % 2 == 1) ≡ differ (x == 1) (y == 1)
one_of_two zero zero h k = refl
one_of_two zero (suc zero) h k = refl
one_of_two (suc zero) zero h k = refl
one_of_two (suc zero) (suc zero) h k = refl
one_of_two (suc (suc x)) y h k = absurd (omega arith)
one_of_two x (suc (suc y)) h k = absurd (omega arith)

other : (x : ℕ) → x < 2 → (1 - x == 1) ≡ not (x == 1)
other x h = grind (arith, nat_tests)

-- ---- the complement

bit_at_complement : (w n k : ℕ) → n < 2 ^ w → k < w → bit_at (2 ^ w - 1 - n) k ≡ 1 - bit_at n k
bit_at_complement zero n k h l = absurd (omega arith)
bit_at_complement (suc w) n zero h l =
    omega (arith, bit_at_lowest (2 ^ suc w - 1 - n), bit_at_lowest n)
bit_at_complement (suc w) n (suc k) h l =
    let half : (2 ^ suc w - 1 - n) / 2 ≡ 2 ^ w - 1 - n / 2 = omega arith in
    bit_at-suc (2 ^ suc w - 1 - n) k ∙ ap (λ m. bit_at m k) half
    ∙ bit_at_complement w (n / 2) k (omega arith) (omega arith)
    ∙ ap (λ x. 1 - x) (sym (bit_at-suc n k))

-- ---- the operations

pub and_is : IsBitwise bits.and (λ p q. p && q)
and_is = record {
  signed = λ a b. is_int32 _ (and_lt 32 _ _ (uint32_below a) (uint32_below b));
  bits =
      λ a b k h. ap (λ r. bit_at r k == 1) (read_back _
      (and_lt 32 _ _ (uint32_below a) (uint32_below b)))
      ∙ ap (λ x. x == 1) (bit_at_and (bits.to_uint32 a) (bits.to_uint32 b) k)
      ∙ both _ _ (bit_at-lt _ k) (bit_at-lt _ k);
}

pub or_is : IsBitwise bits.or (λ p q. p || q)
or_is = record {
  signed = λ a b. is_int32 _ (or_lt 32 _ _ (uint32_below a) (uint32_below b));
  bits =
      λ a b k h. ap (λ r. bit_at r k == 1) (read_back _
      (or_lt 32 _ _ (uint32_below a) (uint32_below b)))
      ∙ ap (λ x. x == 1) (bit_at_or (bits.to_uint32 a) (bits.to_uint32 b) k)
      ∙ either _ _ (bit_at-lt _ k) (bit_at-lt _ k);
}

pub xor_is : IsBitwise bits.xor differ
xor_is = record {
  signed = λ a b. is_int32 _ (xor_lt 32 _ _ (uint32_below a) (uint32_below b));
  bits =
      λ a b k h. ap (λ r. bit_at r k == 1) (read_back _
      (xor_lt 32 _ _ (uint32_below a) (uint32_below b)))
      ∙ ap (λ x. x == 1) (bit_at_xor (bits.to_uint32 a) (bits.to_uint32 b) k)
      ∙ one_of_two _ _ (bit_at-lt _ k) (bit_at-lt _ k);
}

complement_below : (n : ℕ) → 2 ^ 32 - 1 - n < 2 ^ 32
complement_below n = omega arith

pub not_is : IsComplement bits.not
not_is = record {
  signed = λ a. is_int32 _ (complement_below (bits.to_uint32 a));
  bits = λ a k h. ap (λ r. bit_at r k == 1) (read_back _ (complement_below (bits.to_uint32 a)))
      ∙ ap (λ x. x == 1) (bit_at_complement 32 (bits.to_uint32 a) k (uint32_below a) h)
      ∙ other _ (bit_at-lt _ k);
}
