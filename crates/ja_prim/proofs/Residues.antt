-- Conversion to 32 bits is modulo 2^32.
use Rattle.std.proofs.Common.{◌≡◌, ◌≤◌, ◌<◌, ◌⊎◌, inl, inr, ℕ, ◌/◌, ◌^◌, ℤ, pos, negsuc, ◌+ℤ◌, ◌-ℤ◌, arith, refl, sym, subst}
use Rattle.std.proofs.lemmas.Bool.{cases_lt, lt-ltb, le-ltb}
use Rattle.std.proofs.lemmas.Int.{ints}
use Rattle.ja_prim.specs.declared.primitive.Num.TheVariants.{Whole}
use Rattle.ja_prim.specs.Bits as bits
use Rattle.ja_prim.specs.Laws.{AreCongruent, IsUnsignedResidue, IsSignedResidue}

pub residue_below : (z : ℤ) → bits.residue z < 2 ^ 32
residue_below (pos a) = omega arith
residue_below (negsuc a) = omega arith

residue_congruent : (z : ℤ) → AreCongruent z (pos (bits.residue z))
residue_congruent (pos a) = (pos (a / 2 ^ 32), omega (arith, ints))
residue_congruent (negsuc a) = (negsuc (a / 2 ^ 32), omega (arith, ints))

pub unsigned_residue : (z : ℤ) → IsUnsignedResidue z (bits.to_uint32 (Whole z))
unsigned_residue z = record { below = residue_below z; congruent = residue_congruent z }

pub low : (r : ℕ) → r < 2 ^ 31 → bits.signed_of r ≡ pos r
low r h = rw (lt-ltb r (2 ^ 31) h) refl

pub high : (r : ℕ) → 2 ^ 31 ≤ r → bits.signed_of r ≡ pos r -ℤ pos (2 ^ 32)
high r h = rw (le-ltb r (2 ^ 31) h) refl

shifted : (z n : ℤ) → AreCongruent z n → AreCongruent z (n -ℤ pos (2 ^ 32))
shifted z n h = (h.0 +ℤ pos 1, omega (arith, ints, h.1))

signed_residue_of : (z : ℤ) (r : ℕ) → r < 2 ^ 32 → AreCongruent z (pos r)
    → (r < 2 ^ 31) ⊎ (2 ^ 31 ≤ r) → IsSignedResidue z (bits.signed_of r)
signed_residue_of z r small h (inl l) =
    subst (IsSignedResidue z) (sym (low r l))
    (record { above = omega (arith, ints); below = omega (arith, ints); congruent = h })
signed_residue_of z r small h (inr l) =
    subst (IsSignedResidue z) (sym (high r l))
    (record {
      above = omega (arith, ints);
      below = omega (arith, ints);
      congruent = shifted z (pos r) h;
    })

pub signed_residue : (z : ℤ) → IsSignedResidue z (bits.to_int32 (Whole z))
signed_residue z =
    signed_residue_of z (bits.residue z) (residue_below z) (residue_congruent z)
    (cases_lt (bits.residue z) (2 ^ 31))
