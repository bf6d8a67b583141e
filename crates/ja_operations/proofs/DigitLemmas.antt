-- The digits of a number, from the last one on.
use Rattle.std.proofs.Common.{◌≡◌, ◌<◌, ℕ, suc, ◌+◌, ◌-◌, ◌/◌, ◌%◌, Bool, true, false, List, [], ◌∷◌, refl, ap, ◌∙◌, arith}
use Rattle.std.specs.Prelude.{◌==◌, if◌then◌else◌}
use Rattle.std.specs.Fmt.{digit_glyph, digits_onto, digits}
use Rattle.std.specs.List.{insert}
use Rattle.std.proofs.lemmas.Bool.{eq-eqb, ne_eqb}

module _ (base rest : ℕ) (acc : List ℕ) where
  by_test : (k : ℕ) (t : Bool) → (rest / base == 0) ≡ t
      → digits_onto (suc k) base false rest acc
      ≡ (if t then digit_glyph false (rest % base) ∷ acc
      else digits_onto k base false (rest / base) (digit_glyph false (rest % base) ∷ acc))
  by_test k t e =
      ap (λ (b : Bool). if b then digit_glyph false (rest % base) ∷ acc
      else digits_onto k base false (rest / base) (digit_glyph false (rest % base) ∷ acc)) e

  one_left : (n i : ℕ) → i < n → digits_onto (n - i) base false rest acc
      ≡ digits_onto (suc (n - (i + 1))) base false rest acc
  one_left n i below = let e : n - i ≡ suc (n - (i + 1)) = omega arith in
      ap (λ (k : ℕ). digits_onto k base false rest acc) e

  -- the first digit of all
  pub ends : (n i : ℕ) → i < n → rest / base ≡ 0
      → digits_onto (n - i) base false rest acc ≡ digit_glyph false (rest % base) ∷ acc
  ends n i below e = one_left n i below ∙ by_test (n - (i + 1)) true (eq-eqb (rest / base) 0 e)

  -- a digit before which others stand
  pub goes_on : (n i : ℕ) → i < n → (rest / base ≡ 0 → ⊥)
      → digits_onto (n - i) base false rest acc
      ≡ digits_onto (n - (i + 1)) base false (rest / base) (digit_glyph false (rest % base) ∷ acc)
  goes_on n i below e = one_left n i below ∙ by_test (n - (i + 1)) false (ne_eqb (rest / base) 0 e)

-- all places
pub in_all : (base n : ℕ) → digits_onto 64 base false n [] ≡ digits base false n
unfolding digits
in_all base n = refl

-- no place is left
pub none_left : (base rest : ℕ) (acc : List ℕ) (k : ℕ) → k ≡ 0
    → digits_onto k base false rest acc ≡ acc
none_left base rest acc k e = ap (λ (j : ℕ). digits_onto j base false rest acc) e

pub insert_first : (xs : List ℕ) (x : ℕ) → insert xs 0 x ≡ x ∷ xs
insert_first xs x = refl
