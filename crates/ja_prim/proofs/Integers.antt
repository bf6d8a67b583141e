-- Arithmetic on whole numbers is that of the integers.
use Rattle.std.proofs.Common.{◌≡◌, ◌≢◌, ◌↔◌, ◌≤◌, ◌<◌, ◌⊎◌, inl, inr, ℕ, zero, suc, ◌+◌, ◌*◌, ◌/◌, ◌%◌, Bool, true, false, ℤ, pos, negsuc, neg_ℤ, ◌+ℤ◌, ◌*ℤ◌, unsigned_abs, Result, Ok, Err, arith, refl, ap, ◌∙◌, sym, subst}
use Rattle.std.specs.Int.{is_negative}
use Rattle.std.specs.Int.RustNames.{int_div, int_rem}
use Rattle.std.proofs.lemmas.Bool.{cases_lt, le-ltb, ne_eqb}
use Rattle.std.proofs.lemmas.Bool.Decides.{nat_tests}
use Rattle.std.proofs.lemmas.Int.{ints, quot-rem, rem_below, unsigned_abs-mul}
use Rattle.std.proofs.lemmas.Nat.{div-mul-add, mod-mul-add}
use Rattle.std.proofs.Math.Nat.{mod-one, div-one, mul-le-mul_right, mul-lt-mul_of_pos_right, mod-le}
use Rattle.ja_prim.specs.declared.primitive.Num.{Num}
use Rattle.ja_prim.specs.declared.primitive.Num.TheVariants.{Whole}
use Rattle.ja_prim.specs.declared.stop.Stop.{Stop}
use Rattle.ja_prim.specs.declared.stop.Stop.TheVariants.{Fraction, Range}
use Rattle.ja_prim.specs.Judged.{max_magnitude, signed, judged}
use Rattle.ja_prim.specs.Arithmetic as numbers
use Rattle.ja_prim.specs.Laws.{IsOfIntegers, IsQuotient, IsRemainder}

-- ---- judged

judged_had : (s : Bool) (n d : ℕ) → n ≤ max_magnitude * d → n % d ≡ 0
    → judged s n d ≡ Ok (Whole (signed s (n / d)))
judged_had s n d h e = grind (arith, nat_tests)

judged_range : (s : Bool) (n d : ℕ) → max_magnitude * d < n → judged s n d ≡ Err Range
judged_range s n d h = grind (arith, nat_tests)

judged_ok : (s : Bool) (n d : ℕ) (q : ℤ) → judged s n d ≡ Ok (Whole q)
    → (n % d ≡ 0) × (q ≡ signed s (n / d))
judged_ok s n d q h = grind (arith, nat_tests)

-- ---- whole numbers

signed_is : (z : ℤ) → signed (is_negative z) (unsigned_abs z) ≡ z
signed_is (pos n) = rw (le-ltb n 0 (omega arith)) refl
signed_is (negsuc n) = refl

whole_had : (z : ℤ) → unsigned_abs z ≤ max_magnitude → numbers.judged_whole z ≡ Ok (Whole z)
whole_had z h =
    judged_had (is_negative z) (unsigned_abs z) 1 (omega arith) (mod-one (unsigned_abs z))
    ∙ ap (λ (n : ℕ). let r : Result Num Stop = Ok (Whole (signed (is_negative z) n)) in r)
    (div-one (unsigned_abs z))
    ∙ ap (λ (n : ℤ). let r : Result Num Stop = Ok (Whole n) in r) (signed_is z)

whole_range : (z : ℤ) → (numbers.judged_whole z ≡ Err Range) ↔ (max_magnitude < unsigned_abs z)
whole_range z = (
  λ h. go h (cases_lt max_magnitude (unsigned_abs z)),
  λ h. judged_range (is_negative z) (unsigned_abs z) 1 (omega arith),
)
  where
    go : numbers.judged_whole z ≡ Err Range
        → (max_magnitude < unsigned_abs z) ⊎ (unsigned_abs z ≤ max_magnitude)
        → max_magnitude < unsigned_abs z
    go h (inl l) = l
    go h (inr l) = let e : numbers.judged_whole z ≡ Ok (Whole z) = whole_had z l in cc

pub of_integers : (exact : ℤ → ℤ → ℤ) → IsOfIntegers
    (numbers.of_both (λ m n. numbers.judged_whole (exact m n))) exact
of_integers exact =
    record { had = λ m n h. whole_had (exact m n) h; range = λ m n. whole_range (exact m n) }

-- ---- quotients

div_is : (m n : ℤ) → int_div m n ≡ signed (numbers.signs_differ m n)
    (unsigned_abs m / unsigned_abs n)
div_is (pos a) (pos b) = refl
div_is (pos a) (negsuc b) = refl
div_is (negsuc a) (pos b) = refl
div_is (negsuc a) (negsuc b) = refl

rem_is : (m n : ℤ) → int_rem m n ≡ signed (is_negative m) (unsigned_abs m % unsigned_abs n)
rem_is (pos a) n = rw (le-ltb a 0 (omega arith)) refl
rem_is (negsuc a) n = refl

signed_zero : (s : Bool) (n : ℕ) → n ≡ 0 → signed s n ≡ pos 0
signed_zero true n h = rw h refl
signed_zero false n h = rw h refl

plus_zero : (z : ℤ) → z +ℤ pos 0 ≡ z
plus_zero z = omega (arith, ints)

-- what a division by another number than 0 is
divided : (m n : ℤ) → (unsigned_abs n ≡ 0 → ⊥)
    → numbers.quotient m n ≡ judged (numbers.signs_differ m n) (unsigned_abs m) (unsigned_abs n)
divided m n h = rw (ne_eqb (unsigned_abs n) 0 h) refl

by_zero : (m n q : ℤ) → unsigned_abs n ≡ 0 → numbers.quotient m n ≡ Ok (Whole q) → ⊥
by_zero m n q h e = grind (arith, nat_tests)

abs_zero : (n : ℤ) → unsigned_abs n ≡ 0 → n ≡ pos 0
abs_zero (pos a) h = ap pos h
abs_zero (negsuc a) h = absurd (omega arith)

abs_some : (n : ℤ) → n ≢ pos 0 → unsigned_abs n ≡ 0 → ⊥
abs_some n h e = h (abs_zero n e)

no_zero : (n : ℤ) → (unsigned_abs n ≡ 0 → ⊥) → n ≢ pos 0
no_zero n h e = h (ap unsigned_abs e)

pub quotient_exact : (m n q : ℤ) → numbers.div (Whole m) (Whole n) ≡ Ok (Whole q) → IsQuotient m n q
quotient_exact m n q h =
    let some : unsigned_abs n ≡ 0 → ⊥ = λ e. by_zero m n q e h in
    let parts : (unsigned_abs m % unsigned_abs n ≡ 0)
    × (q ≡ signed (numbers.signs_differ m n) (unsigned_abs m / unsigned_abs n)) =
    judged_ok (numbers.signs_differ m n) (unsigned_abs m) (unsigned_abs n) q
    (sym (divided m n some) ∙ h) in
    let left : int_rem m n ≡ pos 0 = rem_is m n
    ∙ signed_zero (is_negative m) (unsigned_abs m % unsigned_abs n) parts.0 in
    let times : int_div m n ≡ q = div_is m n ∙ sym parts.1 in
    record {
      divisor = no_zero n some;
      product =
          sym (quot-rem m n) ∙ ap (λ (z : ℤ). int_div m n *ℤ n +ℤ z) left
          ∙ plus_zero (int_div m n *ℤ n) ∙ ap (λ (z : ℤ). z *ℤ n) times;
    }

sign_of_negative : (k a b : ℕ) → k ≡ a * suc b
    → signed (numbers.signs_differ (neg_ℤ (pos k)) (negsuc b)) a ≡ pos a
sign_of_negative zero a b h = let e : a ≡ 0 = omega arith in rw e refl
sign_of_negative (suc k) a b h = refl

sign_of_positive : (k a b : ℕ) → (b ≡ 0 → ⊥) → k ≡ suc a * b
    → signed (numbers.signs_differ (neg_ℤ (pos k)) (pos b)) (suc a) ≡ negsuc a
sign_of_positive zero a b n h = absurd (n (omega arith))
sign_of_positive (suc k) a b n h = refl

sign_found : (q n : ℤ) → (unsigned_abs n ≡ 0 → ⊥)
    → signed (numbers.signs_differ (q *ℤ n) n) (unsigned_abs q) ≡ q
sign_found (pos a) (pos b) h = refl
sign_found (pos a) (negsuc b) h = sign_of_negative (a * suc b) a b refl
sign_found (negsuc a) (pos b) h = sign_of_positive (suc a * b) a b h refl
sign_found (negsuc a) (negsuc b) h = refl

quotient_of_product : (q n : ℤ) → unsigned_abs q ≤ max_magnitude → (unsigned_abs n ≡ 0 → ⊥)
    → numbers.quotient (q *ℤ n) n ≡ Ok (Whole q)
quotient_of_product q n small h =
    let some : 0 < unsigned_abs n = omega arith in
    let e : unsigned_abs (q *ℤ n) ≡ unsigned_abs q * unsigned_abs n + 0 = unsigned_abs-mul q n
    ∙ omega arith in
    let below : unsigned_abs q * unsigned_abs n
    ≤ max_magnitude * unsigned_abs n = mul-le-mul_right (unsigned_abs n) small in
    let left : unsigned_abs (q *ℤ n) % unsigned_abs n ≡ 0 = ap (λ (k : ℕ). k % unsigned_abs n) e
    ∙ mod-mul-add (unsigned_abs q) (unsigned_abs n) 0 some in
    let times : unsigned_abs (q *ℤ n) / unsigned_abs n
    ≡ unsigned_abs q = ap (λ (k : ℕ). k / unsigned_abs n) e
    ∙ div-mul-add (unsigned_abs q) (unsigned_abs n) 0 some in
    divided (q *ℤ n) n h
    ∙ judged_had (numbers.signs_differ (q *ℤ n) n) (unsigned_abs (q *ℤ n)) (unsigned_abs n)
    (omega (arith, e, below)) left
    ∙ ap (λ (k : ℕ). let r : Result Num Stop = Ok
    (Whole (signed (numbers.signs_differ (q *ℤ n) n) k)) in r) times
    ∙ ap (λ (z : ℤ). let r : Result Num Stop = Ok (Whole z) in r) (sign_found q n h)

pub quotient_found : (m n q : ℤ) → unsigned_abs q ≤ max_magnitude → IsQuotient m n q
    → numbers.div (Whole m) (Whole n) ≡ Ok (Whole q)
quotient_found m n q small h =
    ap (λ (z : ℤ). numbers.quotient z n) h.product
    ∙ quotient_of_product q n small (abs_some n h.divisor)

zero_whole : (m n : ℤ) → unsigned_abs n ≡ 0 → numbers.quotient m n ≡ Err Fraction → ⊥
zero_whole m n h e = grind (arith, nat_tests)

too_great : (q n : ℤ) → max_magnitude < unsigned_abs q → (unsigned_abs n ≡ 0 → ⊥)
    → numbers.quotient (q *ℤ n) n ≡ Err Range
too_great q n large h =
    let some : 0 < unsigned_abs n = omega arith in
    let more : max_magnitude * unsigned_abs n
    < unsigned_abs q * unsigned_abs n = mul-lt-mul_of_pos_right large some in
    divided (q *ℤ n) n h ∙ judged_range (numbers.signs_differ (q *ℤ n) n) (unsigned_abs (q *ℤ n))
    (unsigned_abs n) (omega (arith, unsigned_abs-mul q n, more))

not_fraction : (q n : ℤ) → (unsigned_abs n ≡ 0 → ⊥)
    → (max_magnitude < unsigned_abs q) ⊎ (unsigned_abs q ≤ max_magnitude)
    → numbers.quotient (q *ℤ n) n ≡ Err Fraction → ⊥
not_fraction q n h (inl large) e =
    let r : numbers.quotient (q *ℤ n) n ≡ Err Range = too_great q n large h in cc
not_fraction q n h (inr small) e =
    let r : numbers.quotient (q *ℤ n) n ≡ Ok (Whole q) = quotient_of_product q n small h in cc

pub fraction_of_none : (m n q : ℤ) → numbers.div (Whole m) (Whole n) ≡ Err Fraction → m ≢ q *ℤ n
fraction_of_none m n q h e =
    let some : unsigned_abs n ≡ 0 → ⊥ = λ z. zero_whole m n z h in
    not_fraction q n some (cases_lt max_magnitude (unsigned_abs q))
    (ap (λ (z : ℤ). numbers.quotient z n) (sym e) ∙ h)

-- ---- remainders

sign_kept : (k : ℕ) → (neg_ℤ (pos k) ≡ pos 0) ⊎ (is_negative (neg_ℤ (pos k)) ≡ true)
sign_kept zero = inl refl
sign_kept (suc k) = inr refl

sign_of_rem : (m n : ℤ) → (int_rem m n ≡ pos 0) ⊎ (is_negative (int_rem m n) ≡ is_negative m)
sign_of_rem (pos a) n =
    inr (le-ltb (a % unsigned_abs n) 0 (omega arith) ∙ sym (le-ltb a 0 (omega arith)))
sign_of_rem (negsuc a) n = sign_kept (suc a % unsigned_abs n)

is_remainder : (m n : ℤ) → (unsigned_abs n ≡ 0 → ⊥) → IsRemainder m n (int_rem m n)
is_remainder m n h =
    record {
      times = int_div m n;
      sum = sym (quot-rem m n);
      small = rem_below m n (omega arith);
      sign = sign_of_rem m n;
    }

rem_by_zero : (m n r : ℤ) → unsigned_abs n ≡ 0 → numbers.remainder m n ≡ Ok (Whole r) → ⊥
rem_by_zero m n r h e = grind (arith, nat_tests)

left_over : (m n : ℤ) → (unsigned_abs n ≡ 0 → ⊥)
    → numbers.remainder m n ≡ judged (is_negative m) (unsigned_abs m % unsigned_abs n) 1
left_over m n h = rw (ne_eqb (unsigned_abs n) 0 h) refl

pub remainder_exact : (m n r : ℤ) → numbers.rem (Whole m) (Whole n) ≡ Ok (Whole r)
    → IsRemainder m n r
remainder_exact m n r h =
    let some : unsigned_abs n ≡ 0 → ⊥ = λ e. rem_by_zero m n r e h in
    let parts : (unsigned_abs m % unsigned_abs n % 1 ≡ 0)
    × (r ≡ signed (is_negative m) (unsigned_abs m % unsigned_abs n / 1)) =
    judged_ok (is_negative m) (unsigned_abs m % unsigned_abs n) 1 r
    (sym (left_over m n some) ∙ h) in
    let e : int_rem m n ≡ r = rem_is m n ∙ ap (signed (is_negative m))
    (sym (div-one (unsigned_abs m % unsigned_abs n))) ∙ sym parts.1 in
    subst (IsRemainder m n) e (is_remainder m n some)

pub remainder_found : (m n : ℤ) → unsigned_abs m ≤ max_magnitude → n ≢ pos 0
    → (r : ℤ) × (numbers.rem (Whole m) (Whole n) ≡ Ok (Whole r))
remainder_found m n small h =
    let some : unsigned_abs n ≡ 0 → ⊥ = abs_some n h in
    let left : ℕ = unsigned_abs m % unsigned_abs n in
    let within : left ≤ unsigned_abs m = mod-le (unsigned_abs m) (unsigned_abs n) in (
      signed (is_negative m) (left / 1),
      left_over m n some
          ∙ judged_had (is_negative m) left 1 (omega arith) (mod-one left),
    )
