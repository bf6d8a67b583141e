-- The decimal literal that is read is the longest.
use Rattle.std.proofs.Common.{◌≡◌, ◌≤◌, ◌⊎◌, inl, inr, ℕ, suc, ◌+◌, Bool, true, false, ◌==◌, if◌then◌else◌, List, [], ◌∷◌, ◌++◌, append_assoc, length, length-append, length-drop, drop, arith, refl, ap, ◌∙◌, sym, subst}
use Rattle.std.specs.List.{list_all, prefix_len}
use Rattle.std.proofs.lemmas.Bool.{and_parts}
use Rattle.std.proofs.lemmas.Bool.Decides.{nat_tests}
use Rattle.std.proofs.lemmas.List.Folds.{length-prefix_len}
use Rattle.ja_prim.specs.Characters.{char_at, is_digit}
use Rattle.ja_prim.specs.Numerals.{digits, behind_digits, behind_fraction, is_sign, is_exponent_letter, power, exponent, behind_exponent, behind_decimal}
use Rattle.ja_lex.specs.Numbers.{decimal_length}
use Rattle.ja_lex.specs.Laws.{IsFraction, IsSign, IsExponent, IsDecimal}

pub if_true : {A : Type 0} {b : Bool} (x y : A) → b ≡ true → (if b then x else y) ≡ x
if_true x y h = rw h refl

pub if_false : {A : Type 0} {b : Bool} (x y : A) → b ≡ false → (if b then x else y) ≡ y
if_false x y h = rw h refl

point_no_digit : (c : ℕ) → c ≡ 46 → is_digit c ≡ false
point_no_digit c h = grind (arith, nat_tests)

letter_no_digit : (c : ℕ) → is_exponent_letter c ≡ true → is_digit c ≡ false
letter_no_digit c h = grind (arith, nat_tests)

letter_no_point : (c : ℕ) → is_exponent_letter c ≡ true → c == 46 ≡ false
letter_no_point c h = grind (arith, nat_tests)

digit_no_sign : (c : ℕ) → is_digit c ≡ true → is_sign c ≡ false
digit_no_sign c h = grind (arith, nat_tests)

-- ---- what stands behind digits

pub some_digits : (c : ℕ) (cs : List ℕ) → is_digit c ≡ true → 1 ≤ length (digits (c ∷ cs))
unfolding digits
some_digits c cs h =
    omega (arith, length-prefix_len is_digit (c ∷ cs), if_true (1 + prefix_len is_digit cs) 0 h)

pub no_digits : (c : ℕ) (cs : List ℕ) → is_digit c ≡ false → behind_digits (c ∷ cs) ≡ c ∷ cs
unfolding behind_digits
no_digits c cs h = ap (λ (k : ℕ). drop k (c ∷ cs)) (if_false (1 + prefix_len is_digit cs) 0 h)

pub digits_past : (ds cs : List ℕ) → list_all is_digit ds ≡ true
    → behind_digits (ds ++ cs) ≡ behind_digits cs
unfolding behind_digits
digits_past [] cs h = refl
digits_past (d ∷ ds) cs h =
    let e : (is_digit d ≡ true) × (list_all is_digit ds ≡ true) = and_parts (is_digit d)
    (list_all is_digit ds) h in
    let n : prefix_len is_digit (d ∷ (ds ++ cs))
    ≡ suc (prefix_len is_digit (ds ++ cs)) = if_true (1 + prefix_len is_digit (ds ++ cs)) 0 e.0
    ∙ omega arith in
    ap (λ (k : ℕ). drop k (d ∷ (ds ++ cs))) n ∙ digits_past ds cs e.1

pub digits_within : (cs : List ℕ) → length (behind_digits cs) ≤ length cs
unfolding behind_digits
digits_within cs = omega (arith, length-drop (prefix_len is_digit cs) cs)

-- ---- what stands behind a fraction and an exponent

within : (b : Bool) (xs ys : List ℕ) (n : ℕ) → length xs ≤ n → length ys ≤ n
    → length (if b then xs else ys) ≤ n
within true xs ys n h k = h
within false xs ys n h k = k

fraction_within : (cs : List ℕ) → length (behind_fraction cs) ≤ length cs
unfolding behind_fraction
fraction_within cs =
    within _ (behind_digits (drop 1 cs)) cs (length cs)
    (omega (arith, digits_within (drop 1 cs), length-drop 1 cs)) (omega arith)

power_within : (cs : List ℕ) → length (power cs) ≤ length cs
unfolding power
power_within cs =
    within _ (drop 2 cs) (drop 1 cs) (length cs) (omega (arith, length-drop 2 cs))
    (omega (arith, length-drop 1 cs))

exponent_within : (cs : List ℕ) → length (behind_exponent cs) ≤ length cs
unfolding behind_exponent
exponent_within cs =
    within _ cs (behind_digits (power cs)) (length cs) (omega arith)
    (omega (arith, digits_within (power cs), power_within cs))

power_is : (letter : ℕ) (sign : List ℕ) (d : ℕ) (cs : List ℕ) → IsSign sign → is_digit d ≡ true
    → power (letter ∷ (sign ++ d ∷ cs)) ≡ d ∷ cs
unfolding power
power_is letter [] d cs s h = if_false cs (d ∷ cs) (digit_no_sign d h)
power_is letter (c ∷ []) d cs s h = if_true (d ∷ cs) (c ∷ d ∷ cs) s.0
power_is letter (c ∷ b ∷ bs) d cs s h = cc

exponent_by : (cs : List ℕ) (d : ℕ) (ds : List ℕ) → is_exponent_letter (char_at cs 0) ≡ true
    → power cs ≡ d ∷ ds → is_digit d ≡ true → behind_exponent cs ≡ behind_digits (d ∷ ds)
unfolding exponent behind_exponent
exponent_by cs d ds l p h =
    let e : exponent cs ≡ digits (d ∷ ds) = if_true (digits (power cs)) [] l ∙ ap digits p in
    let n : 1 ≤ length (digits (d ∷ ds)) = some_digits d ds h in
    let z : (length (exponent cs) == 0) ≡ false = ap (λ (xs : List ℕ). length xs == 0) e
    ∙ grind (arith, nat_tests) in
    if_false cs (behind_digits (power cs)) z ∙ ap behind_digits p

-- an exponent begins with no digit and no point
record Passed (w rest : List ℕ) : Type 0 where
  pub no_digit : behind_digits (w ++ rest) ≡ w ++ rest
  pub no_point : behind_fraction (w ++ rest) ≡ w ++ rest
  pub past : behind_exponent (w ++ rest) ≡ behind_digits rest

passed_at : (letter : ℕ) (sign : List ℕ) (d : ℕ) (ds rest : List ℕ)
    → is_exponent_letter letter ≡ true → IsSign sign → is_digit d ≡ true
    → list_all is_digit ds ≡ true
    → Passed (letter ∷ (sign ++ d ∷ ds)) rest
unfolding behind_fraction
passed_at letter sign d ds rest l s h k = record {
  no_digit = no_digits letter ((sign ++ d ∷ ds) ++ rest) (letter_no_digit letter l);
  no_point = if_false _ _ (letter_no_point letter l);
  past =
      exponent_by (letter ∷ ((sign ++ d ∷ ds) ++ rest)) d (ds ++ rest) l
      (ap (λ (v : List ℕ). power (letter ∷ v)) (append_assoc sign (d ∷ ds) rest)
      ∙ power_is letter sign d (ds ++ rest) s h) h
      ∙ digits_past (d ∷ ds) rest (rw (h, k) refl);
}

passed : (w rest : List ℕ) → IsExponent w → Passed w rest
passed w rest h =
    subst (λ (v : List ℕ). Passed v rest) (sym h.split)
    (passed_at h.letter h.sign h.first h.others rest h.is_letter h.is_sign h.first_digit
    h.other_digits)

-- ---- the literal

past_power : (w rest : List ℕ) → (w ≡ []) ⊎ IsExponent w
    → length (behind_exponent (behind_digits (w ++ rest))) ≤ length rest
past_power w rest (inl e) =
    subst (λ (v : List ℕ). length (behind_exponent (behind_digits (v ++ rest))) ≤ length rest)
    (sym e) (omega (arith, exponent_within (behind_digits rest), digits_within rest))
past_power w rest (inr x) =
    let p = passed w rest x in
    let e : behind_exponent (behind_digits (w ++ rest))
    ≡ behind_digits rest = ap behind_exponent p.no_digit ∙ p.past in
    omega (arith, ap (length {A = ℕ}) e, digits_within rest)

past_point : (point w rest : List ℕ) → IsFraction point → (w ≡ []) ⊎ IsExponent w
    → length (behind_decimal (point ++ (w ++ rest))) ≤ length rest
unfolding behind_decimal behind_fraction
past_point [] w rest f (inl e) =
    subst (λ (v : List ℕ). length (behind_decimal (v ++ rest)) ≤ length rest) (sym e)
    (omega (
      arith,
      exponent_within (behind_fraction (behind_digits rest)),
      fraction_within (behind_digits rest),
      digits_within rest,
    ))
past_point [] w rest f (inr x) =
    let p = passed w rest x in
    let e : behind_decimal (w ++ rest) ≡ behind_digits rest = ap
    (λ (v : List ℕ). behind_exponent (behind_fraction v)) p.no_digit
    ∙ ap behind_exponent p.no_point ∙ p.past in
    omega (arith, ap (length {A = ℕ}) e, digits_within rest)
past_point (c ∷ ds) w rest f q =
    let tail : List ℕ = ds ++ (w ++ rest) in
    let p : (c == 46) ≡ true = let e : c ≡ 46 = f.0 in grind (arith, nat_tests) in
    let e : behind_fraction (behind_digits (c ∷ tail)) ≡ behind_digits (w ++ rest) =
    ap behind_fraction (no_digits c tail (point_no_digit c f.0))
    ∙ if_true (behind_digits tail) (c ∷ tail) p ∙ digits_past ds (w ++ rest) f.1 in
    subst (λ (v : List ℕ). length (behind_exponent v) ≤ length rest) (sym e) (past_power w rest q)

pub append_parts : (a b c r : List ℕ) → (a ++ (b ++ c)) ++ r ≡ a ++ (b ++ (c ++ r))
append_parts a b c r = simp append_assoc

pub decimal_longest : (w rest : List ℕ) → IsDecimal w → length w ≤ decimal_length (w ++ rest)
unfolding behind_decimal
decimal_longest w rest h =
    let e : w ++ rest ≡ h.whole ++ (h.point ++ (h.power ++ rest)) = ap (λ (v : List ℕ). v ++ rest)
    h.split ∙ append_parts h.whole h.point h.power rest in
    let f : behind_decimal (w ++ rest) ≡ behind_decimal (h.point ++ (h.power ++ rest)) =
    ap behind_decimal e ∙ ap (λ (v : List ℕ). behind_exponent (behind_fraction v))
    (digits_past h.whole (h.point ++ (h.power ++ rest)) h.whole_digits) in
    omega (
      arith,
      ap (length {A = ℕ}) f,
      past_point h.point h.power rest h.is_fraction h.is_power,
      length-append w rest,
    )
