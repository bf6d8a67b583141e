-- The text of a number is read back.
use Rattle.std.proofs.Common.{◌≡◌, ◌≤◌, ◌<◌, ℕ, zero, suc, ℤ, pos, negsuc, neg_ℤ, ◌≤ℤ◌, ◌+◌, ◌-◌, Bool, true, false, ◌&&◌, ◌==◌, List, [], ◌∷◌, append-nil, length, get_or, take, drop, codes, Ok, arith, lit<, lit≤, refl, ap, ◌∙◌}
use Rattle.std.specs.Char.{digit_value}
use Rattle.std.specs.Fmt.{decimal, signed_decimal}
use Rattle.std.specs.List.{prefix_len, suffix_len}
use Rattle.std.specs.Str.Parse.{digits_value, AllDigits}
use Rattle.std.proofs.lemmas.Bool.Decides.{nat_tests}
use Rattle.std.proofs.lemmas.Fmt.{decimal_is_IsNumeral}
use Rattle.std.proofs.lemmas.Int.{ints}
use Rattle.std.proofs.lemmas.List.{take_all, drop_all}
use Rattle.std.proofs.lemmas.List.Sums.{suffix_len_is}
use Rattle.std.proofs.Math.Nat.{mul-one}
use Rattle.ja_prim.specs.declared.primitive.Num.{Num}
use Rattle.ja_prim.specs.declared.primitive.Num.TheVariants.{NaN, Whole}
use Rattle.ja_prim.specs.Blanks.{behind_blanks, before_blanks}
use Rattle.ja_prim.specs.Characters.{is_white, is_terminator, is_blank, is_digit}
use Rattle.ja_prim.specs.Texts.{same_text}
use Rattle.ja_prim.specs.Judged.{judged, signed, max_magnitude}
use Rattle.ja_prim.specs.LawsOfTexts.{IsReadBack}
use Rattle.ja_prim.specs.Numerals as numerals
use Rattle.ja_prim.specs.TextToNumber as spec
use Rattle.ja_prim.proofs.Exact.{judged_found}

-- ---- units

digit_unit : (c : ℕ) → digit_value c < 10 → is_digit c ≡ true
digit_unit c h = grind (arith, nat_tests)

digit_not_blank : (c : ℕ) → digit_value c < 10 → is_blank c ≡ false
unfolding is_white is_terminator
digit_not_blank c h = grind (arith, nat_tests)

minus_not_blank : is_blank 45 ≡ false
unfolding is_white is_terminator
minus_not_blank = refl

digit_not_sign : (c : ℕ) → digit_value c < 10 → numerals.is_sign c ≡ false
digit_not_sign c h = grind (arith, nat_tests)

digit_not : (c n : ℕ) → digit_value c < 10 → 58 ≤ n → (c == n) ≡ false
digit_not c n h k = grind (arith, nat_tests)

-- ---- runs of digits

prefix_all : (ds : List ℕ) → AllDigits 10 ds → prefix_len is_digit ds ≡ length ds
prefix_all [] h = refl
prefix_all (d ∷ ds) h =
    rw (digit_unit d h.0) (ap (λ (n : ℕ). 1 + n) (prefix_all ds h.1) ∙ omega arith)

digits_all : (ds : List ℕ) → AllDigits 10 ds → numerals.digits ds ≡ ds
unfolding numerals.digits
digits_all ds h =
    ap (λ (n : ℕ). take n ds) (prefix_all ds h) ∙ take_all (length ds) ds (omega arith)

behind_all : (ds : List ℕ) → AllDigits 10 ds → numerals.behind_digits ds ≡ []
unfolding numerals.behind_digits
behind_all ds h =
    ap (λ (n : ℕ). drop n ds) (prefix_all ds h) ∙ drop_all (length ds) ds (omega arith)

digit_at : (ds : List ℕ) (i : ℕ) → AllDigits 10 ds → i < length ds
    → digit_value (get_or ds i 0) < 10
digit_at [] i h k = absurd (omega arith)
digit_at (d ∷ ds) zero h k = h.0
digit_at (d ∷ ds) (suc i) h k = digit_at ds i h.1 (omega arith)

-- ---- no blanks at the ends

whole_text : (c : ℕ) (cs : List ℕ) → is_blank c ≡ false
    → is_blank (get_or (c ∷ cs) (length cs) 0) ≡ false
    → before_blanks (behind_blanks (c ∷ cs)) ≡ c ∷ cs
unfolding behind_blanks before_blanks
whole_text c cs h k =
    let t : List ℕ = c ∷ cs in
    let e : drop (prefix_len is_blank t) t ≡ t = rw h refl in
    let last : 0 < length t → is_blank (get_or t (length t - 1) 0)
    ≡ false = λ _. ap (λ (i : ℕ). is_blank (get_or t i 0))
    (let f : length t - 1 ≡ length cs = omega arith in f) ∙ k in
    let s : suffix_len is_blank t ≡ 0 = suffix_len_is is_blank t (length t) 0 (omega arith)
    (λ j a b. absurd (omega arith)) last ∙ omega arith in
    ap (λ (u : List ℕ). take (length u - suffix_len is_blank u) u) e
    ∙ ap (λ (n : ℕ). take (length t - n) t) s ∙ take_all (length t - 0) t (omega arith)

-- ---- literals of digits

some : (n : ℕ) → (suc n + 0 == 0) ≡ false
some n = grind (arith, nat_tests)

positive : (n : ℕ) → (suc n == 0) ≡ false
positive n = grind (arith, nat_tests)

decimal_of_digits : (negative : Bool) (d : ℕ) (ds : List ℕ) → AllDigits 10 (d ∷ ds)
    → spec.decimal negative (d ∷ ds) ≡ judged negative (digits_value 10 (d ∷ ds)) 1
unfolding spec.decimal numerals.behind_decimal numerals.fraction numerals.behind_fraction
    numerals.exponent numerals.behind_exponent numerals.decimal_value numerals.placed
decimal_of_digits negative d ds h =
    rw (digits_all (d ∷ ds) h, behind_all (d ∷ ds) h, some (length ds), append-nil ds, mul-one) refl

and_false : (b : Bool) → b && false ≡ false
and_false true = refl
and_false false = refl

not_hexadecimal : (d : ℕ) (ds : List ℕ) → AllDigits 10 ds → spec.is_hexadecimal (d ∷ ds) ≡ false
unfolding spec.is_hexadecimal
not_hexadecimal d [] h = rw (and_false (d == 48)) refl
not_hexadecimal d (e ∷ es) h =
    rw (digit_not e 120 h.0 (lit≤ tt), digit_not e 88 h.0 (lit≤ tt), and_false (d == 48)) refl

no_sign : (d : ℕ) (ds : List ℕ) → digit_value d < 10 → spec.unsigned (d ∷ ds) ≡ d ∷ ds
unfolding spec.unsigned
no_sign d ds h = rw (digit_not_sign d h) refl

not_infinity : (d : ℕ) (ds : List ℕ) → digit_value d < 10
    → same_text (d ∷ ds) (codes "Infinity") ≡ false
not_infinity d ds h = rw (digit_not d 73 h (lit≤ tt)) refl

not_minus : (c : ℕ) → digit_value c < 10 → (c == 45) ≡ false
not_minus c h = grind (arith, nat_tests)

last_digit : (d : ℕ) (ds : List ℕ) → AllDigits 10 (d ∷ ds)
    → is_blank (get_or (d ∷ ds) (length ds) 0) ≡ false
last_digit d ds h =
    digit_not_blank (get_or (d ∷ ds) (length ds) 0) (digit_at (d ∷ ds) (length ds) h (omega arith))

signed_digits : (d : ℕ) (ds : List ℕ) → AllDigits 10 (d ∷ ds)
    → spec.signed_literal (d ∷ ds) ≡ spec.decimal false (d ∷ ds)
unfolding spec.signed_literal
signed_digits d ds h = rw (no_sign d ds h.0, not_infinity d ds h.0, not_minus d h.0) refl

signed_minus : (d : ℕ) (ds : List ℕ) → AllDigits 10 (d ∷ ds)
    → spec.signed_literal (45 ∷ d ∷ ds) ≡ spec.decimal true (d ∷ ds)
unfolding spec.signed_literal spec.unsigned
signed_minus d ds h = rw (not_infinity d ds h.0) refl

literal_digits : (d : ℕ) (ds : List ℕ) → AllDigits 10 (d ∷ ds)
    → spec.literal (d ∷ ds) ≡ spec.signed_literal (d ∷ ds)
unfolding spec.literal
literal_digits d ds h = rw (not_hexadecimal d ds h.1, positive (length ds)) refl

literal_minus : (ds : List ℕ) → spec.literal (45 ∷ ds) ≡ spec.signed_literal (45 ∷ ds)
unfolding spec.literal spec.is_hexadecimal
literal_minus ds = rw (positive (length ds)) refl

-- ---- texts

value_of : (negative : Bool) (d : ℕ) (ds : List ℕ) (n : ℕ) → AllDigits 10 (d ∷ ds)
    → digits_value 10 (d ∷ ds) ≡ n → n ≤ max_magnitude
    → spec.decimal negative (d ∷ ds) ≡ Ok (Whole (signed negative n))
value_of negative d ds n h e small =
    decimal_of_digits negative d ds h ∙ ap (λ (x : ℕ). judged negative x 1) e
    ∙ judged_found negative n 1 n (lit< tt) (omega arith) small

read_digits : (n : ℕ) (t : List ℕ) → 0 < length t → AllDigits 10 t → digits_value 10 t ≡ n
    → n ≤ max_magnitude → spec.text_to_number t ≡ Ok (Whole (pos n))
unfolding spec.text_to_number
read_digits n [] h k e small = absurd (omega arith)
read_digits n (d ∷ ds) h k e small =
    ap spec.literal (whole_text d ds (digit_not_blank d k.0) (last_digit d ds k))
    ∙ literal_digits d ds k ∙ signed_digits d ds k ∙ value_of false d ds n k e small

read_minus : (n : ℕ) (t : List ℕ) → 0 < length t → AllDigits 10 t → digits_value 10 t ≡ n
    → n ≤ max_magnitude → spec.text_to_number (45 ∷ t) ≡ Ok (Whole (signed true n))
unfolding spec.text_to_number
read_minus n [] h k e small = absurd (omega arith)
read_minus n (d ∷ ds) h k e small =
    ap spec.literal (whole_text 45 (d ∷ ds) minus_not_blank (last_digit d ds k))
    ∙ literal_minus (d ∷ ds) ∙ signed_minus d ds k ∙ value_of true d ds n k e small

nan_back : spec.text_to_number (codes "NaN") ≡ Ok NaN
unfolding spec.text_to_number spec.literal spec.is_hexadecimal spec.signed_literal spec.unsigned
    spec.decimal numerals.digits numerals.behind_digits numerals.fraction numerals.behind_fraction
    numerals.exponent numerals.behind_exponent numerals.behind_decimal behind_blanks before_blanks
    is_white is_terminator
nan_back = refl

whole_back : (z : ℤ) → neg_ℤ (pos max_magnitude) ≤ℤ z → z ≤ℤ pos max_magnitude
    → spec.text_to_number (signed_decimal z) ≡ Ok (Whole z)
whole_back (pos n) low high =
    let small : n ≤ max_magnitude = omega (arith, ints) in
    let i = decimal_is_IsNumeral n (omega arith) in
    read_digits n (decimal n) i.0.0 i.0.1 i.1 small
whole_back (negsuc n) low high =
    let small : suc n ≤ max_magnitude = omega (arith, ints) in
    let i = decimal_is_IsNumeral (suc n) (omega arith) in
    read_minus (suc n) (decimal (suc n)) i.0.0 i.0.1 i.1 small

pub read_back : (n : Num) → IsReadBack n
read_back NaN = nan_back
read_back (Whole z) = whole_back z
