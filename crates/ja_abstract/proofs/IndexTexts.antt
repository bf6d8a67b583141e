-- The texts of indices are those of numbers that are indices, and the number of such a text is one.
use Rattle.std.specs.Prelude.{◌≡◌, ◌<◌, ◌≤◌, ◌+◌, ◌-◌, ◌*◌, ◌/◌, ◌%◌, ◌^◌, ◌==◌, ◌&&◌, ◌||◌, not, nat_lt, nat_le, ℕ, zero, suc, ℤ, pos, negsuc, Bool, true, false, IsTrue, List, [], ◌∷◌, length, get_or, Ok, Some, None}
use Rattle.std.specs.List.{list_all}
use Rattle.std.specs.Fmt.{decimal, digits, digits_onto, digit_glyph}
use Rattle.std.proofs.Common.{refl, sym, subst, ap, ◌∙◌, inl, inr, arith}
use Rattle.std.proofs.lemmas.Bool.{false≢true, cond_both, cases_lt, lt-ltb, ltb-true, eqb-true, eq-eqb, and_from, and_parts, and_left, and_right, or_left, or_cases, cases_eq, ne_eqb, cond-true, cond-false, cases_Bool}
use Rattle.std.proofs.lemmas.Bool.Decides.{nat_tests}
use Rattle.std.proofs.lemmas.Fmt.{decimal_nonempty, digits_decimal, digits_value-decimal, decimal-digits_value, first_decimal, length-decimal-le}
use Rattle.std.proofs.lemmas.Int.{ints}
use Rattle.std.proofs.lemmas.Nat.{le-div}
use Rattle.std.proofs.lemmas.Str.Parse.{IsNumeralModel, IsDigitsTest, FoldsDigits, numerals_by_fold}
use Rattle.std.proofs.lemmas.Option.{none-some, same_Some}
use Rattle.ja_prim.specs.declared.primitive.Num.TheVariants.{Whole}
use Rattle.ja_prim.specs.declared.primitive.Primitive.TheVariants as primitive
use Rattle.ja_prim.specs.Characters.{is_digit}
use Rattle.ja_prim.specs.Conversions.{to_number, to_text, index_of}
use Rattle.ja_prim.specs.Index.{is_index, is_index_text, with_digits, starts_with_zero}
use Rattle.ja_prim.proofs.ReadingBack.{read_back}

-- ---- digits

abbrev AreDigits : List ℕ → Type 0
AreDigits t = list_all is_digit t ≡ true

tells : IsDigitsTest AreDigits
tells = record {
  empty = refl;
  parts =
      λ c cs d. let (a, b) = and_parts (is_digit c) (list_all is_digit cs) d in
      (grind (arith, nat_tests), b);
  more = λ c cs k d. and_from (is_digit c) (list_all is_digit cs) (grind (arith, nat_tests)) d;
}

folds : FoldsDigits with_digits
folds =
    record {
      empty = λ n. refl;
      more = λ n c cs k. ap (λ m. with_digits m cs)
          (let e : 10 * n + (c - 48) ≡ n * 10 + (c - 48) = omega arith in e);
    }

model : IsNumeralModel AreDigits (with_digits 0)
model = numerals_by_fold AreDigits tells with_digits folds

-- no zero stands first, but alone
leads : (t : List ℕ) → IsTrue (not (starts_with_zero t) || (length t == 1)) → get_or t 0 0 ≡ 48
    → length t ≡ 1
leads t e first = by t e first
  where
    by : (u : List ℕ) → IsTrue (not (starts_with_zero u) || (length u == 1)) → get_or u 0 0 ≡ 48
        → length u ≡ 1
    by [] e first = absurd (omega (arith, first))
    by (c ∷ cs) e first = elim (or_cases (not (c == 48)) (length (c ∷ cs) == 1) e) [
      | inl other ↦ absurd (false≢true (sym (ap not (eq-eqb c 48 first)) ∙ other))
      | inr one ↦ eqb-true (length (c ∷ cs)) 1 one
    ]

-- the digits of an index's text write an index, and its text is the text
written : (t : List ℕ) → IsTrue (is_index_text t)
    → (decimal (with_digits 0 t) ≡ t) × IsTrue (is_index (pos (with_digits 0 t)))
written t e =
    let a : Bool = nat_lt 0 (length t) in
    let b : Bool = nat_le (length t) 10 in
    let c : Bool = list_all is_digit t in
    let d : Bool = not (starts_with_zero t) || (length t == 1) in
    let (e1, small) = and_parts (((a && b) && c) && d) _ e in
    let (e2, lead) = and_parts ((a && b) && c) d e1 in
    let (e3, digits_are) = and_parts (a && b) c e2 in
    let (some, few) = and_parts a b e3 in
    let n : ℕ = with_digits 0 t in
    let below : n < 4294967295 = ltb-true n 4294967295 small in (
      decimal-digits_value model t digits_are (ltb-true 0 (length t) some) (leads t lead)
          (omega (arith, below)),
      small,
    )

pub index_text_number : (t : List ℕ) → IsTrue (is_index_text t)
    → (z : ℤ) × (to_number (primitive.Text t) ≡ Ok (Whole z)) × IsTrue (is_index z)
index_text_number t e =
    let (is, small) = written t e in
    let n : ℕ = with_digits 0 t in
    let below : n < 4294967295 = ltb-true n 4294967295 small in (
      pos n,
      subst (λ u. to_number (primitive.Text u) ≡ Ok (Whole (pos n))) is
          (read_back (Whole (pos n)) (omega (arith, ints)) (omega (arith, ints, below))),
      small,
    )

-- ---- a great number has many digits

abbrev ten : ℕ → ℕ
ten zero = 1
ten (suc m) = ten m * 10

onto_more : (k n : ℕ) (acc : List ℕ) → length acc ≤ length (digits_onto k 10 false n acc)
onto_more zero n acc = omega arith
onto_more (suc k) n acc =
    let g : ℕ = digit_glyph false (n % 10) in
    cond_both (n / 10 == 0) (g ∷ acc) (digits_onto k 10 false (n / 10) (g ∷ acc))
    (λ ds. length acc ≤ length ds) (λ _. omega arith)
    (λ _. let more : length (g ∷ acc) ≤ length (digits_onto k 10 false (n / 10) (g ∷ acc)) =
    onto_more k (n / 10) (g ∷ acc) in omega (arith, more))

ten_some : (m : ℕ) → 0 < ten m
ten_some zero = omega arith
ten_some (suc m) = let some : 0 < ten m = ten_some m in omega (arith, some)

onto_long : (m k n : ℕ) (acc : List ℕ) → m < k → ten m ≤ n
    → m + 1 + length acc ≤ length (digits_onto k 10 false n acc)
onto_long m zero n acc less many = absurd (omega (arith, less))
onto_long zero (suc k) n acc less many =
    let g : ℕ = digit_glyph false (n % 10) in
    cond_both (n / 10 == 0) (g ∷ acc) (digits_onto k 10 false (n / 10) (g ∷ acc))
    (λ ds. 0 + 1 + length acc ≤ length ds) (λ _. omega arith)
    (λ _. let more : length (g ∷ acc) ≤ length (digits_onto k 10 false (n / 10) (g ∷ acc)) =
    onto_more k (n / 10) (g ∷ acc) in omega (arith, more))
onto_long (suc m) (suc k) n acc less many =
    let g : ℕ = digit_glyph false (n % 10) in
    let part : ten m ≤ n / 10 = le-div (ten m) n 10 (omega arith) many in
    let some : 0 < ten m = ten_some m in
    let not_zero : (n / 10 == 0) ≡ false = ne_eqb (n / 10) 0 (λ z. omega (arith, part, some, z)) in
    let more : m + 1 + length (g ∷ acc) ≤ length (digits_onto k 10 false (n / 10) (g ∷ acc)) =
    onto_long m k (n / 10) (g ∷ acc) (omega (arith, less)) part in
    subst (λ ds. suc m + 1 + length acc ≤ length ds)
    (sym (cond-false (n / 10 == 0) (g ∷ acc) (digits_onto k 10 false (n / 10) (g ∷ acc)) not_zero))
    (omega (arith, more))

long : (n : ℕ) → 2 ^ 64 ≤ n → 11 ≤ length (decimal n)
unfolding digits
long n many =
    let l : 10 + 1 + 0 ≤ length (digits_onto 64 10 false n []) = onto_long 10 64 n [] (omega arith)
    (omega (arith, many)) in omega (arith, l)

-- ---- the text of a number

lead_of : (n : ℕ) → n < 4294967295 → (t : List ℕ) → decimal n ≡ t
    → IsTrue (not (starts_with_zero t) || (length t == 1))
unfolding digits
lead_of n below t is = elim (cases_eq n 0) [
  | inl z ↦
      subst (λ u. IsTrue (not (starts_with_zero u) || (length u == 1)))
      (sym (ap decimal z) ∙ is) refl
  | inr ne ↦
      or_left (not (starts_with_zero t)) _ (by t
      (subst (λ u. 48 < get_or u 0 0) is (first_decimal n (omega (arith, ne))
      (omega (arith, below)))))
]
  where
    by : (u : List ℕ) → 48 < get_or u 0 0 → IsTrue (not (starts_with_zero u))
    by [] l = refl
    by (c ∷ cs) l = ap not (ne_eqb c 48 (λ z. omega (arith, l, z)))

of_small : (n : ℕ) → n < 4294967295 → IsTrue (is_index_text (decimal n))
of_small n below =
    let t : List ℕ = decimal n in
    let fits : n < 2 ^ 64 = omega (arith, below) in
    let are : AreDigits t = digits_decimal model n fits in
    let some : 0 < length t = decimal_nonempty n fits in
    let few : length t ≤ 10 = length-decimal-le 10 n (omega arith) (omega (arith, below)) fits in
    let value : with_digits 0 t ≡ n = digits_value-decimal model n fits in
    and_from _ _ (and_from _ _ (and_from _ _ (and_from (nat_lt 0 (length t)) (nat_le (length t) 10)
    (lt-ltb 0 (length t) some) (grind (arith, nat_tests, few))) are) (lead_of n below t refl))
    (subst (λ m. IsTrue (nat_lt m 4294967295)) (sym value) (lt-ltb n 4294967295 below))

of_great : (n : ℕ) → 4294967295 ≤ n → is_index_text (decimal n) ≡ false
of_great n great =
    let t : List ℕ = decimal n in
    let a : Bool = nat_lt 0 (length t) in
    let b : Bool = nat_le (length t) 10 in
    let c : Bool = list_all is_digit t in
    let d : Bool = not (starts_with_zero t) || (length t == 1) in
    elim (cases_lt n (2 ^ 64)) [
      | inl fits ↦
          let value : with_digits 0 t ≡ n = digits_value-decimal model n fits in
          and_right (((a && b) && c) && d) _ (subst (λ m. nat_lt m 4294967295 ≡ false) (sym value)
          (grind (arith, nat_tests, great)))
      | inr many ↦
          let l : 11 ≤ length t = long n many in
          and_left (((a && b) && c) && d) _ (and_left ((a && b) && c) d
          (and_left (a && b) c (and_right a b (grind (arith, nat_tests, l)))))
    ]

pub number_index_text : (z : ℤ) → is_index_text (to_text (primitive.Number (Whole z))) ≡ is_index z
number_index_text (pos n) = elim (cases_lt n 4294967295) [
  | inl below ↦ of_small n below ∙ sym (lt-ltb n 4294967295 below)
  | inr great ↦ of_great n great ∙ sym (grind (arith, nat_tests, great))
]
number_index_text (negsuc n) =
    let t : List ℕ = 45 ∷ decimal (suc n) in
    let a : Bool = nat_lt 0 (length t) && nat_le (length t) 10 in
    let d : Bool = not (starts_with_zero t) || (length t == 1) in
    and_left ((a && list_all is_digit t) && d) _
    (and_left (a && list_all is_digit t) d (and_right a (list_all is_digit t) refl))

-- ---- the index of a text

pub index_of_text : (n : ℕ) → IsTrue (is_index (pos n))
    → index_of (to_text (primitive.Number (Whole (pos n)))) ≡ Some n
index_of_text n e =
    let below : n < 4294967295 = ltb-true n 4294967295 e in
    cond-true (is_index_text (decimal n)) (Some (with_digits 0 (decimal n))) None
    (number_index_text (pos n) ∙ e) ∙ ap Some (digits_value-decimal model n (omega (arith, below)))

pub text_of_index : (t : List ℕ) (i : ℕ) → index_of t ≡ Some i
    → to_text (primitive.Number (Whole (pos i))) ≡ t
text_of_index t i is =
    elim (cases_Bool (is_index_text t)) [
      | inl e ↦
          let n : with_digits 0 t ≡ i = same_Some (with_digits 0 t) i
          (sym (cond-true (is_index_text t) (Some (with_digits 0 t)) None e) ∙ is) in
          subst (λ m. decimal m ≡ t) n (written t e).0
      | inr e ↦
          absurd (none-some i (sym (cond-false (is_index_text t) (Some (with_digits 0 t)) None e)
          ∙ is))
    ]
