-- The text of a whole number is short, and says that number alone.
use Rattle.std.proofs.Common.{◌≡◌, ℕ, zero, suc, ◌+◌, ◌*◌, ◌/◌, ◌%◌, ◌^◌, ◌<◌, ◌≤◌, ◌==◌, Bool, true, false, cond, nat_lt, List, [], ◌∷◌, length, Result, Ok, Err, decimal as digits_text, refl, ap, arith}
use Rattle.std.specs.Prelude.{ℤ, pos, negsuc, drop}
use Rattle.std.specs.Fmt.{digit_glyph, digits, digits_onto, signed_decimal}
use Rattle.std.specs.Int.Signed.{mag}
use Rattle.std.specs.Str.Parse.{digits_value}
use Rattle.std.proofs.lemmas.Bool.{ltb-false, ltb-true, ne_eqb}
use Rattle.std.proofs.lemmas.Fmt.{length_signed_le}
use Rattle.std.proofs.Math.Nat.{div-le_of_le-mul}
use Rattle.ja_prim.specs.declared.primitive.Num.{Num}
use Rattle.ja_prim.specs.declared.primitive.Num.TheVariants.{NaN, Whole}
use Rattle.ja_prim.specs.declared.stop.Stop.{Stop}
use Rattle.ja_prim.specs.declared.stop.Stop.TheVariants.{Fraction, Range}
use Rattle.ja_prim.specs.Blanks.{behind_blanks, before_blanks}
use Rattle.ja_prim.specs.Judged.{judged, max_magnitude, signed}
use Rattle.ja_prim.specs.Numerals.{decimal_value, placed}
use Rattle.ja_prim.specs.Texts.{max_units, same_text}
use Rattle.ja_prim.specs.TextToNumber.{decimal, is_hexadecimal, literal, signed_literal, text_to_number}
use Rattle.ja_prim.proofs.NumberTexts.{number_short}
use Rattle.ja_abstract.specs.Keys.{is_whole_text, is_written_so, whole_text}
use Rattle.ja_abstract.proofs.Texts.{text_same}

abbrev is_small : Result Num Stop → Type 0
is_small (Ok (Whole z)) = mag z ≤ max_magnitude
is_small r = Unit {0}

small_if : (b : Bool) (r s : Result Num Stop) → is_small r → is_small s → is_small (cond b r s)
small_if true r s h k = h
small_if false r s h k = k

mag_signed : (negative : Bool) (n : ℕ) → mag (signed negative n) ≤ n
mag_signed true zero = omega arith
mag_signed true (suc n) = omega arith
mag_signed false n = omega arith

judged_by : (negative : Bool) (n d : ℕ) (b : Bool) → nat_lt (max_magnitude * d) n ≡ b
    → is_small (cond b (Err Range) (cond (n % d == 0)
    (Ok (Whole (signed negative (n / d)))) (Err Fraction)))
judged_by negative n d true is = tt
judged_by negative n d false is =
    let le : n ≤ max_magnitude * d = ltb-false (max_magnitude * d) n is in
    let le' : n ≤ d * max_magnitude = omega arith in
    let quotient : n / d ≤ max_magnitude = div-le_of_le-mul d le' in
    let small : mag (signed negative (n / d)) ≤ max_magnitude =
    omega (arith, mag_signed negative (n / d)) in
    small_if (n % d == 0) (Ok (Whole (signed negative (n / d)))) (Err Fraction) small tt

judged_small : (negative : Bool) (n d : ℕ) → is_small (judged negative n d)
judged_small negative n d = judged_by negative n d (nat_lt (max_magnitude * d) n) refl

placed_small : (negative below : Bool) (m e f : ℕ) → is_small (placed negative below m e f)
unfolding placed
placed_small negative below m e f =
    small_if below (judged negative m (10 ^ (e + f))) (judged negative (m * 10 ^ e) (10 ^ f))
    (judged_small negative m (10 ^ (e + f))) (judged_small negative (m * 10 ^ e) (10 ^ f))

value_small : (negative : Bool) (cs : List ℕ) → is_small (decimal_value negative cs)
unfolding decimal_value
value_small negative cs = placed_small negative _ _ _ _

decimal_small : (negative : Bool) (t : List ℕ) → is_small (decimal negative t)
unfolding decimal
decimal_small negative t =
    small_if _ (Ok NaN) (decimal_value negative t) tt (value_small negative t)

signed_small : (t : List ℕ) → is_small (signed_literal t)
unfolding signed_literal
signed_small t = small_if _ (Err Range) (decimal _ _) tt (decimal_small _ _)

literal_small : (t : List ℕ) → is_small (literal t)
unfolding literal
literal_small t =
    let zero : 0 ≤ max_magnitude = omega arith in
    small_if (length t == 0) (Ok (Whole (pos 0))) _ zero
    (small_if (is_hexadecimal t) (judged false (digits_value 16 (drop 2 t)) 1) (signed_literal t)
    (judged_small false (digits_value 16 (drop 2 t)) 1) (signed_small t))

number_small : (t : List ℕ) → is_small (text_to_number t)
unfolding text_to_number
number_small t = literal_small (before_blanks (behind_blanks t))

long_not_same : (z : ℤ) (t : List ℕ) (b : Bool) → same_text (whole_text z) t ≡ b
    → mag z ≤ max_magnitude → max_units < length t → b ≡ false
long_not_same z t false is small long = refl
long_not_same z t true is small long =
    absurd (omega (
      arith,
      number_short z (omega arith),
      ap length (text_same (whole_text z) t is),
    ))

long_not_so : (r : Result Num Stop) (t : List ℕ) → is_small r → max_units < length t
    → is_written_so r t ≡ false
long_not_so (Ok NaN) t small long = refl
long_not_so (Ok (Whole z)) t small long =
    long_not_same z t (same_text (whole_text z) t) refl small long
long_not_so (Err stop) t small long = refl

pub whole_text_short : (t : List ℕ) → max_units < length t → is_whole_text t ≡ false
whole_text_short t long = long_not_so (text_to_number t) t (number_small t) long

-- ---- a long number has a long text

le_either : (b : Bool) (n : ℕ) (xs ys : List ℕ) → n ≤ length xs → n ≤ length ys
    → n ≤ length (cond b xs ys)
le_either true n xs ys h k = h
le_either false n xs ys h k = k

keeps_length : (k n : ℕ) (behind : List ℕ)
    → length behind ≤ length (digits_onto k 10 false n behind)
keeps_length zero n behind = omega arith
keeps_length (suc k) n behind =
    let last : ℕ = digit_glyph false (n % 10) in
    let more : List ℕ = digits_onto k 10 false (n / 10) (last ∷ behind) in
    le_either (n / 10 == 0) (length behind) (last ∷ behind) more (omega arith)
    (omega (arith, keeps_length k (n / 10) (last ∷ behind)))

abbrev power : ℕ → ℕ
power zero = 1
power (suc j) = 10 * power j

power_some : (j : ℕ) → 1 ≤ power j
power_some zero = omega arith
power_some (suc j) = omega (arith, power_some j)

digits_long : (j k n : ℕ) (behind : List ℕ) → j < k → power j ≤ n
    → suc j + length behind ≤ length (digits_onto k 10 false n behind)
digits_long j zero n behind below big = absurd (omega arith)
digits_long zero (suc k) n behind below big =
    let last : ℕ = digit_glyph false (n % 10) in
    let more : List ℕ = digits_onto k 10 false (n / 10) (last ∷ behind) in
    le_either (n / 10 == 0) (suc zero + length behind) (last ∷ behind) more (omega arith)
    (omega (arith, keeps_length k (n / 10) (last ∷ behind)))
digits_long (suc j) (suc k) n behind below big =
    let last : ℕ = digit_glyph false (n % 10) in
    let front : power j ≤ n / 10 = omega arith in
    let more = digits_long j k (n / 10) (last ∷ behind) (omega arith) front in
    rw (ne_eqb (n / 10) 0 (λ none. omega (arith, none, front, power_some j)))
    (omega (arith, more))

decimal_long : (n : ℕ) → power 18 ≤ n → 19 ≤ length (digits_text n)
unfolding digits
decimal_long n big = omega (arith, digits_long 18 64 n [] (omega arith) big)

signed_long : (z : ℤ) → 2 ^ 63 ≤ mag z → 19 ≤ length (signed_decimal z)
signed_long (pos n) big = decimal_long n (omega arith)
signed_long (negsuc n) big = omega (arith, decimal_long (suc n) (omega arith))

-- ---- a number of which the text says a number of the profile

said_small : (r : Result Num Stop) (z : ℤ) → is_small r → is_written_so r (whole_text z) ≡ true
    → length (signed_decimal z) ≤ 17
said_small (Ok NaN) z small so = absurd (cc)
said_small (Ok (Whole w)) z small so =
    omega (
      arith,
      length_signed_le 16 w (omega arith) (omega arith),
      ap length (text_same (whole_text w) (whole_text z) so),
    )
said_small (Err stop) z small so = absurd (cc)

small_by : (z : ℤ) (b : Bool) → nat_lt (mag z) (2 ^ 63) ≡ b → length (signed_decimal z) ≤ 17
    → mag z < 2 ^ 63
small_by z true is short = ltb-true (mag z) (2 ^ 63) is
small_by z false is short =
    absurd (omega (arith, signed_long z (ltb-false (mag z) (2 ^ 63) is), short))

pub whole_text_small : (z : ℤ) → is_whole_text (whole_text z) ≡ true → mag z < 2 ^ 63
whole_text_small z so =
    small_by z (nat_lt (mag z) (2 ^ 63)) refl
    (said_small (text_to_number (whole_text z)) z (number_small (whole_text z)) so)
