-- The digits before the point, and those behind it.
use Rattle.std.proofs.Common.{◌≡◌, ◌≤◌, ◌<◌, ℕ, zero, suc, ◌+◌, ◌-◌, ◌*◌, ◌^◌, min, Bool, true, false, ◌==◌, List, [], ◌∷◌, ◌++◌, length, take, drop, length-drop, length-append, arith, inl, inr, ◌⊎◌, lit<, refl, ap, ◌∙◌, sym}
use Rattle.std.proofs.lemmas.Bool.{cases_lt}
use Rattle.std.proofs.lemmas.Bool.Decides.{nat_tests}
use Rattle.std.proofs.lemmas.List.{take-append-drop, take_all, drop_all}
use Rattle.std.proofs.lemmas.Int.Digits.{digits_value-lt}
use Rattle.std.proofs.lemmas.Nat.{pow-add}
use Rattle.std.proofs.Math.Nat.{pow-le-pow_right, pow-suc, pow-zero, mul-one}
use Rattle.std.specs.Char.{digit_value}
use Rattle.std.specs.Str.Parse.{digits_value, digits_value_after, AllDigits}
use Rattle.ja_prim.specs.code.Capped.{capped, parted}
use Rattle.ja_prim.specs.Judged.{judged}
use Rattle.ja_prim.specs.Numerals.{placed}
use Rattle.ja_prim.proofs.Capping.{value_append, pow_some, times_grows, cap_times, raised_far}
use Rattle.ja_prim.proofs.Judging.{times_le, judged_parts, parted_capped, zero_capped}

all_digits_drop : (n : ℕ) (ds : List ℕ) → AllDigits 10 ds → AllDigits 10 (drop n ds)
all_digits_drop zero ds h = h
all_digits_drop (suc n) [] h = tt
all_digits_drop (suc n) (d ∷ ds) h = all_digits_drop n ds h.1

shift_step : (n r d p v : ℕ) → (n * r + d) * p + v ≡ n * (p * r) + ((0 * r + d) * p + v)
shift_step n r d p v = omega arith

value_shift : (r n : ℕ) (ys : List ℕ) → digits_value_after r n ys ≡ n * r ^ length ys
    + digits_value r ys
value_shift r n [] = rw pow-zero (omega arith)
value_shift r n (y ∷ ys) =
    let e : digits_value_after r (n * r + digit_value y) ys
    ≡ (n * r + digit_value y) * r ^ length ys
    + digits_value r ys = value_shift r (n * r + digit_value y) ys in
    let f : digits_value_after r (0 * r + digit_value y) ys
    ≡ (0 * r + digit_value y) * r ^ length ys
    + digits_value r ys = value_shift r (0 * r + digit_value y) ys in
    let g : r ^ suc (length ys) ≡ r ^ length ys * r = pow-suc r (length ys) in
    e ∙ shift_step n r (digit_value y) (r ^ length ys) (digits_value r ys)
    ∙ ap (λ (x : ℕ). n * x + ((0 * r + digit_value y) * r ^ length ys + digits_value r ys))
    (sym g)
    ∙ ap (λ (x : ℕ). n * r ^ suc (length ys) + x) (sym f)

value_split : (i : ℕ) (ds : List ℕ) → digits_value 10 ds
    ≡ digits_value 10 (take i ds) * 10 ^ length (drop i ds) + digits_value 10 (drop i ds)
value_split i ds =
    ap (digits_value 10) (sym (take-append-drop i ds)) ∙ value_append 10 0 (take i ds) (drop i ds)
    ∙ value_shift 10 (digits_value 10 (take i ds)) (drop i ds)

-- k places behind the point: the digits before it, and those behind it
pub record Pointed (ds : List ℕ) (k : ℕ) : Type 0 where
  pub sum : digits_value 10 ds ≡ digits_value 10 (take (length ds - k) ds) * 10 ^ k
      + digits_value 10 (drop (length ds - k) ds)
  pub below : digits_value 10 (drop (length ds - k) ds) < 10 ^ k

pointed_sum : (ds : List ℕ) (k : ℕ) → (length ds < k) ⊎ (k ≤ length ds)
    → digits_value 10 ds ≡ digits_value 10 (take (length ds - k) ds) * 10 ^ k
    + digits_value 10 (drop (length ds - k) ds)
pointed_sum ds k (inr h) =
    let e : length (drop (length ds - k) ds) ≡ k = length-drop (length ds - k) ds ∙ omega arith in
    value_split (length ds - k) ds ∙ ap (λ (x : ℕ).
    digits_value 10 (take (length ds - k) ds) * 10 ^ x
    + digits_value 10 (drop (length ds - k) ds)) e
pointed_sum ds k (inl h) =
    let e : length ds - k ≡ 0 = omega arith in
    rw e (omega arith)

pointed_below : (ds : List ℕ) (k : ℕ) → AllDigits 10 ds
    → digits_value 10 (drop (length ds - k) ds) < 10 ^ k
pointed_below ds k h =
    let n : ℕ = length (drop (length ds - k) ds) in
    let e : n ≡ length ds - (length ds - k) = length-drop (length ds - k) ds in
    let f : digits_value 10 (drop (length ds - k) ds)
    < 10 ^ n = digits_value-lt 10 (drop (length ds - k) ds)
    (all_digits_drop (length ds - k) ds h) in
    let m : n ≤ k = omega arith in
    let g : 10 ^ n ≤ 10 ^ k = pow-le-pow_right (lit< tt) m in
    omega arith

pub pointed : (ds : List ℕ) (k : ℕ) → AllDigits 10 ds → Pointed ds k
pointed ds k h =
    record { sum = pointed_sum ds k (cases_lt (length ds) k); below = pointed_below ds k h }

pow_split : (a b k : ℕ) → a ≡ k + b → 10 ^ a ≡ 10 ^ k * 10 ^ b
pow_split a b k e = ap (λ (x : ℕ). 10 ^ x) e ∙ pow-add 10 k b

zero_times : (b p : ℕ) → 1 ≤ p → (b * p == 0) ≡ (b == 0)
zero_times zero p h = let e : 0 * p ≡ 0 = omega arith in rw e refl
zero_times (suc b) p h =
    let e : suc b ≤ suc b * p = times_grows (suc b) p h in
    let f : (suc b * p == 0) ≡ false = grind (arith, nat_tests) in
    let g : (suc b == 0) ≡ false = grind (arith, nat_tests) in
    f ∙ sym g

-- m / 10^j
divided : (negative : Bool) (ds : List ℕ) (j count : ℕ) → AllDigits 10 ds → count ≡ length ds - j
    → judged negative (digits_value 10 ds) (10 ^ j)
    ≡ parted negative (digits_value 10 (take count ds)) (digits_value 10 (drop count ds) == 0)
divided negative ds j count h e =
    let p = pointed ds j h in
    judged_parts negative (digits_value 10 ds) (10 ^ j) (digits_value 10 (take (length ds - j) ds))
    (digits_value 10 (drop (length ds - j) ds)) p.sum p.below
    ∙ ap (λ (i : ℕ). parted negative (digits_value 10 (take i ds))
    (digits_value 10 (drop i ds) == 0)) (sym e)

scaled_sum : (m k b q p d : ℕ) → m ≡ k * q + b → d ≡ q * p → m * p ≡ k * d + b * p
scaled_sum m k b q p d e f = ap (λ (x : ℕ). x * p) e ∙ omega (arith, ap (λ (x : ℕ). k * x) f)

scaled_below : (b q p d : ℕ) → b < q → 1 ≤ p → d ≡ q * p → b * p < d
scaled_below b q p d h k f = let g : (b + 1) * p ≤ q * p = times_le b q p h in omega arith

-- m * 10^e / 10^f, where e is at most f
shifted : (negative : Bool) (ds : List ℕ) (e f count : ℕ) → AllDigits 10 ds → e ≤ f
    → count ≡ length ds - (f - e)
    → judged negative (digits_value 10 ds * 10 ^ e) (10 ^ f)
    ≡ parted negative (digits_value 10 (take count ds)) (digits_value 10 (drop count ds) == 0)
shifted negative ds e f count h l is =
    let j : ℕ = f - e in
    let p = pointed ds j h in
    let k : ℕ = digits_value 10 (take (length ds - j) ds) in
    let b : ℕ = digits_value 10 (drop (length ds - j) ds) in
    let s : 10 ^ f ≡ 10 ^ j * 10 ^ e = pow_split f e j (omega arith) in
    judged_parts negative (digits_value 10 ds * 10 ^ e) (10 ^ f) k (b * 10 ^ e)
    (scaled_sum (digits_value 10 ds) k b (10 ^ j) (10 ^ e) (10 ^ f) p.sum s)
    (scaled_below b (10 ^ j) (10 ^ e) (10 ^ f) p.below (pow_some e) s)
    ∙ ap (λ (x : Bool). parted negative k x) (zero_times b (10 ^ e) (pow_some e))
    ∙ ap (λ (i : ℕ). parted negative (digits_value 10 (take i ds))
    (digits_value 10 (drop i ds) == 0)) (sym is)

-- m * 10^e / 10^f, where e is at least f
multiplied : (negative : Bool) (m e f : ℕ) → f ≤ e
    → judged negative (m * 10 ^ e) (10 ^ f) ≡ parted negative (m * 10 ^ (e - f)) true
multiplied negative m e f l =
    let s : 10 ^ e ≡ 10 ^ (e - f) * 10 ^ f = pow_split e f (e - f) (omega arith) in
    let t : m * 10 ^ e ≡ m * 10 ^ (e - f) * 10 ^ f + 0 = ap (λ (x : ℕ). m * x) s ∙ omega arith in
    let p : 0 < 10 ^ f = pow_some f in
    judged_parts negative (m * 10 ^ e) (10 ^ f) (m * 10 ^ (e - f)) 0 t p

no_noughts : (negative whole : Bool) (v noughts : ℕ) → noughts ≡ 0
    → parted negative v whole ≡ parted negative (v * 10 ^ noughts) whole
no_noughts negative whole v noughts e =
    ap (λ (x : ℕ). parted negative x whole) (rw (e, pow-zero, mul-one) refl)

abbrev pub AtCount : Bool → Bool → List ℕ → List ℕ → ℕ → ℕ → ℕ → Type 0
AtCount negative below whole places e count noughts =
    placed negative below (digits_value 10 (whole ++ places)) e (length places)
    ≡ parted negative (digits_value 10 (take count (whole ++ places)) * 10 ^ noughts)
    (digits_value 10 (drop count (whole ++ places)) == 0)

pub placed_below : (negative : Bool) (whole places : List ℕ) (e count noughts : ℕ)
    → AllDigits 10 (whole ++ places) → count ≡ length whole - e → noughts ≡ 0
    → AtCount negative true whole places e count noughts
unfolding placed
placed_below negative whole places e count noughts h is none =
    let ds : List ℕ = whole ++ places in
    let n : length ds ≡ length whole + length places = length-append whole places in
    divided negative ds (e + length places) count h (omega arith)
    ∙ no_noughts negative (digits_value 10 (drop count ds) == 0)
    (digits_value 10 (take count ds)) noughts none

pub placed_above : (negative : Bool) (whole places : List ℕ) (e count noughts : ℕ)
    → AllDigits 10 (whole ++ places) → count ≡ length whole + min e (length places)
    → noughts ≡ e - length places
    → AtCount negative false whole places e count noughts
unfolding placed
placed_above negative whole places e count noughts h is none =
    go (cases_lt (length places) e)
  where
    go : (length places < e) ⊎ (e ≤ length places)
        → AtCount negative false whole places e count noughts
    go (inr l) =
        let ds : List ℕ = whole ++ places in
        let n : length ds ≡ length whole + length places = length-append whole places in
        shifted negative ds e (length places) count h l (omega arith)
        ∙ no_noughts negative (digits_value 10 (drop count ds) == 0)
        (digits_value 10 (take count ds)) noughts (omega arith)
    go (inl l) =
        let ds : List ℕ = whole ++ places in
        let n : length ds ≡ length whole + length places = length-append whole places in
        let front : take count ds ≡ ds = take_all count ds (omega arith) in
        let back : drop count ds ≡ [] = drop_all count ds (omega arith) in
        multiplied negative (digits_value 10 ds) e (length places) (omega arith)
        ∙ rw (front, back, none) refl

-- ---- the same of two runs of digits

pub take_both : (n k l : ℕ) (xs ys : List ℕ) → k ≡ min n (length xs) → l ≡ n - k
    → take k xs ++ take l ys ≡ take n (xs ++ ys)
take_both n k l [] ys e f = let a : k ≡ 0 = omega arith in let b : l ≡ n = omega arith in
    rw (a, b) refl
take_both zero k l (x ∷ xs) ys e f = let a : k ≡ 0 = omega arith in let b : l ≡ 0 = omega arith in
    rw (a, b) refl
take_both (suc n) zero l (x ∷ xs) ys e f = absurd (omega arith)
take_both (suc n) (suc k) l (x ∷ xs) ys e f =
    ap (λ (zs : List ℕ). x ∷ zs) (take_both n k l xs ys (omega arith) (omega arith))

pub drop_both : (n k l : ℕ) (xs ys : List ℕ) → k ≡ min n (length xs) → l ≡ n - k
    → drop k xs ++ drop l ys ≡ drop n (xs ++ ys)
drop_both n k l [] ys e f = let a : k ≡ 0 = omega arith in let b : l ≡ n = omega arith in
    rw (a, b) refl
drop_both zero k l (x ∷ xs) ys e f = let a : k ≡ 0 = omega arith in let b : l ≡ 0 = omega arith in
    rw (a, b) refl
drop_both (suc n) zero l (x ∷ xs) ys e f = absurd (omega arith)
drop_both (suc n) (suc k) l (x ∷ xs) ys e f = drop_both n k l xs ys (omega arith) (omega arith)

-- a whole part that is capped, and a rest that is capped at 1
pub cut_is : (negative : Bool) (front back ds : List ℕ) (v r w noughts count : ℕ)
    → front ≡ take count ds → back ≡ drop count ds
    → v ≡ min (digits_value 10 front) 9007199254740992 → r ≡ capped (v * 10 ^ noughts)
    → w ≡ min (digits_value 10 back) 1
    → parted negative r (w == 0) ≡ parted negative (digits_value 10 (take count ds) * 10 ^ noughts)
    (digits_value 10 (drop count ds) == 0)
cut_is negative front back ds v r w noughts count f b is_v is_r is_w =
    let e : v ≡ min (digits_value 10 (take count ds)) 9007199254740992 = is_v
    ∙ ap (λ (xs : List ℕ). min (digits_value 10 xs) 9007199254740992) f in
    let g : min v 9007199254740992 ≡ min (digits_value 10 (take count ds)) 9007199254740992 = omega
    arith in
    let k : r ≡ capped (digits_value 10 (take count ds) * 10 ^ noughts) = is_r
    ∙ cap_times (10 ^ noughts) v (digits_value 10 (take count ds)) 9007199254740992
    (pow_some noughts) g in
    let z : (w == 0) ≡ (digits_value 10 (drop count ds) == 0) = ap (λ (x : ℕ). x == 0)
    (is_w ∙ ap (λ (xs : List ℕ). min (digits_value 10 xs) 1) b)
    ∙ zero_capped (digits_value 10 (drop count ds)) in
    ap (λ (x : ℕ). parted negative x (w == 0)) k
    ∙ ap (λ (x : Bool). parted negative (capped
    (digits_value 10 (take count ds) * 10 ^ noughts)) x) z
    ∙ parted_capped negative (digits_value 10 (take count ds) * 10 ^ noughts)
    (digits_value 10 (drop count ds) == 0)

-- an exponent past the machine's greatest number counts as that
pub far_noughts : (negative whole : Bool) (v e power f : ℕ) → power ≡ min e (2 ^ 64 - 1)
    → f < 9223372036854775808
    → parted negative (v * 10 ^ (power - f)) whole ≡ parted negative (v * 10 ^ (e - f)) whole
far_noughts negative whole v e power f is small = go (cases_lt e (2 ^ 64))
  where
    go : (e < 2 ^ 64) ⊎ (2 ^ 64 ≤ e) → parted negative (v * 10 ^ (power - f)) whole
        ≡ parted negative (v * 10 ^ (e - f)) whole
    go (inl l) = let g : power ≡ e = omega arith in
        ap (λ (x : ℕ). parted negative (v * 10 ^ (x - f)) whole) g
    go (inr l) =
        let g : capped (v * 10 ^ (power - f))
        ≡ capped (v * 10 ^ (e - f)) = raised_far v (power - f) (e - f) (omega arith)
        (omega arith) in
        sym (parted_capped negative (v * 10 ^ (power - f)) whole)
        ∙ ap (λ (x : ℕ). parted negative x whole) g
        ∙ parted_capped negative (v * 10 ^ (e - f)) whole

pub code_below : (negative : Bool) (whole places : List ℕ) (e power count : ℕ)
    → AllDigits 10 (whole ++ places) → length whole < 9223372036854775808
    → power ≡ min e (2 ^ 64 - 1) → count ≡ length whole - power
    → AtCount negative true whole places e count 0
code_below negative whole places e power count h short is_power is_count =
    placed_below negative whole places e count 0 h (omega arith) refl

pub code_above : (negative : Bool) (whole places : List ℕ) (e power few noughts : ℕ)
    → AllDigits 10 (whole ++ places) → length places < 9223372036854775808
    → power ≡ min e (2 ^ 64 - 1) → few ≡ min (length places) power → noughts ≡ power - length places
    → AtCount negative false whole places e (length whole + few) noughts
code_above negative whole places e power few noughts h short is_power is_few is_noughts =
    let count : ℕ = length whole + few in
    let v : ℕ = digits_value 10 (take count (whole ++ places)) in
    let z : Bool = digits_value 10 (drop count (whole ++ places)) == 0 in
    placed_above negative whole places e count (e - length places) h (omega arith) refl
    ∙ sym (far_noughts negative z v e power (length places) is_power short)
    ∙ ap (λ (x : ℕ). parted negative (v * 10 ^ x) z) (sym is_noughts)
