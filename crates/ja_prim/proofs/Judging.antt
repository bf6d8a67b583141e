-- A number is judged by its whole part, and by whether something is left behind the point.
use Rattle.std.proofs.Common.{◌≡◌, ◌≤◌, ◌<◌, ℕ, zero, suc, ◌+◌, ◌*◌, ◌/◌, ◌%◌, min, Bool, true, false, not, ◌&&◌, ◌||◌, ◌==◌, nat_lt, if◌then◌else◌, Result, Ok, Err, arith, inl, inr, ◌⊎◌, refl, ap, ◌∙◌, sym}
use Rattle.std.proofs.lemmas.Bool.{cases_lt}
use Rattle.std.proofs.lemmas.Bool.Decides.{nat_tests}
use Rattle.std.proofs.lemmas.Nat.{div-mul-add, mod-mul-add}
use Rattle.std.proofs.Math.Nat.{mul-le-mul_right}
use Rattle.ja_prim.specs.declared.primitive.Num.{Num}
use Rattle.ja_prim.specs.declared.primitive.Num.TheVariants.{Whole}
use Rattle.ja_prim.specs.declared.stop.Stop.{Stop}
use Rattle.ja_prim.specs.declared.stop.Stop.TheVariants.{Fraction, Range}
use Rattle.ja_prim.specs.code.Capped.{capped, parted}
use Rattle.ja_prim.specs.Judged.{judged, signed, max_magnitude}

pub less : (a b : ℕ) → a < b → nat_lt a b ≡ true
less a b h = grind (arith, nat_tests)

pub not_less : (a b : ℕ) → b ≤ a → nat_lt a b ≡ false
not_less a b h = grind (arith, nat_tests)

pub unequal : (a b : ℕ) → a < b → (a == b) ≡ false
unequal a b h = grind (arith, nat_tests)

pub times_le : (a b d : ℕ) → a < b → (a + 1) * d ≤ b * d
times_le a b d h = let l : a + 1 ≤ b = omega arith in mul-le-mul_right d l

past_at : (d b : ℕ) → nat_lt (max_magnitude * d) (max_magnitude * d + b) ≡ not (b == 0)
past_at d zero = not_less (max_magnitude * d) (max_magnitude * d + 0) (omega arith)
past_at d (suc b) =
    less (max_magnitude * d) (max_magnitude * d + suc b) (omega arith)
    ∙ ap not (sym (let h : (suc b == 0) ≡ false = grind (arith, nat_tests) in h))

past : (k d b n : ℕ) → n ≡ k * d + b → b < d
    → nat_lt (max_magnitude * d) n ≡ (nat_lt max_magnitude k
    || (k == max_magnitude && not (b == 0)))
past k d b n e h = go (cases_lt max_magnitude k)
  where
    low : (k < max_magnitude) ⊎ (max_magnitude ≤ k) → k ≤ max_magnitude
        → nat_lt (max_magnitude * d) n ≡ (nat_lt max_magnitude k
        || (k == max_magnitude && not (b == 0)))
    low (inl l) m =
        let f : (k + 1) * d ≤ max_magnitude * d = times_le k max_magnitude d l in
        let g : n ≤ max_magnitude * d = omega arith in
        rw (not_less (max_magnitude * d) n g, not_less max_magnitude k m, unequal k max_magnitude l)
        refl
    low (inr l) m =
        let f : k ≡ max_magnitude = omega arith in
        let g : n ≡ max_magnitude * d + b = e ∙ ap (λ (x : ℕ). x * d + b) f in
        rw (g, f) (past_at d b)

    go : (max_magnitude < k) ⊎ (k ≤ max_magnitude)
        → nat_lt (max_magnitude * d) n ≡ (nat_lt max_magnitude k
        || (k == max_magnitude && not (b == 0)))
    go (inl l) =
        let f : (max_magnitude + 1) * d ≤ k * d = times_le max_magnitude k d l in
        let g : max_magnitude * d < n = omega arith in
        rw (less (max_magnitude * d) n g, less max_magnitude k l) refl
    go (inr m) = low (cases_lt k max_magnitude) m

abbrev pub verdict : Bool → Bool → Bool → ℕ → Result Num Stop
verdict negative far whole value =
    if far then Err Range else if whole then Ok (Whole (signed negative value)) else Err Fraction

pub judged_parts : (negative : Bool) (n d k b : ℕ) → n ≡ k * d + b → b < d
    → judged negative n d ≡ parted negative k (b == 0)
unfolding parted
judged_parts negative n d k b e h =
    let r : n % d ≡ b = ap (λ (x : ℕ). x % d) e ∙ mod-mul-add k d b h in
    let q : n / d ≡ k = ap (λ (x : ℕ). x / d) e ∙ div-mul-add k d b h in
    ap (λ (x : Bool). verdict negative x (n % d == 0) (n / d)) (past k d b n e h)
    ∙ ap (λ (x : ℕ). verdict negative (nat_lt max_magnitude k
    || (k == max_magnitude && not (b == 0))) (x == 0) (n / d)) r
    ∙ ap (λ (x : ℕ). verdict negative (nat_lt max_magnitude k
    || (k == max_magnitude && not (b == 0))) (b == 0) x) q

pub judged_whole : (n : ℕ) → judged false n 1 ≡ parted false n true
judged_whole n = judged_parts false n 1 n 0 (omega arith) (omega arith)

parted_far : (negative : Bool) (k : ℕ) (whole : Bool) → max_magnitude < k
    → parted negative k whole ≡ Err Range
unfolding parted
parted_far negative k whole h = rw (less max_magnitude k h) refl

pub parted_capped : (negative : Bool) (k : ℕ) (whole : Bool)
    → parted negative (capped k) whole ≡ parted negative k whole
parted_capped negative k whole = go (cases_lt max_magnitude k)
  where
    go : (max_magnitude < k) ⊎ (k ≤ max_magnitude)
        → parted negative (capped k) whole ≡ parted negative k whole
    go (inl l) =
        parted_far negative (capped k) whole (omega arith) ∙ sym (parted_far negative k whole l)
    go (inr l) = let e : capped k ≡ k = omega arith in ap (λ (x : ℕ). parted negative x whole) e

pub zero_capped : (n : ℕ) → (min n 1 == 0) ≡ (n == 0)
zero_capped zero = refl
zero_capped (suc n) = let e : min (suc n) 1 ≡ 1 = omega arith in
    let h : (suc n == 0) ≡ false = grind (arith, nat_tests) in rw (e, h) refl

pub hexadecimal_value : (n v : ℕ) → v ≡ min n 9007199254740992
    → parted false v true ≡ judged false n 1
hexadecimal_value n v e =
    ap (λ (x : ℕ). parted false x true) e ∙ parted_capped false n true ∙ sym (judged_whole n)

-- .. and of either sign
pub whole_value : (negative : Bool) (n v : ℕ) → v ≡ min n 9007199254740992
    → parted negative v true ≡ judged negative n 1
whole_value negative n v e =
    ap (λ (x : ℕ). parted negative x true) e ∙ parted_capped negative n true
    ∙ sym (judged_parts negative n 1 n 0 (omega arith) (omega arith))
