-- The value of a decimal literal is exact.
use Rattle.std.proofs.Common.{◌≡◌, ◌≤◌, ◌<◌, ◌⊎◌, inl, inr, ℕ, zero, suc, ◌+◌, ◌*◌, ◌/◌, ◌%◌, ◌^◌, Bool, true, false, not, ◌&&◌, ◌||◌, ◌==◌, nat_lt, Ok, arith, refl, ap, ◌∙◌, sym}
use Rattle.std.proofs.lemmas.Bool.{cases_lt}
use Rattle.std.proofs.lemmas.Bool.Decides.{nat_tests}
use Rattle.std.proofs.Math.Nat.{div-add-mod'}
use Rattle.ja_prim.specs.declared.primitive.Num.TheVariants.{Whole}
use Rattle.ja_prim.specs.code.Capped.{parted}
use Rattle.ja_prim.specs.Judged.{judged, signed, max_magnitude}
use Rattle.ja_prim.specs.LawsOfTexts.{IsLiteralValue}
use Rattle.ja_prim.specs.Numerals.{placed}
use Rattle.ja_prim.proofs.Capping.{pow_some}
use Rattle.ja_prim.proofs.Judging.{judged_parts, verdict, not_less, less}

signed_same : (negative : Bool) (k v : ℕ) → signed negative k ≡ signed negative v → k ≡ v
signed_same false k v h = cc
signed_same true zero zero h = refl
signed_same true zero (suc v) h = cc
signed_same true (suc k) zero h = cc
signed_same true (suc k) (suc v) h = cc

told : (negative far whole : Bool) (k v : ℕ)
    → verdict negative far whole k ≡ Ok (Whole (signed negative v))
    → (far ≡ false) × (whole ≡ true) × (k ≡ v)
told negative true whole k v h = cc
told negative false true k v h = let e : signed negative k ≡ signed negative v = cc in
    (refl, refl, signed_same negative k v e)
told negative false false k v h = cc

near : (k : ℕ) (b : Bool) → nat_lt max_magnitude k || b ≡ false → k ≤ max_magnitude
near k b h = go (cases_lt max_magnitude k)
  where
    go : (max_magnitude < k) ⊎ (k ≤ max_magnitude) → k ≤ max_magnitude
    go (inl l) =
        absurd (let e : nat_lt max_magnitude k ≡ true = less max_magnitude k l in
        let f : true ≡ false = sym (rw e refl) ∙ h in cc)
    go (inr l) = l

is_zero : (b : ℕ) → (b == 0) ≡ true → b ≡ 0
is_zero b h = grind (arith, nat_tests)

judged_exact : (negative : Bool) (n d v : ℕ) → 0 < d
    → judged negative n d ≡ Ok (Whole (signed negative v)) → (v * d ≡ n) × (v ≤ max_magnitude)
unfolding parted
judged_exact negative n d v p h =
    let k : ℕ = n / d in
    let b : ℕ = n % d in
    let s : n ≡ k * d + b = sym (div-add-mod' n d) in
    let l : b < d = omega arith in
    let t = told negative (nat_lt max_magnitude k || (k == max_magnitude && not (b == 0))) (b == 0)
    k v (sym (judged_parts negative n d k b s l) ∙ h) in
    let z : b ≡ 0 = is_zero b t.1 in
    let m : k ≤ max_magnitude = near k (k == max_magnitude && not (b == 0)) t.0 in
    (ap (λ (x : ℕ). x * d) (sym t.2) ∙ omega (arith, s, z), omega (arith, m, t.2))

pub parted_whole : (negative : Bool) (v : ℕ) → v ≤ max_magnitude
    → parted negative v true ≡ Ok (Whole (signed negative v))
unfolding parted
parted_whole negative v h = go (v == max_magnitude) (not_less max_magnitude v h)
  where
    go : (e : Bool) → nat_lt max_magnitude v ≡ false
        → verdict negative (nat_lt max_magnitude v || (e && false)) true v
        ≡ Ok (Whole (signed negative v))
    go true f = rw f refl
    go false f = rw f refl

pub judged_found : (negative : Bool) (n d v : ℕ) → 0 < d → v * d ≡ n → v ≤ max_magnitude
    → judged negative n d ≡ Ok (Whole (signed negative v))
judged_found negative n d v p e h =
    judged_parts negative n d v 0 (omega (arith, e)) p ∙ parted_whole negative v h

pub exact : (negative below : Bool) (m e f v : ℕ)
    → placed negative below m e f ≡ Ok (Whole (signed negative v)) → IsLiteralValue below m e f v
unfolding placed
exact negative true m e f v h =
    let t = judged_exact negative m (10 ^ (e + f)) v (pow_some (e + f)) h in
    record { exact = t.0 ∙ omega arith; small = t.1 }
exact negative false m e f v h =
    let t = judged_exact negative (m * 10 ^ e) (10 ^ f) v (pow_some f) h in
    record { exact = t.0; small = t.1 }

pub found : (negative below : Bool) (m e f v : ℕ) → IsLiteralValue below m e f v
    → placed negative below m e f ≡ Ok (Whole (signed negative v))
unfolding placed
found negative true m e f v h =
    judged_found negative m (10 ^ (e + f)) v (pow_some (e + f)) (h.exact ∙ omega arith) h.small
found negative false m e f v h =
    judged_found negative (m * 10 ^ e) (10 ^ f) v (pow_some f) h.exact h.small
