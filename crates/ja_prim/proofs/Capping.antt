-- Numbers that digits write, kept below a cap.
use Rattle.std.proofs.Common.{◌≡◌, ◌≤◌, ◌<◌, ℕ, zero, suc, ◌+◌, ◌-◌, ◌*◌, ◌^◌, min, List, [], ◌∷◌, ◌++◌, length, get_or, drop, drop-cons, add-one, arith, inl, inr, ◌⊎◌, lit<, refl, ap, ◌∙◌, sym, subst}
use Rattle.std.proofs.lemmas.Bool.{cases_lt}
use Rattle.std.proofs.Math.Nat.{one-le-pow, pow-le-pow_right, mul-le-mul_left, pow-suc, mul_assoc, mul-one}
use Rattle.std.specs.Char.{digit_value}
use Rattle.std.specs.Str.Parse.{digits_value, digits_value_after}
use Rattle.ja_prim.specs.code.Capped.{capped}

pub times_grows : (n r : ℕ) → 1 ≤ r → n ≤ n * r
times_grows n r h = subst (λ (m : ℕ). m ≤ n * r) (mul-one n) (mul-le-mul_left n h)

pub pow_some : (k : ℕ) → 1 ≤ 10 ^ k
pow_some k = one-le-pow k 10 (omega arith)

-- what is the same below a cap stays the same when it is multiplied
pub cap_times : (r a b cap : ℕ) → 1 ≤ r → min a cap ≡ min b cap → min (a * r) cap ≡ min (b * r) cap
cap_times r a b cap h e = go (cases_lt a cap)
  where
    go : (a < cap) ⊎ (cap ≤ a) → min (a * r) cap ≡ min (b * r) cap
    go (inl l) = let f : a ≡ b = omega arith in ap (λ (x : ℕ). min (x * r) cap) f
    go (inr l) =
        let f : a ≤ a * r = times_grows a r h in
        let g : b ≤ b * r = times_grows b r h in
        omega arith

cap_step : (r a b d cap : ℕ) → 1 ≤ r → min a cap ≡ min b cap
    → min (a * r + d) cap ≡ min (b * r + d) cap
cap_step r a b d cap h e = go (cases_lt a cap)
  where
    go : (a < cap) ⊎ (cap ≤ a) → min (a * r + d) cap ≡ min (b * r + d) cap
    go (inl l) = let f : a ≡ b = omega arith in ap (λ (x : ℕ). min (x * r + d) cap) f
    go (inr l) =
        let f : a ≤ a * r = times_grows a r h in
        let g : b ≤ b * r = times_grows b r h in
        omega arith

pub cap_after : (r a b cap : ℕ) (ds : List ℕ) → 1 ≤ r → min a cap ≡ min b cap
    → min (digits_value_after r a ds) cap ≡ min (digits_value_after r b ds) cap
cap_after r a b cap [] h e = e
cap_after r a b cap (d ∷ ds) h e =
    cap_after r (a * r + digit_value d) (b * r + digit_value d) cap ds h
    (cap_step r a b (digit_value d) cap h e)

pub digits_next : (r n : ℕ) (ds : List ℕ) (i : ℕ) → i < length ds
    → digits_value_after r n (drop i ds) ≡ digits_value_after r
    (n * r + digit_value (get_or ds i 0)) (drop (i + 1) ds)
digits_next r n ds i h = rw (add-one, drop-cons ds i 0) refl

-- one more digit, at the machine's greatest number too
pub cap_next : (r n m d p s cap : ℕ) (ds : List ℕ) (i : ℕ) → 1 ≤ r → i < length ds → cap < 2 ^ 64
    → d ≡ digit_value (get_or ds i 0)
    → p ≡ min (n * r) (2 ^ 64 - 1) → s ≡ min (p + d) (2 ^ 64 - 1) → m ≡ min s cap
    → min (digits_value_after r m (drop (i + 1) ds)) cap
    ≡ min (digits_value_after r n (drop i ds)) cap
cap_next r n m d p s cap ds i h k small is_d is_p is_s is_m =
    let e : min m cap ≡ min (n * r + digit_value (get_or ds i 0)) cap = omega arith in
    cap_after r m (n * r + digit_value (get_or ds i 0)) cap (drop (i + 1) ds) h e
    ∙ ap (λ (x : ℕ). min x cap) (sym (digits_next r n ds i k))

pub value_append : (r n : ℕ) (xs ys : List ℕ)
    → digits_value_after r n (xs ++ ys) ≡ digits_value_after r (digits_value_after r n xs) ys
value_append r n [] ys = refl
value_append r n (x ∷ xs) ys = value_append r (n * r + digit_value x) xs ys

pub cap_both : (xs ys : List ℕ) (cap v : ℕ) → v ≡ min (digits_value 10 xs) cap
    → min (digits_value_after 10 v ys) cap ≡ min (digits_value 10 (xs ++ ys)) cap
cap_both xs ys cap v e =
    let f : min v cap ≡ min (digits_value 10 xs) cap = omega arith in
    cap_after 10 v (digits_value 10 xs) cap ys (lit< tt) f
    ∙ ap (λ (x : ℕ). min x cap) (sym (value_append 10 0 xs ys))

pub times_next : (v p q i : ℕ) → p ≡ capped (v * 10 ^ i) → q ≡ min (p * 10) 9007199254740992
    → q ≡ capped (v * 10 ^ (i + 1))
times_next v p q i e f =
    let h : min p 9007199254740992 ≡ min (v * 10 ^ i) 9007199254740992 = omega arith in
    let g : v * 10 ^ (i + 1) ≡ v * 10 ^ i * 10 = rw (add-one, pow-suc)
    (sym (mul_assoc v (10 ^ i) 10)) in
    f ∙ cap_times 10 p (v * 10 ^ i) 9007199254740992 (lit< tt) h ∙ ap capped (sym g)

over : (v k : ℕ) → 1 ≤ v → 16 ≤ k → capped (v * 10 ^ k) ≡ 9007199254740992
over v k h l =
    let p : 10 ^ 16 ≤ 10 ^ k = pow-le-pow_right (lit< tt) l in
    let g : 10 ^ k ≤ 10 ^ k * v = times_grows (10 ^ k) v h in
    omega arith

-- sixteen noughts take any number but 0 past the cap
pub raised_far : (v a b : ℕ) → 16 ≤ a → 16 ≤ b → capped (v * 10 ^ a) ≡ capped (v * 10 ^ b)
raised_far zero a b h k = omega arith
raised_far (suc v) a b h k = let l : 1 ≤ suc v = omega arith in
    over (suc v) a l h ∙ sym (over (suc v) b l k)

pub raised_enough : (v i e power : ℕ) → e ≡ min power 16 → e ≤ i → i ≤ e
    → capped (v * 10 ^ i) ≡ capped (v * 10 ^ power)
raised_enough v i e power is low high = go (cases_lt power 16)
  where
    go : (power < 16) ⊎ (16 ≤ power) → capped (v * 10 ^ i) ≡ capped (v * 10 ^ power)
    go (inl l) = let f : i ≡ power = omega arith in ap (λ (x : ℕ). capped (v * 10 ^ x)) f
    go (inr l) = raised_far v i power (omega arith) l
