-- Strict orders of keys, with the test by which two keys are the same.
use Rattle.std.specs.Prelude.{◌≡◌, ◌⊎◌, ◌<◌, ◌==◌, ℕ, Bool, true, false, ◌&&◌, ◌||◌, nat_lt}
use Rattle.std.proofs.Common.{refl, sym, ◌∙◌, ap, subst, inl, inr, arith}
use Rattle.std.proofs.lemmas.Bool.{cases_Bool, true≢false, false_from_ne_true, true_from_ne_false, and_parts, and_from, and_right, or_cases, or_parts, or_from, or_left, or_right, ltb-true, ltb-false, lt-ltb, le-ltb, eqb-true, eq-eqb}

-- below: a strict order of keys, any two of which are in order or the same
pub record IsKeyOrder {K : Type 0} (below same : K → K → Bool) : Type 0 where
  pub exact : (x y : K) → same x y ≡ true → x ≡ y
  pub itself : (x : K) → same x x ≡ true
  pub apart : (x : K) → below x x ≡ false
  pub behind : (x y z : K) → below x y ≡ true → below y z ≡ true → below x z ≡ true
  pub either : (x y : K) → below x y ≡ false → below y x ≡ false → same x y ≡ true

module _ {K : Type 0} {below same : K → K → Bool} (o : IsKeyOrder below same) where
  -- none is below one that is below it
  pub one_way : (x y : K) → below x y ≡ true → below y x ≡ true → ⊥
  one_way x y h k = true≢false (sym (o.behind x y x h k) ∙ o.apart x)

  -- one that is below another or above it is another
  pub below_other : (x y : K) → below x y ≡ true → same x y ≡ false
  below_other x y h =
      false_from_ne_true _ (λ s. true≢false (sym h ∙ ap (λ z. below z y) (o.exact x y s)
      ∙ o.apart y))

  pub above_other : (x y : K) → below y x ≡ true → same x y ≡ false
  above_other x y h =
      false_from_ne_true _ (λ s. true≢false (sym h ∙ ap (λ z. below y z) (o.exact x y s)
      ∙ o.apart y))

  pub above_from : (x y : K) → below y x ≡ false → same y x ≡ false → below x y ≡ true
  above_from x y b s =
      true_from_ne_false _ (λ f. true≢false (sym (o.either y x b f) ∙ s))

  -- of two keys one is below the other, or they are the same
  pub compared : (x y : K) → (below x y ≡ true) ⊎ ((x ≡ y) ⊎ (below y x ≡ true))
  compared x y =
      elim (cases_Bool (below x y)) [
        | inl t ↦ inl t
        | inr f ↦ elim (cases_Bool (below y x)) [
          | inl t ↦ inr (inr t)
          | inr g ↦ inr (inl (o.exact x y (o.either x y f g)))
        ]
      ]

-- numbers, and keys by their numbers
pub numbers_order : IsKeyOrder nat_lt ◌==◌
numbers_order = record {
  exact = eqb-true;
  itself = λ x. eq-eqb x x refl;
  apart = λ x. le-ltb x x (omega arith);
  behind = λ x y z h k. let first : x < y = ltb-true x y h in
      let second : y < z = ltb-true y z k in lt-ltb x z (omega arith);
  either = λ x y h k. eq-eqb x y (omega (arith, ltb-false x y h, ltb-false y x k));
}

pub numbered_order : {K : Type 0} (number : K → ℕ) (same : K → K → Bool)
    → ((x y : K) → same x y ≡ true → x ≡ y) → ((x : K) → same x x ≡ true)
    → ((x y : K) → number x ≡ number y → x ≡ y)
    → IsKeyOrder (λ x y. nat_lt (number x) (number y)) same
numbered_order number same exact itself tells = record {
  exact = exact;
  itself = itself;
  apart = λ x. le-ltb (number x) (number x) (omega arith);
  behind = λ x y z h k. lt-ltb (number x) (number z)
      (omega (arith, ltb-true (number x) (number y) h, ltb-true (number y) (number z) k));
  either = λ x y h k. subst (λ z. same x z ≡ true)
      (tells x y (omega (
        arith,
        ltb-false (number x) (number y) h,
        ltb-false (number y) (number x)
            k,
      ))) (itself x);
}

-- by one part, and where that is the same by another
module _ {K A B : Type 0} (f : K → A) (g : K → B) (below_f same_f : A → A → Bool)
    (below_g same_g : B → B → Bool) (of_f : IsKeyOrder below_f same_f)
    (of_g : IsKeyOrder below_g same_g) (tells : (x y : K) → f x ≡ f y → g x ≡ g y → x ≡ y) where
  abbrev pub below_parts : K → K → Bool
  below_parts x y = below_f (f x) (f y) || (same_f (f x) (f y) && below_g (g x) (g y))

  abbrev pub same_parts : K → K → Bool
  same_parts x y = same_f (f x) (f y) && same_g (g x) (g y)

  behind_parts : (x y z : K) → below_parts x y ≡ true → below_parts y z ≡ true
      → below_parts x z ≡ true
  behind_parts x y z h k =
      elim (or_cases _ _ h) [
        | inl a ↦ or_left _ _ (elim (or_cases _ _ k) [
          | inl b ↦ of_f.behind (f x) (f y) (f z) a b
          | inr b ↦ subst (λ v. below_f (f x) v ≡ true)
              (of_f.exact (f y) (f z) (and_parts _ _ b).0) a
        ])
        | inr a ↦
            let e : f x ≡ f y = of_f.exact (f x) (f y) (and_parts _ _ a).0 in
            elim (or_cases _ _ k) [
              | inl b ↦ or_left _ _ (subst (λ v. below_f v (f z) ≡ true) (sym e) b)
              | inr b ↦ or_right (below_f (f x) (f z)) _ (and_from _ _
                  (subst (λ v. same_f v (f z) ≡ true) (sym e) (and_parts _ _ b).0)
                  (of_g.behind (g x) (g y) (g z) (and_parts _ _ a).1 (and_parts _ _ b).1))
            ]
      ]

  not_both : (b c : Bool) → b ≡ true → (b && c) ≡ false → c ≡ false
  not_both true c t h = h
  not_both false c t h = absurd (true≢false (sym t))

  either_parts : (x y : K) → below_parts x y ≡ false → below_parts y x ≡ false
      → same_parts x y ≡ true
  either_parts x y h k =
      let (a, b) = or_parts (below_f (f x) (f y)) _ h in
      let (c, d) = or_parts (below_f (f y) (f x)) _ k in
      let s : same_f (f x) (f y) ≡ true = of_f.either (f x) (f y) a c in
      let t : same_f (f y) (f x) ≡ true = of_f.either (f y) (f x) c a in
      and_from _ _ s (of_g.either (g x) (g y) (not_both _ _ s b) (not_both _ _ t d))

  pub parts_order : IsKeyOrder below_parts same_parts
  parts_order = record {
    exact = λ x y h. let (a, b) = and_parts (same_f (f x) (f y)) _ h in
        tells x y (of_f.exact _ _ a) (of_g.exact _ _ b);
    itself = λ x. and_from _ _ (of_f.itself (f x)) (of_g.itself (g x));
    apart = λ x. or_from _ _ (of_f.apart (f x)) (and_right _ _ (of_g.apart (g x)));
    behind = behind_parts;
    either = either_parts;
  }
