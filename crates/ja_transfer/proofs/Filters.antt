-- What a filter keeps, and tests of it.
use Rattle.std.proofs.Common.{◌≡◌, Bool, true, false, ◌&&◌, ◌||◌, cond, List, [], ◌∷◌, refl, ap, ◌∙◌}
use Rattle.std.specs.List.{AllByRecursion, filter, list_any}

-- one filter after another
pub filter_twice : {X : Type 0} (p q : X → Bool) (xs : List X)
    → filter q (filter p xs) ≡ filter (λ x. p x && q x) xs
filter_twice p q [] = refl
filter_twice p q (x ∷ xs) =
    elim (p x) as (λ v. filter q (cond v (x ∷ filter p xs) (filter p xs))
    ≡ cond (v && q x) (x ∷ filter (λ y. p y && q y) xs) (filter (λ y. p y && q y) xs)) [
      | true ↦ ap (λ ys. cond (q x) (x ∷ ys) ys) (filter_twice p q xs)
      | false ↦ filter_twice p q xs
    ]

-- tests that agree on each element
pub filter_agree_on : {X : Type 0} (p q : X → Bool) (xs : List X)
    → AllByRecursion (λ x. p x ≡ q x) xs → filter p xs ≡ filter q xs
filter_agree_on p q [] same = refl
filter_agree_on p q (x ∷ xs) same =
    ap (λ b. cond b (x ∷ filter p xs) (filter p xs)) same.0
    ∙ ap (λ ys. cond (q x) (x ∷ ys) ys) (filter_agree_on p q xs same.1)

-- a test of what is kept
pub any_filter : {X : Type 0} (keep test : X → Bool) (xs : List X)
    → list_any test (filter keep xs) ≡ list_any (λ x. keep x && test x) xs
any_filter keep test [] = refl
any_filter keep test (x ∷ xs) =
    elim (keep x) as (λ v. list_any test (cond v (x ∷ filter keep xs) (filter keep xs))
    ≡ ((v && test x) || list_any (λ y. keep y && test y) xs)) [
      | true ↦ ap (λ b. test x || b) (any_filter keep test xs)
      | false ↦ any_filter keep test xs
    ]
