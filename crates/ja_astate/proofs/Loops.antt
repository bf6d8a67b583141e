-- Loops over lists: what they have is that of the first elements.
use Rattle.std.proofs.Common.{◌≡◌, ◌+◌, ◌<◌, ℕ, length, take, get_or, List, [], ◌∷◌, ◌++◌, refl, sym, ap, ◌∙◌}
use Rattle.std.specs.Prelude.{Bool, false, ◌||◌, map}
use Rattle.std.specs.List.{list_any}
use Rattle.std.proofs.Math.Bool.{or-false, or_assoc}
use Rattle.std.proofs.lemmas.List.{take_more}
use Rattle.std.proofs.lemmas.List.Folds.{list_any-append}
use Rattle.ja_abstract.specs.AbstractValue.{AbstractProperty, join_properties}
use Rattle.ja_abstract.specs.Reading.{both}
use Rattle.ja_abstract.specs.Resolved.{Demands, join_all}
use Rattle.ja_abstract.proofs.Least.{properties_grouped, with_nothing}

-- ---- joins

joined-append : {A : Type 0} (f : A → AbstractProperty) (xs ys : List A)
    → join_all (map f (xs ++ ys)) ≡ join_properties (join_all (map f xs)) (join_all (map f ys))
joined-append f [] ys = refl
joined-append f (x ∷ xs) ys =
    ap (join_properties (f x)) (joined-append f xs ys)
    ∙ sym (properties_grouped (f x) (join_all (map f xs)) (join_all (map f ys)))

-- one property more is joined
pub joined_more : {A : Type 0} (f : A → AbstractProperty) (xs : List A) (i : ℕ) (d : A)
    → i < length xs → (sum one after : AbstractProperty) → sum ≡ join_all (map f (take i xs))
    → one ≡ f (get_or xs i d) → after ≡ join_properties sum one
    → after ≡ join_all (map f (take (i + 1) xs))
joined_more f xs i d within sum one after sum_is one_is after_is =
    let x = get_or xs i d in
    after_is ∙ ap (λ (q : AbstractProperty). join_properties q one) sum_is
    ∙ ap (join_properties (join_all (map f (take i xs)))) (one_is ∙ sym (with_nothing (f x)))
    ∙ sym (joined-append f (take i xs) (x ∷ []))
    ∙ sym (ap (λ (ys : List _). join_all (map f ys)) (take_more xs i d within))

-- ---- demands

-- what each element of a list demands
abbrev pub demands_over : {A : Type 0} → (A → Demands) → List A → Demands
demands_over f xs m j = list_any (λ x. f x m j) xs

-- one element more demands its pairs
pub demanded_more : {A : Type 0} (f : A → Demands) (xs : List A) (i : ℕ) (d : A) → i < length xs
    → (first now after : Demands) → now ≡ both first (demands_over f (take i xs))
    → after ≡ both now (f (get_or xs i d))
    → after ≡ both first (demands_over f (take (i + 1) xs))
demanded_more f xs i d within first now after now_is after_is =
    let x = get_or xs i d in
    let grouped : (a b c : Bool) → ((a || b) || c) ≡ (a || (b || (c || false))) =
    λ a b c. or_assoc a b c ∙ ap (λ (v : Bool). a || (b || v)) (sym (or-false c)) in
    after_is ∙ ap (λ (e : Demands). both e (f x)) now_is
    ∙ (λ n l k. (grouped (first l k) (demands_over f (take i xs) l k) (f x l k)
    ∙ ap (λ (v : Bool). first l k || v)
    (sym (list_any-append (λ y. f y l k) (take i xs) (x ∷ [])))) n)
    ∙ sym (ap (λ (ys : List _). both first (demands_over f ys)) (take_more xs i d within))
