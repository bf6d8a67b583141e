-- Loops over lists and numbers: what they have is that of the first elements.
use Rattle.std.proofs.Common.{arith, ◌≡◌, ◌+◌, ◌<◌, ℕ, zero, suc, length, take, drop, get_or, List, [], ◌∷◌, ◌++◌, map, refl, sym, ap, ◌∙◌}
use Rattle.std.specs.List.{range_with_len}
use Rattle.std.proofs.lemmas.List.{take_more, map_push}
use Rattle.std.proofs.lemmas.List.FromFn.{map-range_with_len_more}
use Rattle.ja_abstract.specs.AbstractValue.{AbstractValue, AbstractProperty, join, no_value, bare}
use Rattle.ja_abstract.specs.Resolved.{join_values}
use Rattle.ja_abstract.proofs.Least.{properties_grouped, with_nothing}
use Rattle.ja_astate.proofs.Showing.{values_grouped, value_alone}

-- what is left of a list
pub map_left : {A B : Type 0} (v : A → B) (n : ℕ) (xs : List A)
    → map v (drop n xs) ≡ drop n (map v xs)
map_left v zero xs = refl
map_left v (suc n) [] = refl
map_left v (suc n) (x ∷ xs) = map_left v n xs

-- a value of a number more
pub listed_more : {A B : Type 0} (v : A → B) (f : ℕ → B) (xs ys : List A) (x : A) (n : ℕ)
    → map v xs ≡ map f (range_with_len 0 n) → v x ≡ f n → ys ≡ xs ++ x ∷ []
    → map v ys ≡ map f (range_with_len 0 (n + 1))
listed_more v f xs ys x n before is pushed =
    ap (map v) pushed ∙ map_push v xs x ∙ ap (λ (zs : List _). zs ++ v x ∷ []) before
    ∙ ap (λ z. map f (range_with_len 0 n) ++ z ∷ []) is
    ∙ sym (map-range_with_len_more f 0 n n (omega arith))

module _ {A : Type 0} (f : A → AbstractValue) where
  values-append : (xs ys : List A) → join_values (map f (xs ++ ys))
      ≡ join (join_values (map f xs)) (join_values (map f ys))
  values-append [] ys = refl
  values-append (x ∷ xs) ys =
      ap (join (f x)) (values-append xs ys)
      ∙ sym (values_grouped (f x) (join_values (map f xs)) (join_values (map f ys)))

  -- one value more is joined
  pub value_more : (xs : List A) (i : ℕ) (d : A) → i < length xs → (sum one after : AbstractValue)
      → sum ≡ join_values (map f (take i xs)) → one ≡ f (get_or xs i d) → after ≡ join sum one
      → after ≡ join_values (map f (take (i + 1) xs))
  value_more xs i d within sum one after sum_is one_is after_is =
      let x = get_or xs i d in
      after_is ∙ ap (λ (v : AbstractValue). join v one) sum_is
      ∙ ap (join (join_values (map f (take i xs)))) (one_is ∙ sym (value_alone (f x)))
      ∙ sym (values-append (take i xs) (x ∷ []))
      ∙ sym (ap (λ (ys : List _). join_values (map f ys)) (take_more xs i d within))
