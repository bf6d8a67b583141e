-- What holds of each element of a list, as loops come to know it.
use Rattle.std.proofs.Common.{◌≡◌, ℕ, zero, suc, ◌+◌, ◌<◌, ◌≤◌, ◌⊎◌, inl, inr, List, length, get_or, Option, Some, sym, ap, ◌∙◌, subst, arith}
use Rattle.std.specs.List.{slice_get}
use Rattle.std.proofs.lemmas.Option.{slice_get_within, slice_get-get_or}

-- an element that was read is at its place
pub read_at : {X : Type 0} (xs : List X) (i : ℕ) (x : X) → i < length xs → x ≡ get_or xs i x
    → slice_get xs i ≡ Some x
read_at xs i x within is = slice_get-get_or xs i x within ∙ ap (λ y. Some y) (sym is)

pub same_some : {X : Type 0} (o : Option X) (x y : X) → o ≡ Some x → o ≡ Some y → x ≡ y
same_some o x y e f = cc

pub lt_or_same : (n i : ℕ) → n < i + 1 → (n < i) ⊎ (n ≡ i)
lt_or_same n zero h = inr (omega arith)
lt_or_same zero (suc i) h = inl (omega arith)
lt_or_same (suc n) (suc i) h = at (lt_or_same n i (omega arith))
  where
    at : (n < i) ⊎ (n ≡ i) → (suc n < suc i) ⊎ (suc n ≡ suc i)
    at (inl before) = inl (omega arith)
    at (inr same) = inr (ap suc same)

module _ {X : Type 0} (P : ℕ → X → Type 0) where
  -- P holds of each of the first i elements
  abbrev pub Below : List X → ℕ → Type 0
  Below xs i = (n : ℕ) (x : X) → n < i → slice_get xs n ≡ Some x → P n x

  pub below_none : (xs : List X) → Below xs 0
  below_none xs = λ n x before is. absurd (omega arith)

  pub below_more : (xs : List X) (i : ℕ) (x : X) → Below xs i → slice_get xs i ≡ Some x → P i x
      → Below xs (i + 1)
  below_more xs i x below is here = λ n y before found. at n y found (lt_or_same n i before)
    where
      at : (n : ℕ) (y : X) → slice_get xs n ≡ Some y → (n < i) ⊎ (n ≡ i) → P n y
      at n y found (inl before) = below n y before found
      at n y found (inr same) =
          let found_there : slice_get xs i ≡ Some y = subst (λ (k : ℕ). slice_get xs k ≡ Some y)
          same found in
          let same_element : x ≡ y = same_some (slice_get xs i) x y is found_there in
          subst (λ (k : ℕ). P k y) (sym same) (subst (P i) same_element here)

  pub below_all : (xs : List X) (i : ℕ) → length xs ≤ i → Below xs i → (n : ℕ) (x : X)
      → slice_get xs n ≡ Some x → P n x
  below_all xs i past below n x is = below n x (omega (arith, slice_get_within xs n x is)) is
