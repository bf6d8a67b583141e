-- What stands once in a list, as loops come to know it.
use Rattle.std.proofs.Common.{◌≡◌, ℕ, ◌+◌, ◌<◌, ◌≤◌, ◌⊎◌, inl, inr, List, length, Some, refl, sym, ◌∙◌, ap, subst, arith}
use Rattle.std.specs.List.{slice_get}
use Rattle.std.proofs.lemmas.Option.{slice_get_within}
use Rattle.ja_graph.specs.declared.program.PropertySpec.{PropertySpec}
use Rattle.ja_graph.specs.code.Parts.{IsPropertyBefore, AreOnce, IsAmong, AreDistinct}
use Rattle.ja_graph.proofs.EachLemmas.{lt_or_same, same_some}

-- properties of one name
abbrev pub HaveOneName : PropertySpec → PropertySpec → Type 0
HaveOneName q r = q.name.0 ≡ r.name.0

-- one text
abbrev pub AreSame : List ℕ → List ℕ → Type 0
AreSame t u = t ≡ u

-- two of the first k elements are related at one place alone
abbrev pub OnceBelow : {X : Type 0} → (X → X → Type 0) → List X → ℕ → Type 0
OnceBelow {X} R xs k =
    (i j : ℕ) (x y : X) → i < k → j < k → slice_get xs i ≡ Some x → slice_get xs j ≡ Some y → R x y
    → i ≡ j

module _ {X : Type 0} (R : X → X → Type 0) (swap : (x y : X) → R x y → R y x) where
  once_more : (xs : List X) (k : ℕ) (z : X) → OnceBelow R xs k → slice_get xs k ≡ Some z
      → ((j : ℕ) (x : X) → j < k → slice_get xs j ≡ Some x → R x z → ⊥) → OnceBelow R xs (k + 1)
  once_more xs k z once is new = λ i j x y below also found found_too related.
      at i j x y found found_too related (lt_or_same i k below) (lt_or_same j k also)
    where
      last_is : (j : ℕ) (y : X) → slice_get xs j ≡ Some y → j ≡ k → y ≡ z
      last_is j y found same =
          let found_there : slice_get xs k ≡ Some y = subst (λ (n : ℕ). slice_get xs n ≡ Some y)
          same found in
          same_some (slice_get xs k) y z found_there is

      at : (i j : ℕ) (x y : X) → slice_get xs i ≡ Some x → slice_get xs j ≡ Some y → R x y
          → (i < k) ⊎ (i ≡ k) → (j < k) ⊎ (j ≡ k) → i ≡ j
      at i j x y found found_too related (inl before) (inl also) =
          once i j x y before also found found_too related
      at i j x y found found_too related (inl before) (inr same) =
          absurd (new i x before found (subst (R x) (last_is j y found_too same) related))
      at i j x y found found_too related (inr same) (inl also) =
          absurd (new j y also found_too (subst (R y) (last_is i x found same) (swap x y related)))
      at i j x y found found_too related (inr same) (inr also) = same ∙ sym also

pub properties_more : (qs : List PropertySpec) (k : ℕ) (q : PropertySpec)
    → OnceBelow HaveOneName qs k → slice_get qs k ≡ Some q → (IsPropertyBefore qs k q.name → ⊥)
    → OnceBelow HaveOneName qs (k + 1)
properties_more qs k q once is new =
    once_more HaveOneName (λ x y e. sym e) qs k q once is
    (λ j r before found related. new (j, r, before, found, related))

pub properties_all : (qs : List PropertySpec) (k : ℕ) → length qs ≤ k → OnceBelow HaveOneName qs k
    → AreOnce qs
properties_all qs k past once = λ i j q r found also related.
    once i j q r (omega (arith, slice_get_within qs i q found))
    (omega (arith, slice_get_within qs j r also)) found also related

pub names_more : (names : List (List ℕ)) (k : ℕ) (t : List ℕ) → OnceBelow AreSame names k
    → slice_get names k ≡ Some t → (IsAmong names k t → ⊥) → OnceBelow AreSame names (k + 1)
names_more names k t once is new =
    once_more AreSame (λ x y e. sym e) names k t once is
    (λ j u before found related. new (j, before, found ∙ ap (λ (v : List ℕ). Some v) related))

pub names_all : (names : List (List ℕ)) (k : ℕ) → length names ≤ k → OnceBelow AreSame names k
    → AreDistinct names
names_all names k past once = λ i j t found also.
    once i j t t (omega (arith, slice_get_within names i t found))
    (omega (arith, slice_get_within names j t also)) found also refl
