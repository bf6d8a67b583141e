-- Puts at some labels and keys throw where one of them may be accepted and the value may be wrong.
use Rattle.std.proofs.Common.{◌≡◌, Bool, true, false, ◌&&◌, ◌||◌, List, [], ◌∷◌, refl, sym, ap, ◌∙◌}
use Rattle.std.specs.List.{list_any}
use Rattle.ja_base.specs.declared.ids.Label.{Label}
use Rattle.ja_abstract.specs.declared.abstraction.Key.{Key}
use Rattle.ja_abstract.specs.AbstractValue.{AbstractValue}
use Rattle.ja_abstract.specs.Reading.{View}
use Rattle.ja_astate.specs.code.Puts.{is_wrong, accepts_length, some_accept, some_throw}

-- ---- tests of which each is that of an element and another one

none_passes : {A : Type 0} (f : A → Bool) (xs : List A) → list_any (λ x. f x && false) xs ≡ false
none_passes f [] = refl
none_passes f (x ∷ xs) =
    elim (f x) as (λ b. ((b && false) || list_any (λ y. f y && false) xs) ≡ false) [
      | true ↦ none_passes f xs
      | false ↦ none_passes f xs
    ]

same_pass : {A : Type 0} (f : A → Bool) (xs : List A)
    → list_any (λ x. f x && true) xs ≡ list_any f xs
same_pass f [] = refl
same_pass f (x ∷ xs) =
    elim (f x) as (λ b. ((b && true) || list_any (λ y. f y && true) xs) ≡ (b || list_any f xs)) [
      | true ↦ refl
      | false ↦ same_pass f xs
    ]

never : {A : Type 0} (xs : List A) → list_any (λ x. false) xs ≡ false
never [] = refl
never (x ∷ xs) = never xs

-- ---- puts

module _ (w : View) (labels : List Label) (keys : List Key) (v : AbstractValue) where
  abbrev throw_if : Bool → Bool
  throw_if wrong =
      list_any (λ (l : Label). list_any (λ (k : Key). accepts_length w l k && wrong) keys) labels

  pub none_throws : is_wrong v ≡ false → false ≡ some_throw w labels keys v
  none_throws e =
      sym (ap throw_if e
      ∙ (λ i. list_any (λ (l : Label). none_passes (accepts_length w l) keys i) labels)
      ∙ never labels)

  pub accepted_throw : is_wrong v ≡ true → some_accept w labels keys ≡ some_throw w labels keys v
  accepted_throw e =
      sym (ap throw_if e
      ∙ (λ i. list_any (λ (l : Label). same_pass (accepts_length w l) keys i) labels))
