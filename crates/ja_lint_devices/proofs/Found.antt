-- What stands before and behind the first `=`, and the kinds of the words there.
use Rattle.std.proofs.Common.{◌≡◌, ◌+◌, ◌<◌, ◌||◌, not, Bool, true, false, List, [], ◌∷◌, length, refl, ap, ◌∙◌, arith}
use Rattle.std.specs.Prelude.{cond}
use Rattle.std.specs.List.{list_any, position_or_len}

module _ {X : Type 0} (p : X → Bool) where
  place_here : (x : X) (xs : List X) → p x ≡ true → position_or_len p (x ∷ xs) ≡ 0
  place_here x xs is = ap (λ t. cond (not t) (1 + position_or_len p xs) 0) is

  place_behind : (x : X) (xs : List X) → p x ≡ false
      → position_or_len p (x ∷ xs) ≡ 1 + position_or_len p xs
  place_behind x xs is = ap (λ t. cond (not t) (1 + position_or_len p xs) 0) is

  found_behind : (x : X) (xs : List X)
      → (position_or_len p xs < length xs → list_any p xs ≡ true)
      → position_or_len p (x ∷ xs) < 1 + length xs → (p x || list_any p xs) ≡ true
  found_behind x xs behind less = of (p x) refl
    where
      of : (b : Bool) → p x ≡ b → (p x || list_any p xs) ≡ true
      of true is = ap (λ t. t || list_any p xs) is
      of false is =
          ap (λ t. t || list_any p xs) is
          ∙ behind (omega (arith, less, place_behind x xs is))

  -- something is found where it is looked for
  pub any_found : (xs : List X) → position_or_len p xs < length xs → list_any p xs ≡ true
  any_found [] less = absurd (omega arith)
  any_found (x ∷ xs) less = found_behind x xs (any_found xs) (omega (arith, less))

  none_behind : (x : X) (xs : List X)
      → (position_or_len p xs ≡ length xs → list_any p xs ≡ false)
      → position_or_len p (x ∷ xs) ≡ 1 + length xs → (p x || list_any p xs) ≡ false
  none_behind x xs behind same = of (p x) refl
    where
      of : (b : Bool) → p x ≡ b → (p x || list_any p xs) ≡ false
      of true is = absurd (omega (arith, same, place_here x xs is))
      of false is =
          ap (λ t. t || list_any p xs) is
          ∙ behind (omega (arith, same, place_behind x xs is))

  -- .. and else nothing is
  pub none_found : (xs : List X) → position_or_len p xs ≡ length xs → list_any p xs ≡ false
  none_found [] same = refl
  none_found (x ∷ xs) same = none_behind x xs (none_found xs) (omega (arith, same))
