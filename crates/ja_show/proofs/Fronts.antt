-- Those of a list that pass a test, where they are the first ones.
use Rattle.std.proofs.Common.{◌≡◌, ℕ, zero, suc, Bool, true, false, List, [], ◌∷◌, filter, drop, Option, refl, ap, sym, ◌∙◌, one-add}
use Rattle.std.specs.List.{AllByRecursion, prefix_len, take_while}
use Rattle.ja_base.proofs.Lists.{all_weaker}
use Rattle.ja_files.specs.declared.file.Spot.{Spot}
use Rattle.ja_files.specs.Order.{IsSpotUpTo}
use Rattle.ja_show.specs.Page.{AreOrdered, Precedes}
use Rattle.ja_show.specs.code.Walk.{is_passed}
use Rattle.ja_show.proofs.Places.{is_at, later_apart, later_not_passed, passed_apart, up_to_itself}

-- ---- by tests

none_pass : {X : Type 0} (p : X → Bool) (xs : List X) → AllByRecursion (λ x. p x ≡ false) xs
    → filter p xs ≡ []
none_pass p [] none = refl
none_pass p (x ∷ xs) none =
    let first : p x ≡ false = none.0 in
    rw first (none_pass p xs none.1)

-- those that pass aren't behind one that doesn't
abbrev StandFirst : {X : Type 0} → (X → Bool) → List X → Type 0
StandFirst p [] = Unit {0}
StandFirst p (x ∷ xs) =
    (p x ≡ false → AllByRecursion (λ y. p y ≡ false) xs) × StandFirst p xs

front_is : {X : Type 0} (p : X → Bool) (xs : List X) → StandFirst p xs
    → take_while p xs ≡ filter p xs
front_is p [] first = refl
front_is {X} p (x ∷ xs) first = go (p x) refl (front_is p xs first.1)
  where
    go : (b : Bool) → p x ≡ b → take_while p xs ≡ filter p xs
        → take_while p (x ∷ xs) ≡ filter p (x ∷ xs)
    go true e more = rw (e, one-add) (ap (λ (ys : List X). x ∷ ys) more)
    go false e more = rw e (sym (none_pass p xs (first.0 e)))

-- what a test drops in front can't pass another one
dropped_keeps : {X : Type 0} (q p : X → Bool) → ((x : X) → q x ≡ true → p x ≡ false)
    → (xs : List X) → filter p (drop (prefix_len q xs) xs) ≡ filter p xs
dropped_keeps q p apart [] = refl
dropped_keeps q p apart (x ∷ xs) = go (q x) refl (dropped_keeps q p apart xs)
  where
    go : (b : Bool) → q x ≡ b → filter p (drop (prefix_len q xs) xs) ≡ filter p xs
        → filter p (drop (prefix_len q (x ∷ xs)) (x ∷ xs)) ≡ filter p (x ∷ xs)
    go true e more =
        let other : p x ≡ false = apart x e in
        rw (e, one-add, other) more
    go false e more = rw e refl

-- ---- by spots

module _ {X : Type 0} (spot : X → Option Spot) where
  -- those from a spot on
  abbrev pub from_on : Spot → List X → List X
  from_on at xs = drop (prefix_len (λ (x : X). is_passed at (spot x)) xs) xs

  pub from_keeps : (at p : Spot) → IsSpotUpTo at p → (xs : List X)
      → filter (λ (x : X). is_at p (spot x)) (from_on at xs)
      ≡ filter (λ (x : X). is_at p (spot x)) xs
  from_keeps at p up xs =
      dropped_keeps (λ (x : X). is_passed at (spot x)) (λ (x : X). is_at p (spot x))
      (λ x passed. passed_apart at p (spot x) up passed) xs

  ordered_drop : (n : ℕ) (xs : List X) → AreOrdered spot xs → AreOrdered spot (drop n xs)
  ordered_drop zero xs ordered = ordered
  ordered_drop (suc n) [] ordered = tt
  ordered_drop (suc n) (x ∷ xs) ordered = ordered_drop n xs ordered.1

  pub from_ordered : (at : Spot) (xs : List X) → AreOrdered spot xs
      → AreOrdered spot (from_on at xs)
  from_ordered at xs ordered =
      ordered_drop (prefix_len (λ (x : X). is_passed at (spot x)) xs) xs ordered

  none_passed : (at : Spot) (xs : List X) → AreOrdered spot xs
      → AllByRecursion (λ (x : X). is_passed at (spot x) ≡ false) (from_on at xs)
  none_passed at [] ordered = tt
  none_passed at (x ∷ xs) ordered =
      go (is_passed at (spot x)) refl (none_passed at xs ordered.1)
    where
      go : (b : Bool) → is_passed at (spot x) ≡ b
          → AllByRecursion (λ (y : X). is_passed at (spot y) ≡ false) (from_on at xs)
          → AllByRecursion (λ (y : X). is_passed at (spot y) ≡ false) (from_on at (x ∷ xs))
      go true e more = rw (e, one-add) more
      go false e more =
          rw e (
            e,
            all_weaker (λ (y : X). Precedes (spot x) (spot y))
                (λ (y : X). is_passed at (spot y) ≡ false)
                (λ y order. later_not_passed at (spot x) (spot y) order e) xs ordered.0,
          )

  stand_first : (at : Spot) (xs : List X) → AreOrdered spot xs
      → AllByRecursion (λ (x : X). is_passed at (spot x) ≡ false) xs
      → StandFirst (λ (x : X). is_at at (spot x)) xs
  stand_first at [] ordered passed = tt
  stand_first at (x ∷ xs) ordered passed = (
    λ apart. all_weaker (λ (y : X). Precedes (spot x) (spot y))
        (λ (y : X). is_at at (spot y) ≡ false)
        (λ y order. later_apart at (spot x) (spot y) order passed.0 apart) xs ordered.0,
    stand_first at xs ordered.1 passed.1,
  )

  -- the first ones from a spot on are all that stand there
  pub front_at : (at : Spot) (xs : List X) → AreOrdered spot xs
      → take_while (λ (x : X). is_at at (spot x)) (from_on at xs)
      ≡ filter (λ (x : X). is_at at (spot x)) xs
  front_at at xs ordered =
      front_is (λ (x : X). is_at at (spot x)) (from_on at xs)
      (stand_first at (from_on at xs) (from_ordered at xs ordered) (none_passed at xs ordered))
      ∙ from_keeps at at (up_to_itself at) xs
