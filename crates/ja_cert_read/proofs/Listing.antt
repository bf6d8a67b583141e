-- What is looked up at places in order, of a list that is in order, is the list again.
use Rattle.std.proofs.Common.{◌≡◌, ℕ, Bool, true, false, if◌then◌else◌, List, [], ◌∷◌, ◌++◌, map, refl, ap, sym, subst, ◌∙◌, inl, inr}
use Rattle.std.specs.List.{flat_map}
use Rattle.std.proofs.lemmas.Bool.{cond-true, cond-false, cases_Bool}
use Rattle.std.proofs.lemmas.List.Concat.{flat_map-append}
use Rattle.std.proofs.lemmas.List.Folds.{flat_map-map}
use Rattle.std.proofs.lemmas.List.{map-append}
use Rattle.ja_abstract.specs.Lists.{Member}
use Rattle.ja_table.proofs.Ascending.{of_member, Ascends}
use Rattle.ja_cert_read.specs.code.Building.{first_at}
use Rattle.ja_cert_read.proofs.Below.{IsBelow, below_one_way}

-- ---- what stands first at a place

module _ {X K V : Type 0} (is_at : X → K → Bool) (give : X → V) where
  -- the last of a list is put before the others
  pub first_at-last : (rest : K → V) (xs : List X) (x : X) (k : K)
      → first_at is_at give rest (xs ++ x ∷ []) k
      ≡ first_at is_at give (λ (j : K). if is_at x j then give x else rest j) xs k
  first_at-last rest [] x k = refl
  first_at-last rest (y ∷ ys) x k =
      ap (λ (v : V). if is_at y k then give y else v) (first_at-last rest ys x k)

  pub first_at-append : (rest : K → V) (xs ys : List X) (k : K)
      → first_at is_at give rest (xs ++ ys) k
      ≡ first_at is_at give (first_at is_at give rest ys) xs k
  first_at-append rest [] ys k = refl
  first_at-append rest (x ∷ xs) ys k =
      ap (λ (v : V). if is_at x k then give x else v) (first_at-append rest xs ys k)

  pub first_at-missing : (rest : K → V) (xs : List X) (k : K)
      → ((x : X) → Member x xs → is_at x k ≡ false) → first_at is_at give rest xs k ≡ rest k
  first_at-missing rest [] k none = refl
  first_at-missing rest (x ∷ xs) k none =
      cond-false (is_at x k) (give x) (first_at is_at give rest xs k) (none x (inl refl))
      ∙ first_at-missing rest xs k (λ y m. none y (inr m))

-- ---- lists in the order of numbers

module _ {X K : Type 0} (place : X → K) (rank : K → List ℕ) where
  abbrev pub Before : K → K → Type 0
  Before j k = IsBelow (rank j) (rank k)

  abbrev pub Earlier : X → X → Type 0
  Earlier x y = IsBelow (rank (place x)) (rank (place y))

  pub before_self : (j k : K) → j ≡ k → Before j k → ⊥
  before_self j k same h =
      let self : Before j j = subst (Before j) (sym same) h in
      below_one_way (rank j) (rank j) self self

  -- each of a list that is in order is the first at its place
  module _ {V : Type 0} (is_at : X → K → Bool) (give : X → V)
      (is_self : (x : X) → is_at x (place x) ≡ true)
      (is_there : (x : X) (k : K) → is_at x k ≡ true → place x ≡ k) where
    apart : (x : X) (k : K) → (place x ≡ k → ⊥) → is_at x k ≡ false
    apart x k other = elim (cases_Bool (is_at x k)) [
      | inl is ↦ absurd (other (is_there x k is))
      | inr not ↦ not
    ]

    pub first_at-found : (rest : K → V) (xs : List X) (x : X) → Ascends Earlier xs → Member x xs
        → first_at is_at give rest xs (place x) ≡ give x
    first_at-found rest [] x ascends m = elim m [ ]
    first_at-found rest (y ∷ ys) x ascends (inl e) =
        subst (λ (z : X). first_at is_at give rest (y ∷ ys) (place z) ≡ give z) e
        (cond-true (is_at y (place y)) (give y) (first_at is_at give rest ys (place y)) (is_self y))
    first_at-found rest (y ∷ ys) x ascends (inr m) =
        cond-false (is_at y (place x)) (give y) (first_at is_at give rest ys (place x))
        (apart y (place x) (λ same. before_self (place y) (place x) same
        (of_member (Earlier y) ys x ascends.0 m)))
        ∙ first_at-found rest ys x ascends.1 m

    pub first_at-none : (rest : K → V) (xs : List X) (k : K)
        → ((x : X) → Member x xs → place x ≡ k → ⊥) → first_at is_at give rest xs k ≡ rest k
    first_at-none rest xs k none =
        first_at-missing is_at give rest xs k (λ x m. apart x k (none x m))

  -- places give what is listed of those at them, and nothing where none is
  module _ {Y : Type 0} (give : K → List Y) (write : X → Y) where
    pub listed_again : (ks : List K) (xs : List X) → Ascends Before ks → Ascends Earlier xs
        → ((x : X) → Member x xs → Member (place x) ks)
        → ((x : X) → Member x xs → give (place x) ≡ write x ∷ [])
        → ((k : K) → Member k ks → ((x : X) → Member x xs → place x ≡ k → ⊥) → give k ≡ [])
        → flat_map give ks ≡ map write xs
    listed_again [] [] up order within some none = refl
    listed_again [] (x ∷ xs) up order within some none = elim (within x (inl refl)) [ ]
    listed_again (k ∷ ks) [] up order within some none =
        ap (λ (ys : List Y). ys ++ flat_map give ks) (none k (inl refl) (λ x m. elim m [ ]))
        ∙ listed_again ks [] up.1 order (λ x m. elim m [ ]) (λ x m. elim m [ ])
        (λ j m missing. none j (inr m) missing)
    listed_again (k ∷ ks) (x ∷ xs) up order within some none =
        elim (within x (inl refl)) [
          | inl here ↦
              ap (λ (ys : List Y). ys ++ flat_map give ks) (ap give here ∙ some x (inl refl))
              ∙ ap (λ (ys : List Y). write x ∷ ys) (listed_again ks xs up.1 order.1
              (λ y m. elim (within y (inr m)) [
                | inl same ↦ absurd (before_self (place x) (place y) (sym here ∙ same)
                    (of_member (Earlier x) xs y order.0 m))
                | inr later ↦ later
              ])
              (λ y m. some y (inr m))
              (λ j m missing. none j (inr m) (λ z n same. elim n [
                | inl e ↦ before_self k j (here ∙ ap place e ∙ same)
                    (of_member (Before k) ks j up.0 m)
                | inr l ↦ missing z l same
              ])))
          | inr later ↦
              let passed : (z : X) → Member z (x ∷ xs) → k ≡ place z → ⊥ = λ z n same.
              let first : Before k (place x) = of_member (Before k) ks (place x) up.0 later in
              elim n [
                | inl e ↦ before_self k (place x) (same ∙ ap place (sym e)) first
                | inr l ↦ below_one_way (rank k) (rank (place x)) first
                    (subst (λ (j : K). Before (place x) j) (sym same)
                    (of_member (Earlier x) xs z order.0 l))
              ] in
              ap (λ (ys : List Y). ys ++ flat_map give ks)
              (none k (inl refl) (λ z n same. passed z n (sym same)))
              ∙ listed_again ks (x ∷ xs) up.1 order
              (λ z n. elim (within z n) [
                | inl same ↦ absurd (passed z n same)
                | inr l ↦ l
              ])
              some (λ j m missing. none j (inr m) missing)
        ]

-- ---- lists of lists

pub map_flat_map : {X A B : Type 0} (f : A → B) (g : X → List A) (xs : List X)
    → map f (flat_map g xs) ≡ flat_map (λ (x : X). map f (g x)) xs
map_flat_map f g [] = refl
map_flat_map {X} {A} {B} f g (x ∷ xs) =
    map-append f (g x) (flat_map g xs)
    ∙ ap (λ (ys : List B). map f (g x) ++ ys) (map_flat_map f g xs)

abbrev pub pairs : {A B : Type 0} → List A → List B → List (A × B)
pairs {A} {B} xs ys = flat_map (λ (x : A). map (λ (y : B). (x, y)) ys) xs

pub flat_map_pairs : {A B C : Type 0} (g : A → B → List C) (xs : List A) (ys : List B)
    → flat_map (λ (x : A). flat_map (g x) ys) xs
    ≡ flat_map (λ (pair : A × B). g pair.0 pair.1) (pairs xs ys)
flat_map_pairs g [] ys = refl
flat_map_pairs {A} {B} {C} g (x ∷ xs) ys =
    ap (λ (zs : List C). flat_map (g x) ys ++ zs) (flat_map_pairs g xs ys)
    ∙ ap (λ (zs : List C). zs ++ flat_map (λ (pair : A × B). g pair.0 pair.1) (pairs xs ys))
    (sym (flat_map-map (λ (pair : A × B). g pair.0 pair.1) (λ (y : B). (x, y)) ys))
    ∙ sym (flat_map-append (λ (pair : A × B). g pair.0 pair.1) (map (λ (y : B). (x, y)) ys)
    (pairs xs ys))
