-- Lists, their elements by number, and what holds of each of them.
use Rattle.std.proofs.Common.{◌≡◌, ℕ, zero, suc, ◌<◌, false, true, List, [], ◌∷◌, ◌++◌, length, map, take, Option, Some, None, refl, sym, ap, ◌∙◌, subst, arith}
use Rattle.std.proofs.lemmas.Bool.{false≢true}
use Rattle.std.proofs.lemmas.Option.{same_Some}
use Rattle.std.specs.List.{AllByRecursion, slice_get, slice_set}
use Rattle.std.specs.Option.{IsSome}

-- ---- elements by number

pub first_element : {X : Type 0} (xs : List X) → 0 < length xs → (x : X) × (slice_get xs 0 ≡ Some x)
first_element [] some = absurd (omega arith)
first_element (x ∷ xs) some = (x, refl)

pub element_within : {X : Type 0} (xs : List X) (i : ℕ) → i < length xs
    → (x : X) × (slice_get xs i ≡ Some x)
element_within [] i h = absurd (omega arith)
element_within (x ∷ xs) zero h = (x, refl)
element_within (x ∷ xs) (suc i) h = element_within xs i (omega arith)

pub within_from_some : {X : Type 0} (xs : List X) (i : ℕ) → IsSome (slice_get xs i) → i < length xs
within_from_some [] i h = absurd (false≢true h)
within_from_some (x ∷ xs) zero h = omega arith
within_from_some (x ∷ xs) (suc i) h =
    let r : i < length xs = within_from_some xs i h in
    omega arith

-- an element of the first ones is one of the list
pub element_taken : {X : Type 0} (n : ℕ) (xs : List X) (i : ℕ) (x : X)
    → slice_get (take n xs) i ≡ Some x → slice_get xs i ≡ Some x
element_taken zero xs i x is = absurd (cc)
element_taken (suc n) [] i x is = absurd (cc)
element_taken (suc n) (y ∷ xs) zero x is = is
element_taken (suc n) (y ∷ xs) (suc i) x is = element_taken n xs i x is

-- an element put where it is changes nothing
pub set_same : {X : Type 0} (xs : List X) (i : ℕ) (x : X) → slice_get xs i ≡ Some x
    → slice_set xs i x ≡ xs
set_same [] i x h = refl
set_same (y ∷ ys) zero x h = ap (λ z. z ∷ ys) (sym (same_Some y x h))
set_same (y ∷ ys) (suc i) x h = ap (λ zs. y ∷ zs) (set_same ys i x h)

pub empty_by_length : {X : Type 0} (xs : List X) → length xs ≡ 0 → xs ≡ []
empty_by_length [] none = refl
empty_by_length (x ∷ xs) none = absurd (omega (arith, none))

-- ---- one map behind another

pub map_after : {A B C : Type 0} (f : A → B) (k : B → C) (g : A → C)
    → ((x : A) → k (f x) ≡ g x) → (xs : List A) → map k (map f xs) ≡ map g xs
map_after f k g h [] = refl
map_after f k g h (x ∷ xs) =
    ap (λ y. y ∷ map k (map f xs)) (h x) ∙ ap (λ ys. g x ∷ ys) (map_after f k g h xs)

-- ---- what holds of each element

pub all_append : {X : Type 0} (P : X → Type 0) (xs ys : List X) → AllByRecursion P xs
    → AllByRecursion P ys → AllByRecursion P (xs ++ ys)
all_append P [] ys left right = right
all_append P (x ∷ xs) ys left right = (left.0, all_append P xs ys left.1 right)

pub all_left : {X : Type 0} (P : X → Type 0) (xs ys : List X) → AllByRecursion P (xs ++ ys)
    → AllByRecursion P xs
all_left P [] ys each = tt
all_left P (x ∷ xs) ys each = (each.0, all_left P xs ys each.1)

pub all_right : {X : Type 0} (P : X → Type 0) (xs ys : List X) → AllByRecursion P (xs ++ ys)
    → AllByRecursion P ys
all_right P [] ys each = each
all_right P (x ∷ xs) ys each = all_right P xs ys each.1

pub all_at : {X : Type 0} (P : X → Type 0) (xs : List X) (i : ℕ) (x : X) → AllByRecursion P xs
    → slice_get xs i ≡ Some x → P x
all_at P [] i x all is = absurd (cc)
all_at P (y ∷ ys) zero x all is = let same : y ≡ x = cc in subst P same all.0
all_at P (y ∷ ys) (suc i) x all is = all_at P ys i x all.1 is

pub all_weaker : {X : Type 0} (P Q : X → Type 0) → ((x : X) → P x → Q x) → (xs : List X)
    → AllByRecursion P xs → AllByRecursion Q xs
all_weaker P Q h [] all = tt
all_weaker P Q h (x ∷ xs) all = (h x all.0, all_weaker P Q h xs all.1)
