-- Lists by their elements, and tests of these.
use Rattle.std.specs.Prelude.{◌≡◌, ◌↔◌, ◌<◌, ◌≤◌, ◌+◌, ℕ, suc, Bool, true, false, cond, IsTrue, List, [], ◌∷◌, ◌++◌, length, map, take, drop, find, get_or, Option, Some, is_some, slice_get}
use Rattle.std.specs.List.{flat_map, list_any, range_with_len, AllByRecursion}
use Rattle.std.specs.Option.{option_map}
use Rattle.std.proofs.Common.{refl, sym, ap, ◌∙◌, inl, inr, arith, append-nil, append_assoc}
use Rattle.std.proofs.lemmas.Bool.{cases_lt}
use Rattle.std.proofs.lemmas.List.{drop_more, length-map, take-append-drop, take_more}
use Rattle.std.proofs.lemmas.List.Concat.{flat_map-append}
use Rattle.std.proofs.lemmas.Option.{same_Some}
use Rattle.ja_base.proofs.Lists.{all_append, within_from_some}
use Rattle.ja_rules.proofs.NodeFacts.{one_more}

-- ---- tests of what may not be there

module _ {X : Type 0} (o p : Option X) where
  pub told_options : (a b : X) → o ≡ Some a → p ≡ Some b → (t : Bool) → IsTrue t ↔ (a ≡ b)
      → IsTrue t ↔ (o ≡ p)
  told_options a b o_is p_is t told = (
    (λ e. o_is ∙ ap Some (told.0 e) ∙ sym p_is),
    (λ same. told.1 (same_Some a b (sym o_is ∙ same ∙ p_is))),
  )

-- ---- one element after another

-- lists of one length are the same by a function where they are at each place
pub maps_same : {X Y : Type 0} (f : X → Y) (xs ys : List X) → length xs ≡ length ys
    → ((k : ℕ) (x y : X) → slice_get xs k ≡ Some x → slice_get ys k ≡ Some y → f x ≡ f y)
    → map f xs ≡ map f ys
maps_same f [] [] count each = refl
maps_same f [] (y ∷ ys) count each = absurd (omega (arith, count))
maps_same f (x ∷ xs) [] count each = absurd (omega (arith, count))
maps_same f (x ∷ xs) (y ∷ ys) count each =
    let here = each 0 x y refl refl in
    let rest = maps_same f xs ys (omega (arith, count))
    (λ k a b a_is b_is. each (suc k) a b a_is b_is) in
    λ i. here i ∷ rest i

pub maps_count : {X Y : Type 0} (f : X → Y) (xs ys : List X) → map f xs ≡ map f ys
    → length xs ≡ length ys
maps_count f xs ys same = sym (length-map xs f) ∙ ap length same ∙ length-map ys f

-- .. so far
abbrev pub AreSameTo : {X Y : Type 0} → (X → Y) → List X → List X → ℕ → Type 0
AreSameTo {X} f xs ys n =
    (k : ℕ) (x y : X) → k < n → slice_get xs k ≡ Some x → slice_get ys k ≡ Some y → f x ≡ f y

pub same_next : {X Y : Type 0} (f : X → Y) (xs ys : List X) (n : ℕ) (x y : X)
    → AreSameTo f xs ys n → slice_get xs n ≡ Some x → slice_get ys n ≡ Some y → f x ≡ f y
    → AreSameTo f xs ys (n + 1)
same_next f xs ys n x y before x_is y_is here k a b less a_is b_is =
    elim (cases_lt k n) [
      | inl earlier ↦ before k a b earlier a_is b_is
      | inr last ↦
          let e : n ≡ k = omega (arith, last, less) in
          ap f (same_Some a x (sym a_is ∙ ap (slice_get xs) (sym e) ∙ x_is)) ∙ here
          ∙ ap f (sym (same_Some b y (sym b_is ∙ ap (slice_get ys) (sym e) ∙ y_is)))
    ]

pub same_all : {X Y : Type 0} (f : X → Y) (xs ys : List X) (n : ℕ) → AreSameTo f xs ys n
    → length xs ≡ length ys → length xs ≤ n → map f xs ≡ map f ys
same_all f xs ys n before count all =
    maps_same f xs ys count (λ k x y x_is y_is. before k x y
    (let within = within_from_some xs k (ap is_some x_is) in omega (arith, within, all)) x_is y_is)

-- the elements before one, the element and those behind it
pub parted : {X : Type 0} (xs : List X) (k : ℕ) (d : X) → k < length xs
    → xs ≡ take k xs ++ get_or xs k d ∷ drop (k + 1) xs
parted xs k d within =
    sym (take-append-drop k xs) ∙ ap (λ ys. take k xs ++ ys) (drop_more xs k d within)

-- ---- what holds of each element

pub all_flat_map : {A B : Type 0} (Q : A → Type 0) (P : B → Type 0) (f : A → List B)
    → ((x : A) → Q x → AllByRecursion P (f x)) → (xs : List A) → AllByRecursion Q xs
    → AllByRecursion P (flat_map f xs)
all_flat_map Q P f h [] all = tt
all_flat_map Q P f h (x ∷ xs) all =
    all_append P (f x) (flat_map f xs) (h x all.0) (all_flat_map Q P f h xs all.1)

-- ---- lists that are listed behind a first one

pub range_next : {Y : Type 0} (f : ℕ → List Y) (base old new : List Y) (n : ℕ)
    → old ≡ base ++ flat_map f (range_with_len 0 n) → new ≡ old ++ f n
    → new ≡ base ++ flat_map f (range_with_len 0 (n + 1))
range_next f base old new n was next =
    next ∙ ap (λ ys. ys ++ f n) was ∙ append_assoc base (flat_map f (range_with_len 0 n)) (f n)
    ∙ ap (λ ys. base ++ ys) (sym (one_more f n))

pub listed_next : {X Y : Type 0} (f : X → List Y) (base old new : List Y) (xs : List X) (k : ℕ)
    (x : X) → k < length xs → x ≡ get_or xs k x → old ≡ base ++ flat_map f (take k xs)
    → new ≡ old ++ f x → new ≡ base ++ flat_map f (take (k + 1) xs)
listed_next f base old new xs k x within is was next =
    let e = get_or xs k x in
    next ∙ (λ i. was i ++ f (is i)) ∙ append_assoc base (flat_map f (take k xs)) (f e)
    ∙ ap (λ ys. base ++ ys) (sym (ap (flat_map f) (take_more xs k x within)
    ∙ flat_map-append f (take k xs) (e ∷ [])
    ∙ ap (λ ys. flat_map f (take k xs) ++ ys) (append-nil (f e))))

-- ---- tests of what elements are by a function

pub any_mapped : {X Y : Type 0} (f : X → Y) (test : Y → Bool) (xs : List X)
    → list_any (λ x. test (f x)) xs ≡ list_any test (map f xs)
any_mapped f test [] = refl
any_mapped f test (x ∷ xs) = rw (any_mapped f test xs) refl

pub found_mapped : {X Y : Type 0} (f : X → Y) (test : Y → Bool) (xs : List X)
    → option_map f (find (λ x. test (f x)) xs) ≡ find test (map f xs)
found_mapped f test [] = refl
found_mapped f test (x ∷ xs) =
    elim (test (f x)) as (λ b. option_map f (cond b (Some x) (find (λ x. test (f x)) xs))
    ≡ cond b (Some (f x)) (find test (map f xs))) [
      | true ↦ refl
      | false ↦ found_mapped f test xs
    ]
