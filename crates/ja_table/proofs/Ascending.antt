-- Strictly ascending lists: two of them with the same elements are equal.
use Rattle.std.specs.Prelude.{◌≡◌, ◌⊎◌, ◌<◌, ◌≤◌, ◌+◌, ℕ, zero, suc, Bool, true, false, All, IsTrue, filter, flat_map, map, List, [], ◌∷◌, ◌++◌}
use Rattle.std.specs.List.{list_any, AllByRecursion, range_with_len}
use Rattle.std.proofs.Common.{cond, refl, sym, subst, ap, ◌∙◌, inl, inr, arith}
use Rattle.std.proofs.lemmas.Bool.{false≢true, or_cases, or_left, or_right}
use Rattle.std.proofs.lemmas.List.Elements.{recursion_from_All}
use Rattle.ja_base.proofs.Lists.{all_append}
use Rattle.ja_machine.proofs.Lists.{all_map}
use Rattle.ja_abstract.specs.Lists.{Member}
use Rattle.ja_abstract.proofs.Lists.{member-range}
use Rattle.ja_table.specs.Order.{AreOrdered}

-- ---- what holds of each element

pub of_member : {X : Type 0} (P : X → Type 0) (xs : List X) (x : X) → AllByRecursion P xs
    → Member x xs → P x
of_member P [] x all m = elim m [ ]
of_member P (y ∷ ys) x all (inl e) = subst P e all.0
of_member P (y ∷ ys) x all (inr m) = of_member P ys x all.1 m

pub of_each : {X : Type 0} (P : X → Type 0) (xs : List X) → ((x : X) → Member x xs → P x)
    → AllByRecursion P xs
of_each P [] h = tt
of_each P (y ∷ ys) h = (h y (inl refl), of_each P ys (λ x m. h x (inr m)))

-- ---- where an element of a list comes from

from_append : {X : Type 0} (x : X) (xs ys : List X) → Member x (xs ++ ys)
    → Member x xs ⊎ Member x ys
from_append x [] ys m = inr m
from_append x (y ∷ xs) ys (inl e) = inl (inl e)
from_append x (y ∷ xs) ys (inr m) =
    elim (from_append x xs ys m) [ inl l ↦ inl (inr l) | inr r ↦ inr r ]

pub from_map : {A B : Type 0} (f : A → B) (y : B) (xs : List A) → Member y (map f xs)
    → (x : A) × Member x xs × (f x ≡ y)
from_map f y [] m = elim m [ ]
from_map f y (x ∷ xs) (inl e) = (x, inl refl, e)
from_map f y (x ∷ xs) (inr m) = let r = from_map f y xs m in (r.0, inr r.1, r.2)

pub from_flat_map : {A B : Type 0} (f : A → List B) (y : B) (xs : List A)
    → Member y (flat_map f xs) → (x : A) × Member x xs × Member y (f x)
from_flat_map f y [] m = elim m [ ]
from_flat_map f y (x ∷ xs) m = elim (from_append y (f x) (flat_map f xs) m) [
  | inl l ↦ (x, inl refl, l)
  | inr r ↦ let s = from_flat_map f y xs r in (s.0, inr s.1, s.2)
]

-- a number below n is among the first n
pub number_listed : (n i : ℕ) → i < n → Member i (range_with_len 0 n)
number_listed n i h =
    let from : 0 + i ≡ i = omega arith in
    subst (λ k. Member k (range_with_len 0 n)) from (member-range 0 n i h)

pub from_range : (a n i : ℕ) → Member i (range_with_len a n) → (a ≤ i) × (i < a + n)
from_range a zero i m = elim m [ ]
from_range a (suc n) i (inl e) = (omega (arith, e), omega (arith, e))
from_range a (suc n) i (inr m) =
    let r = from_range (a + 1) n i m in (omega (arith, r.0), omega (arith, r.1))

pub first_or_later : {X : Type 0} (x y : X) (ys : List X) (b : Bool) → Member x (cond b (y ∷ ys) ys)
    → ((y ≡ x) × IsTrue b) ⊎ Member x ys
first_or_later x y ys true (inl e) = inl (e, refl)
first_or_later x y ys true (inr m) = inr m
first_or_later x y ys false m = inr m

pub from_filter : {X : Type 0} (test : X → Bool) (x : X) (xs : List X) → Member x (filter test xs)
    → Member x xs × IsTrue (test x)
from_filter test x [] m = elim m [ ]
from_filter test x (y ∷ ys) m = elim (first_or_later x y (filter test ys) (test y) m) [
  | inl h ↦ (inl h.0, subst (λ z. IsTrue (test z)) h.0 h.1)
  | inr n ↦ let r = from_filter test x ys n in (inr r.0, r.1)
]

pub first_kept : {X : Type 0} (x y : X) (ys : List X) (b : Bool) → IsTrue b → y ≡ x
    → Member x (cond b (y ∷ ys) ys)
first_kept x y ys true is e = inl e
first_kept x y ys false is e = absurd (cc)

later_kept : {X : Type 0} (x y : X) (ys : List X) (b : Bool) → Member x ys
    → Member x (cond b (y ∷ ys) ys)
later_kept x y ys true m = inr m
later_kept x y ys false m = m

pub member-filter : {X : Type 0} (test : X → Bool) (x : X) (xs : List X) → Member x xs
    → IsTrue (test x) → Member x (filter test xs)
member-filter test x [] m is = elim m [ ]
member-filter test x (y ∷ ys) (inl e) is =
    first_kept x y (filter test ys) (test y) (subst (λ z. IsTrue (test z)) (sym e) is) e
member-filter test x (y ∷ ys) (inr m) is =
    later_kept x y (filter test ys) (test y) (member-filter test x ys m is)

-- ---- lists in which each element comes before all later ones

module _ {X : Type 0} (Before : X → X → Type 0) where
  abbrev pub Ascends : List X → Type 0
  Ascends [] = Unit {0}
  Ascends (x ∷ xs) = AllByRecursion (Before x) xs × Ascends xs

  pub ascends-append : (xs ys : List X) → Ascends xs → Ascends ys
      → ((x y : X) → Member x xs → Member y ys → Before x y) → Ascends (xs ++ ys)
  ascends-append [] ys a b h = b
  ascends-append (x ∷ xs) ys a b h = (
    all_append (Before x) xs ys a.0 (of_each (Before x) ys (λ y n. h x y (inl refl) n)),
    ascends-append xs ys a.1 b (λ z y m n. h z y (inr m) n),
  )

  pub ascends_kept : (x : X) (xs : List X) (b : Bool) → AllByRecursion (Before x) xs → Ascends xs
      → Ascends (cond b (x ∷ xs) xs)
  ascends_kept x xs true all a = (all, a)
  ascends_kept x xs false all a = a

  pub ascends-filter : (test : X → Bool) (xs : List X) → Ascends xs → Ascends (filter test xs)
  ascends-filter test [] a = tt
  ascends-filter test (x ∷ xs) a =
      ascends_kept x (filter test xs) (test x) (of_each (Before x) (filter test xs) (λ y m.
      of_member (Before x) xs y a.0 (from_filter test y xs m).0)) (ascends-filter test xs a.1)

  -- an order that doesn't go both ways
  module _ (one_way : (x y : X) → Before x y → Before y x → ⊥) where
    first_same : (x y : X) (xs ys : List X) → AllByRecursion (Before x) xs
        → AllByRecursion (Before y) ys → Member x (y ∷ ys) → Member y (x ∷ xs) → x ≡ y
    first_same x y xs ys a b (inl e) n = sym e
    first_same x y xs ys a b (inr m) (inl e) = e
    first_same x y xs ys a b (inr m) (inr n) =
        absurd (one_way x y (of_member (Before x) xs y a n) (of_member (Before y) ys x b m))

    later : (x y z : X) (xs ys : List X) → x ≡ y → AllByRecursion (Before x) xs → Member z xs
        → Member z (y ∷ ys) → Member z ys
    later x y z xs ys same a m (inl e) =
        let self : Before z z = subst (λ u. Before u z) (same ∙ e)
        (of_member (Before x) xs z a m) in
        absurd (one_way z z self self)
    later x y z xs ys same a m (inr n) = n

    pub same_elements : (xs ys : List X) → Ascends xs → Ascends ys
        → ((z : X) → Member z xs → Member z ys) → ((z : X) → Member z ys → Member z xs) → xs ≡ ys
    same_elements [] [] a b into back = refl
    same_elements [] (y ∷ ys) a b into back = elim (back y (inl refl)) [ ]
    same_elements (x ∷ xs) [] a b into back = elim (into x (inl refl)) [ ]
    same_elements (x ∷ xs) (y ∷ ys) a b into back =
        let same = first_same x y xs ys a.0 b.0 (into x (inl refl)) (back y (inl refl)) in
        ap (λ z. z ∷ xs) same ∙ ap (λ zs. y ∷ zs) (same_elements xs ys a.1 b.1
        (λ z m. later x y z xs ys same a.0 m (into z (inr m)))
        (λ z m. later y x z ys xs (sym same) b.0 m (back z (inr m))))

pub ascends-map : {A B : Type 0} (Before : A → A → Type 0) (Below : B → B → Type 0) (f : A → B)
    → ((x y : A) → Before x y → Below (f x) (f y)) → (xs : List A) → Ascends Before xs
    → Ascends Below (map f xs)
ascends-map Before Below f h [] a = tt
ascends-map Before Below f h (x ∷ xs) a = (
  of_each (Below (f x)) (map f xs) (λ y m. let r = from_map f y xs m in
      subst (Below (f x)) r.2 (h x r.0 (of_member (Before x) xs r.0 a.0 r.1))),
  ascends-map Before Below f h xs a.1,
)

pub ascends-flat_map : {A B : Type 0} (Before : A → A → Type 0) (Below : B → B → Type 0)
    (f : A → List B) → ((x : A) → Ascends Below (f x)) → ((x y : A) → Before x y → (u v : B)
    → Member u (f x) → Member v (f y) → Below u v) → (xs : List A) → Ascends Before xs
    → Ascends Below (flat_map f xs)
ascends-flat_map Before Below f each h [] a = tt
ascends-flat_map Before Below f each h (x ∷ xs) a =
    ascends-append Below (f x) (flat_map f xs) (each x)
    (ascends-flat_map Before Below f each h xs a.1)
    (λ u v m n. let r = from_flat_map f v xs n in
    h x r.0 (of_member (Before x) xs r.0 a.0 r.1) u v m r.2)

pub ascends-range : (a n : ℕ) → Ascends (λ i j. i < j) (range_with_len a n)
ascends-range a zero = tt
ascends-range a (suc n) = (
  of_each (λ j. a < j) (range_with_len (a + 1) n) (λ j m.
      let r = from_range (a + 1) n j m in omega (arith, r.0)),
  ascends-range (a + 1) n,
)

-- ---- lists by what their elements have

module _ {C X : Type 0} (of : C → X) (same : X → X → Bool) where
  pub listed : ((x y : X) → IsTrue (same x y) → x ≡ y) → (cs : List C) (x : X)
      → IsTrue (list_any (λ c. same (of c) x) cs) → Member x (map of cs)
  listed is [] x h = absurd (false≢true h)
  listed is (c ∷ cs) x h = elim (or_cases (same (of c) x) _ h) [
    | inl s ↦ inl (is (of c) x s)
    | inr r ↦ inr (listed is cs x r)
  ]

  pub told : ((x : X) → IsTrue (same x x)) → (cs : List C) (x : X) → Member x (map of cs)
      → IsTrue (list_any (λ c. same (of c) x) cs)
  told self [] x m = elim m [ ]
  told self (c ∷ cs) x (inl e) =
      or_left _ _ (subst (λ z. IsTrue (same (of c) z)) e (self (of c)))
  told self (c ∷ cs) x (inr m) = or_right (same (of c) x) _ (told self cs x m)

-- what are in order ascend by their keys
pub keys_ascend : {C X : Type 0} (of : C → X) (below : X → X → Bool) (cs : List C)
    → AreOrdered of below cs → Ascends (λ x y. IsTrue (below x y)) (map of cs)
keys_ascend of below [] o = tt
keys_ascend of below (c ∷ cs) o = (
  all_map (λ d. IsTrue (below (of c) (of d))) (λ x. IsTrue (below (of c) x)) of (λ d h. h) cs o.0,
  keys_ascend of below cs o.1,
)

-- what holds of the key of each holds of each key
pub of_key : {C X : Type 0} (of : C → X) (P : X → Type 0) (cs : List C)
    → All (λ c. P (of c)) cs → (x : X) → Member x (map of cs) → P x
of_key of P cs each x m =
    of_member P (map of cs) x (all_map (λ c. P (of c)) P of (λ c h. h) cs
    (recursion_from_All (λ c. P (of c)) cs each)) m

pub flat_map_each : {A B : Type 0} (f g : A → List B) (xs : List A)
    → AllByRecursion (λ x. f x ≡ g x) xs → flat_map f xs ≡ flat_map g xs
flat_map_each f g [] all = refl
flat_map_each f g (x ∷ xs) all =
    let here = all.0 in
    let rest = flat_map_each f g xs all.1 in
    λ i. here i ++ rest i
