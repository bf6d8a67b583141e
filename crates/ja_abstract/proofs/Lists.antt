-- Entries of lists, and tests of lists.
use Rattle.std.proofs.Common.{◌≡◌, Bool, true, false, cond, List, [], ◌∷◌, ◌++◌, inl, inr, sym, subst, ap, arith}
use Rattle.std.specs.Prelude.{IsTrue, filter, ◌&&◌, ◌||◌, ◌<◌, ◌+◌, ℕ, zero, suc, map, flat_map}
use Rattle.std.specs.List.{list_any, range_with_len}
use Rattle.std.proofs.lemmas.Bool.{or_cases, or_left, or_right}
pub use Rattle.ja_abstract.specs.Lists.{Member}

-- an entry of the left list is one of both
pub member-append_left : {X : Type 0} (x : X) (xs ys : List X) → Member x xs → Member x (xs ++ ys)
member-append_left x [] ys m = elim m [ ]
member-append_left x (y ∷ xs) ys (inl e) = inl e
member-append_left x (y ∷ xs) ys (inr m) = inr (member-append_left x xs ys m)

-- .. and so is one of the right list
pub member-append_right : {X : Type 0} (x : X) (xs ys : List X) → Member x ys → Member x (xs ++ ys)
member-append_right x [] ys m = m
member-append_right x (y ∷ xs) ys m = inr (member-append_right x xs ys m)

-- ---- tests of lists

any_of_filter : {X : Type 0} (test keep : X → Bool) (x : X) (xs : List X) (b : Bool)
    → (IsTrue (list_any (λ y. keep y && test y) xs) → IsTrue (list_any test (filter keep xs)))
    → IsTrue ((b && test x) || list_any (λ y. keep y && test y) xs)
    → IsTrue (list_any test (cond b (x ∷ filter keep xs) (filter keep xs)))
any_of_filter test keep x xs true more h =
    elim (or_cases (test x) _ h) [ inl e ↦ or_left _ _ e | inr r ↦ or_right _ _ (more r) ]
any_of_filter test keep x xs false more h = more h

-- what is kept and passes is found among what is kept
pub list_any-filter : {X : Type 0} (test keep : X → Bool) (xs : List X)
    → IsTrue (list_any (λ x. keep x && test x) xs) → IsTrue (list_any test (filter keep xs))
list_any-filter test keep [] h = h
list_any-filter test keep (x ∷ xs) h =
    any_of_filter test keep x xs (keep x) (list_any-filter test keep xs) h

-- ---- entries of lists that are mapped

pub member-map : {A B : Type 0} (f : A → B) (x : A) (xs : List A) → Member x xs
    → Member (f x) (map f xs)
member-map f x [] m = elim m [ ]
member-map f x (y ∷ ys) (inl e) = inl (ap f e)
member-map f x (y ∷ ys) (inr m) = inr (member-map f x ys m)

pub member-flat_map : {A B : Type 0} (f : A → List B) (x : A) (y : B) (xs : List A) → Member x xs
    → Member y (f x) → Member y (flat_map f xs)
member-flat_map f x y [] m n = elim m [ ]
member-flat_map f x y (z ∷ zs) (inl e) n =
    member-append_left y (f z) (flat_map f zs) (subst (λ u. Member y (f u)) (sym e) n)
member-flat_map f x y (z ∷ zs) (inr m) n =
    member-append_right y (f z) (flat_map f zs) (member-flat_map f x y zs m n)

pub member-range : (a n i : ℕ) → i < n → Member (a + i) (range_with_len a n)
member-range a zero i l = absurd (omega arith)
member-range a (suc n) zero l = inl (omega arith)
member-range a (suc n) (suc i) l =
    inr (subst (λ k. Member k (range_with_len (a + 1) n))
    (let e : a + 1 + i ≡ a + suc i = omega arith in e) (member-range (a + 1) n i (omega arith)))
