-- Lists, options and tests: what is read after a write, and what holds of each entry.
use Rattle.std.proofs.Common.{◌≡◌, ◌≢◌, ℕ, zero, suc, ◌+◌, ◌<◌, ◌≤◌, Bool, true, false, List, [], ◌∷◌, ◌++◌, length, map, Some, Option, refl, ap, ◌∙◌, subst, arith}
use Rattle.std.specs.Prelude.{IsSome, slice_get, slice_set, drop, filter, find, replicate, if◌then◌else◌}
use Rattle.std.specs.List.{AllByRecursion, range_with_len}
use Rattle.std.specs.Option.{is_some}
use Rattle.std.proofs.lemmas.Bool.{false≢true}
use Rattle.std.proofs.lemmas.Option.{same_Some}
use Rattle.ja_base.proofs.Lists.{all_weaker}

-- ---- what is read after a write

-- at the place of the write stands what was written
pub slice_get-set_same : {X : Type 0} (xs : List X) (i : ℕ) (x : X) → i < length xs
    → slice_get (slice_set xs i x) i ≡ Some x
slice_get-set_same [] i x h = absurd (omega arith)
slice_get-set_same (y ∷ ys) zero x h = refl
slice_get-set_same (y ∷ ys) (suc i) x h = slice_get-set_same ys i x (omega arith)

-- .. and at each other place what stood there
pub slice_get-set_other : {X : Type 0} (xs : List X) (i j : ℕ) (x : X) → j ≢ i
    → slice_get (slice_set xs i x) j ≡ slice_get xs j
slice_get-set_other [] i j x h = refl
slice_get-set_other (y ∷ ys) zero zero x h = absurd (h refl)
slice_get-set_other (y ∷ ys) zero (suc j) x h = refl
slice_get-set_other (y ∷ ys) (suc i) zero x h = refl
slice_get-set_other (y ∷ ys) (suc i) (suc j) x h = slice_get-set_other ys i j x (λ e. h (ap suc e))

-- a list with more behind it has its own entries
pub slice_get-append_left : {X : Type 0} (xs ys : List X) (i : ℕ) → i < length xs
    → slice_get (xs ++ ys) i ≡ slice_get xs i
slice_get-append_left [] ys i h = absurd (omega arith)
slice_get-append_left (x ∷ xs) ys zero h = refl
slice_get-append_left (x ∷ xs) ys (suc i) h = slice_get-append_left xs ys i (omega arith)

-- .. and behind them the first of the others
pub slice_get-append_end : {X : Type 0} (xs : List X) (x : X) (ys : List X) (i : ℕ) → i ≡ length xs
    → slice_get (xs ++ x ∷ ys) i ≡ Some x
slice_get-append_end [] x ys zero e = refl
slice_get-append_end [] x ys (suc i) e = absurd (omega arith)
slice_get-append_end (y ∷ xs) x ys zero e = absurd (omega arith)
slice_get-append_end (y ∷ xs) x ys (suc i) e = slice_get-append_end xs x ys i (omega arith)

-- ---- options

-- what has a value is some
pub is_some_from : {X : Type 0} (o : Option X) (x : X) → o ≡ Some x → IsSome o
is_some_from o x e = ap is_some e

-- ---- choices

-- what holds both ways holds of a choice
pub either_way : {X : Type 0} (P : X → Type 0) (b : Bool) (x y : X) → (b ≡ true → P x)
    → (b ≡ false → P y) → P (if b then x else y)
either_way P true x y when_true when_false = when_true refl
either_way P false x y when_true when_false = when_false refl

-- ---- what holds of each entry

module _ {X : Type 0} (P : X → Type 0) where
  -- from what holds at each place
  pub all_from : (xs : List X) → ((i : ℕ) (x : X) → slice_get xs i ≡ Some x → P x)
      → AllByRecursion P xs
  all_from [] each = tt
  all_from (x ∷ xs) each = (each 0 x refl, all_from xs (λ i y e. each (suc i) y e))

  -- .. and the other way round
  pub all_at : (xs : List X) → AllByRecursion P xs → (i : ℕ) (x : X) → slice_get xs i ≡ Some x → P x
  all_at [] all i x e = absurd (false≢true (ap is_some e))
  all_at (y ∷ ys) all zero x e = subst P (same_Some y x e) all.0
  all_at (y ∷ ys) all (suc i) x e = all_at ys all.1 i x e

  -- of two lists, one behind the other
  pub all_append : (xs ys : List X) → AllByRecursion P xs → AllByRecursion P ys
      → AllByRecursion P (xs ++ ys)
  all_append [] ys left right = right
  all_append (x ∷ xs) ys left right = (left.0, all_append xs ys left.1 right)

  -- .. of the first of them
  pub all_left : (xs ys : List X) → AllByRecursion P (xs ++ ys) → AllByRecursion P xs
  all_left [] ys all = tt
  all_left (x ∷ xs) ys all = (all.0, all_left xs ys all.1)

  -- .. and of the second
  pub all_right : (xs ys : List X) → AllByRecursion P (xs ++ ys) → AllByRecursion P ys
  all_right [] ys all = all
  all_right (x ∷ xs) ys all = all_right xs ys all.1

  -- of those that pass a test
  pub all_filter : (test : X → Bool) (xs : List X) → AllByRecursion P xs
      → AllByRecursion P (filter test xs)
  all_filter test [] all = tt
  all_filter test (x ∷ xs) all =
      either_way (AllByRecursion P) (test x) (x ∷ filter test xs) (filter test xs)
      (λ e. (all.0, all_filter test xs all.1)) (λ e. all_filter test xs all.1)

  -- of equal entries
  pub all_replicate : (n : ℕ) (x : X) → P x → AllByRecursion P (replicate n x)
  all_replicate zero x here = tt
  all_replicate (suc n) x here = (here, all_replicate n x here)

  -- the first that passes is one of the list
  pub all_find : (test : X → Bool) (xs : List X) (x : X) → AllByRecursion P xs
      → find test xs ≡ Some x → P x
  all_find test [] x all e = absurd (false≢true (ap is_some e))
  all_find test (y ∷ ys) x all e =
      either_way (λ o. o ≡ Some x → P x) (test y) (Some y) (find test ys)
      (λ k f. subst P (same_Some y x f) all.0) (λ k f. all_find test ys x all.1 f) e

-- .. for each entry mapped
pub all_map : {X Y : Type 0} (P : X → Type 0) (Q : Y → Type 0) (f : X → Y)
    → ((x : X) → P x → Q (f x)) → (xs : List X) → AllByRecursion P xs → AllByRecursion Q (map f xs)
all_map P Q f further [] all = tt
all_map P Q f further (x ∷ xs) all = (further x all.0, all_map P Q f further xs all.1)

-- .. and the other way round
pub all_unmap : {X Y : Type 0} (P : Y → Type 0) (f : X → Y) (xs : List X)
    → AllByRecursion P (map f xs) → AllByRecursion (λ x. P (f x)) xs
all_unmap P f [] all = tt
all_unmap P f (x ∷ xs) all = (all.0, all_unmap P f xs all.1)

-- what holds of everything
pub all_of : {X : Type 0} (P : X → Type 0) → ((x : X) → P x) → (xs : List X) → AllByRecursion P xs
all_of P each [] = tt
all_of P each (x ∷ xs) = (each x, all_of P each xs)

-- what follows from two
pub all_both : {X : Type 0} (P Q R : X → Type 0) → ((x : X) → P x → Q x → R x) → (xs : List X)
    → AllByRecursion P xs → AllByRecursion Q xs → AllByRecursion R xs
all_both P Q R further [] left right = tt
all_both P Q R further (x ∷ xs) left right =
    (further x left.0 right.0, all_both P Q R further xs left.1 right.1)

-- what is left behind some
pub all_drop : {X : Type 0} (P : X → Type 0) (n : ℕ) (xs : List X) → AllByRecursion P xs
    → AllByRecursion P (drop n xs)
all_drop P zero xs all = all
all_drop P (suc n) [] all = tt
all_drop P (suc n) (x ∷ xs) all = all_drop P n xs all.1

-- ---- lists made from numbers

-- an entry of a list that is made from numbers in order
pub slice_get-map_range : {X : Type 0} (f : ℕ → X) (a n i : ℕ) → i < n
    → slice_get (map f (range_with_len a n)) i ≡ Some (f (a + i))
slice_get-map_range f a zero i h = absurd (omega arith)
slice_get-map_range f a (suc n) zero h = ap (λ m. Some (f m)) (omega arith)
slice_get-map_range f a (suc n) (suc i) h =
    slice_get-map_range f (a + 1) n i (omega arith) ∙ ap (λ m. Some (f m)) (omega arith)

-- numbers in order are within their range
pub range_within : (a n : ℕ) → AllByRecursion (λ x. (a ≤ x) × (x < a + n)) (range_with_len a n)
range_within a zero = tt
range_within a (suc n) = (
  (omega arith, omega arith),
  all_weaker (λ x. (a + 1 ≤ x) × (x < a + 1 + n))
      (λ x. (a ≤ x) × (x < a + suc n)) (λ x k. let low : a + 1 ≤ x = k.0 in
      let high : x < a + 1 + n = k.1 in (omega arith, omega arith)) (range_with_len (a + 1) n)
      (range_within (a + 1) n),
)

-- behind a list the first of equal entries
pub slice_get-append_replicate : {X : Type 0} (xs : List X) (n : ℕ) (x : X) (i : ℕ) → i ≡ length xs
    → 0 < n → slice_get (xs ++ replicate n x) i ≡ Some x
slice_get-append_replicate xs zero x i e some = absurd (omega arith)
slice_get-append_replicate xs (suc n) x i e some = slice_get-append_end xs x (replicate n x) i e
