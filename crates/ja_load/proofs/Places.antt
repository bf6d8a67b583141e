-- What stands at the places of lists, and the numbers of names.
use Rattle.std.proofs.lemmas.Option.{same_Some}
use Rattle.std.proofs.Common.{◌≡◌, ℕ, zero, suc, ◌+◌, Bool, true, false, cond, not, ◌||◌, List, [], ◌∷◌, ◌++◌, length, map, filter, Some, refl, sym, ap, ◌∙◌, subst, ◌⊎◌, inl, inr, arith}
use Rattle.std.specs.Prelude.{IsSome}
use Rattle.std.specs.List.{enumerate_from, find, list_any, position_or_len, slice_get}
use Rattle.std.specs.Str.{bytes_eq}
use Rattle.std.specs.Cmp.Lexicographic.{bytes_decides}
use Rattle.ja_lower_names.specs.Names.{number}

-- what stands in one list behind another stands in the first, or so many places behind it in the
-- second
pub append-cases : {X : Type 0} (xs ys : List X) (i : ℕ) (x : X) → slice_get (xs ++ ys) i ≡ Some x
    → (slice_get xs i ≡ Some x) ⊎ ((k : ℕ) × (i ≡ length xs + k) × (slice_get ys k ≡ Some x))
append-cases [] ys i x is = inr (i, omega arith, is)
append-cases (z ∷ xs) ys zero x is = inl is
append-cases {X} (z ∷ xs) ys (suc i) x is = at (append-cases xs ys i x is)
  where
    at : (slice_get xs i ≡ Some x) ⊎ ((k : ℕ) × (i ≡ length xs + k) × (slice_get ys k ≡ Some x))
        → (slice_get xs i ≡ Some x) ⊎ ((k : ℕ) × (suc i ≡ suc (length xs) + k)
        × (slice_get ys k ≡ Some x))
    at (inl first) = inl first
    at (inr behind) = inr (behind.0, omega (arith, behind.1), behind.2)

-- .. and what stands in the second is found there
pub get-behind : {X : Type 0} (xs ys : List X) (k i : ℕ) (x : X) → i ≡ length xs + k
    → slice_get ys k ≡ Some x → slice_get (xs ++ ys) i ≡ Some x
get-behind [] ys k i x place is =
    let same : k ≡ i = omega (arith, place) in
    subst (λ n. slice_get ys n ≡ Some x) same is
get-behind (z ∷ xs) ys k zero x place is = absurd (omega (arith, place))
get-behind (z ∷ xs) ys k (suc i) x place is = get-behind xs ys k i x (omega (arith, place)) is

-- an element with its number
pub numbered-at : {X : Type 0} (xs : List X) (first i : ℕ) (row : ℕ × X)
    → slice_get (enumerate_from first xs) i ≡ Some row
    → (row.0 ≡ first + i) × (slice_get xs i ≡ Some row.1)
numbered-at [] first i row is = absurd (cc)
numbered-at (x ∷ xs) first zero row is =
    let same : (first, x) ≡ row = same_Some (first, x) row is in
    (omega (arith, ap (λ r. r.0) same), ap (λ r. Some r.1) same)
numbered-at (x ∷ xs) first (suc i) row is =
    let rest = numbered-at xs (first + 1) i row is in
    (omega (arith, rest.0), rest.1)

pub number-there : {X : Type 0} (xs : List X) (first i : ℕ) (x : X) → slice_get xs i ≡ Some x
    → slice_get (enumerate_from first xs) i ≡ Some (first + i, x)
number-there [] first i x is = absurd (cc)
number-there (y ∷ xs) first zero x is =
    let number : first ≡ first + zero = omega arith in
    ap (λ z. Some (first, z)) (same_Some y x is) ∙ ap (λ n. Some (n, x)) number
number-there (y ∷ xs) first (suc i) x is =
    let number : first + 1 + i ≡ first + suc i = omega arith in
    number-there xs (first + 1) i x is ∙ ap (λ n. Some (n, x)) number

-- what a function gives of an element
pub mapped-at : {X Y : Type 0} (f : X → Y) (xs : List X) (i : ℕ) (y : Y)
    → slice_get (map f xs) i ≡ Some y → (x : X) × (slice_get xs i ≡ Some x) × (f x ≡ y)
mapped-at f [] i y is = absurd (cc)
mapped-at f (x ∷ xs) zero y is = (x, refl, same_Some (f x) y is)
mapped-at f (x ∷ xs) (suc i) y is = mapped-at f xs i y is

pub map-at : {X Y : Type 0} (f : X → Y) (xs : List X) (i : ℕ) (x : X) → slice_get xs i ≡ Some x
    → slice_get (map f xs) i ≡ Some (f x)
map-at f [] i x is = absurd (cc)
map-at f (y ∷ xs) zero x is = ap (λ z. Some (f z)) (same_Some y x is)
map-at f (y ∷ xs) (suc i) x is = map-at f xs i x is

-- what is left of a list stands in it, and passes
pub kept-at : {X : Type 0} (test : X → Bool) (xs : List X) (j : ℕ) (x : X)
    → slice_get (filter test xs) j ≡ Some x → (i : ℕ) × (slice_get xs i ≡ Some x) × (test x ≡ true)
kept-at test [] j x is = absurd (cc)
kept-at {X} test (y ∷ xs) j x is = at (test y) refl j is (kept-at test xs)
  where
    at : (b : Bool) → test y ≡ b → (j : ℕ) → slice_get
        (cond b (y ∷ filter test xs) (filter test xs)) j ≡ Some x
        → ((k : ℕ) (z : X) → slice_get (filter test xs) k ≡ Some z
        → (i : ℕ) × (slice_get xs i ≡ Some z) × (test z ≡ true))
        → (i : ℕ) × (slice_get (y ∷ xs) i ≡ Some x) × (test x ≡ true)
    at true passes zero found rest =
        let same = same_Some y x found in
        (zero, found, ap test (sym same) ∙ passes)
    at true passes (suc j) found rest =
        let behind = rest j x found in
        (suc behind.0, behind.1, behind.2)
    at false fails j found rest =
        let behind = rest j x found in
        (suc behind.0, behind.1, behind.2)

pub any-at : {X : Type 0} (test : X → Bool) (xs : List X) (i : ℕ) (x : X) → slice_get xs i ≡ Some x
    → test x ≡ true → list_any test xs ≡ true
any-at test [] i x is passes = absurd (cc)
any-at test (y ∷ xs) zero x is passes =
    let here : test y ≡ true = ap test (same_Some y x is) ∙ passes in
    rw here refl
any-at test (y ∷ xs) (suc i) x is passes = rw (any-at test xs i x is passes) (or_true (test y))
  where
    or_true : (b : Bool) → (b || true) ≡ true
    or_true true = refl
    or_true false = refl

-- what passes in a list passes at a place
pub place-of : {X : Type 0} (test : X → Bool) (xs : List X) → list_any test xs ≡ true
    → (i : ℕ) × (x : X) × (slice_get xs i ≡ Some x) × (test x ≡ true)
place-of test [] some = absurd (cc)
place-of {X} test (y ∷ xs) some = at (test y) refl some (place-of test xs)
  where
    at : (b : Bool) → test y ≡ b → (b || list_any test xs) ≡ true
        → (list_any test xs ≡ true → (i : ℕ) × (x : X) × (slice_get xs i ≡ Some x)
        × (test x ≡ true)) → (i : ℕ) × (x : X) × (slice_get (y ∷ xs) i ≡ Some x) × (test x ≡ true)
    at true passes some rest = (zero, y, refl, passes)
    at false fails some rest = let behind = rest some in
        (suc behind.0, behind.1, behind.2, behind.3)

-- what passes is found, or something before it
pub find-at : {X : Type 0} (test : X → Bool) (xs : List X) (i : ℕ) (x : X) → slice_get xs i ≡ Some x
    → test x ≡ true → IsSome (find test xs)
find-at test [] i x is passes = absurd (cc)
find-at test (y ∷ xs) zero x is passes =
    let here : test y ≡ true = ap test (same_Some y x is) ∙ passes in
    rw here refl
find-at test (y ∷ xs) (suc i) x is passes = at (test y) (find-at test xs i x is passes)
  where
    at : (b : Bool) → IsSome (find test xs) → IsSome (cond b (Some y) (find test xs))
    at true rest = refl
    at false rest = rest

-- what is found stands in the list
pub found-at : {X : Type 0} (test : X → Bool) (xs : List X) → IsSome (find test xs)
    → (i : ℕ) × (x : X) × (slice_get xs i ≡ Some x) × (test x ≡ true)
found-at test [] found = absurd (cc)
found-at {X} test (y ∷ xs) found = at (test y) refl found (found-at test xs)
  where
    at : (b : Bool) → test y ≡ b → IsSome (cond b (Some y) (find test xs))
        → (IsSome (find test xs) → (i : ℕ) × (x : X) × (slice_get xs i ≡ Some x) × (test x ≡ true))
        → (i : ℕ) × (x : X) × (slice_get (y ∷ xs) i ≡ Some x) × (test x ≡ true)
    at true passes found rest = (zero, y, refl, passes)
    at false fails found rest =
        let behind = rest found in
        (suc behind.0, behind.1, behind.2, behind.3)

-- ---- numbers of names

-- a text that stands among names has the number of a place of its own
pub number-at : (names : List (List ℕ)) (n : ℕ) (t : List ℕ) → slice_get names n ≡ Some t
    → slice_get names (number names t).0 ≡ Some t
number-at [] n t is = absurd (cc)
number-at (u ∷ names) n t is = at (bytes_eq t u) refl n is (number-at names)
  where
    at : (b : Bool) → bytes_eq t u ≡ b → (n : ℕ) → slice_get (u ∷ names) n ≡ Some t
        → ((k : ℕ) (v : List ℕ) → slice_get names k ≡ Some v
        → slice_get names (number names v).0 ≡ Some v)
        → slice_get (u ∷ names) (cond (not b) (1 + position_or_len (bytes_eq t) names) 0) ≡ Some t
    at true same n found rest = ap Some (sym ((bytes_decides t u).0 same))
    at false differs zero found rest =
        let equal : bytes_eq t u ≡ true = (bytes_decides t u).1 (sym (same_Some u t found)) in
        absurd (cc)
    at false differs (suc n) found rest =
        let next : suc (position_or_len (bytes_eq t) names) ≡ 1
        + position_or_len (bytes_eq t) names = omega arith in
        subst (λ k. slice_get (u ∷ names) k ≡ Some t) next (rest n t found)
