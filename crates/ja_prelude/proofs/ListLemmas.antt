-- What holds at the places of lists, and of tests.
use Rattle.std.proofs.Common.{◌≡◌, ℕ, zero, suc, ◌+◌, ◌<◌, Bool, true, false, cond, nat_eq, nat_lt, List, [], ◌∷◌, ◌++◌, length, Some, ap, ◌∙◌, subst, arith}
use Rattle.std.specs.List.{find, list_all, range_with_len, slice_get}
use Rattle.std.proofs.lemmas.Bool.Decides.{nat_tests}
use Rattle.ja_base.proofs.Tests.{and_left_true, and_right_true}

pub lt_of : (a b : ℕ) → nat_lt a b ≡ true → a < b
lt_of a b h = grind (arith, nat_tests)

pub eq_of : (a b : ℕ) → nat_eq a b ≡ true → a ≡ b
eq_of a b h = grind (arith, nat_tests)

pub same_passes : (a b : ℕ) → a ≡ b → nat_eq a b ≡ true
same_passes a b h = grind (arith, nat_tests)

-- what passes a test everywhere passes it at each place
pub all-get : {X : Type 0} (test : X → Bool) (xs : List X) (i : ℕ) (x : X) → list_all test xs ≡ true
    → slice_get xs i ≡ Some x → test x ≡ true
all-get test [] i x all is = absurd (cc)
all-get test (y ∷ xs) zero x all is =
    let same : y ≡ x = cc in
    subst (λ z. test z ≡ true) same (and_left_true (test y) (list_all test xs) all)
all-get test (y ∷ xs) (suc i) x all is =
    all-get test xs i x (and_right_true (test y) (list_all test xs) all) is

-- .. and so does what is found
pub all-found : {X : Type 0} (test wanted : X → Bool) (xs : List X) (x : X)
    → list_all test xs ≡ true → find wanted xs ≡ Some x → test x ≡ true
all-found test wanted [] x all is = absurd (cc)
all-found test wanted (y ∷ xs) x all is =
    at (wanted y) is (all-found test wanted xs x (and_right_true (test y) (list_all test xs) all))
  where
    at : (b : Bool) → cond b (Some y) (find wanted xs) ≡ Some x
        → (find wanted xs ≡ Some x → test x ≡ true) → test x ≡ true
    at true found later = let same : y ≡ x = cc in
        subst (λ z. test z ≡ true) same (and_left_true (test y) (list_all test xs) all)
    at false found later = later found

-- the first elements stand in front
pub get-front : {X : Type 0} (xs ys : List X) (i : ℕ) (x : X) → slice_get xs i ≡ Some x
    → slice_get (xs ++ ys) i ≡ Some x
get-front [] ys i x is = absurd (cc)
get-front (z ∷ xs) ys zero x is = is
get-front (z ∷ xs) ys (suc i) x is = get-front xs ys i x is

pub get-first : {X : Type 0} (xs ys : List X) (i : ℕ) (x : X) → i < length xs
    → slice_get (xs ++ ys) i ≡ Some x → slice_get xs i ≡ Some x
get-first [] ys i x within is = absurd (omega arith)
get-first (z ∷ xs) ys zero x within is = is
get-first (z ∷ xs) ys (suc i) x within is = get-first xs ys i x (omega (arith, within)) is

pub get-range : (a n i : ℕ) → i < n → slice_get (range_with_len a n) i ≡ Some (a + i)
get-range a zero i within = absurd (omega arith)
get-range a (suc n) zero within = ap Some (omega arith)
get-range a (suc n) (suc i) within =
    get-range (a + 1) n i (omega (arith, within)) ∙ ap Some (omega arith)
