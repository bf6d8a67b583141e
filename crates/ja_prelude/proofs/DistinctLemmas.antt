-- The names of a program: each stands once, the built-in ones first.
use Rattle.std.proofs.Common.{◌≡◌, ℕ, zero, suc, ◌≤◌, Bool, true, false, cond, ◌||◌, List, [], ◌∷◌, ◌++◌, length, take, Some, refl, sym, ap, ◌∙◌, subst, append-nil, append_assoc, length-append, arith}
use Rattle.std.specs.List.{slice_get, fold, list_any}
use Rattle.std.specs.Str.{bytes_eq}
use Rattle.std.specs.Cmp.Lexicographic.{nat_list_eq_equiv}
use Rattle.ja_base.proofs.Tests.{or_left_false, or_right_false}
use mathlib.Core.Bool.{true≢false}
use Rattle.ja_lower_names.specs.Names.{with_name}
use Rattle.ja_graph.specs.WellFormed.{builtin_names}
use Rattle.ja_prelude.proofs.TableLemmas.{names-once}

-- no text is one of those behind it
abbrev Apart : List (List ℕ) → Type 0
Apart [] = Unit {0}
Apart (t ∷ ts) = (list_any (bytes_eq t) ts ≡ false) × Apart ts

-- a text is none of some, and not the one behind them
none-push : (t u : List ℕ) (ts : List (List ℕ)) → list_any (bytes_eq t) ts ≡ false
    → bytes_eq t u ≡ false → list_any (bytes_eq t) (ts ++ u ∷ []) ≡ false
none-push t u [] none differs = rw differs refl
none-push t u (x ∷ ts) none differs =
    rw (or_left_false (bytes_eq t x) (list_any (bytes_eq t) ts) none)
    (none-push t u ts (or_right_false (bytes_eq t x) (list_any (bytes_eq t) ts) none) differs)

apart-push : (ts : List (List ℕ)) (u : List ℕ) → Apart ts → list_any (bytes_eq u) ts ≡ false
    → Apart (ts ++ u ∷ [])
apart-push [] u apart none = (refl, tt)
apart-push (t ∷ ts) u apart none =
    let differs : bytes_eq t u ≡ false = nat_list_eq_equiv.symm t u
    ∙ or_left_false (bytes_eq u t) (list_any (bytes_eq u) ts) none in (
      none-push t u ts apart.0 differs,
      apart-push ts u apart.1
          (or_right_false (bytes_eq u t) (list_any (bytes_eq u) ts) none),
    )

apart-with_name : (ts : List (List ℕ)) (u : List ℕ) → Apart ts → Apart (with_name ts u)
apart-with_name ts u apart = at (list_any (bytes_eq u) ts) refl
  where
    at : (b : Bool) → list_any (bytes_eq u) ts ≡ b → Apart (cond b ts (ts ++ u ∷ []))
    at true e = apart
    at false e = apart-push ts u apart e

apart-with_names : (ts us : List (List ℕ)) → Apart ts → Apart (fold with_name ts us)
apart-with_names ts [] apart = apart
apart-with_names ts (u ∷ us) apart =
    apart-with_names (with_name ts u) us (apart-with_name ts u apart)

-- a text of a list is found in it
any_from_get : (ts : List (List ℕ)) (i : ℕ) (t : List ℕ) → slice_get ts i ≡ Some t
    → list_any (bytes_eq t) ts ≡ true
any_from_get [] i t is = absurd (cc)
any_from_get (u ∷ ts) zero t is =
    let same : u ≡ t = cc in
    let here : bytes_eq t u ≡ true = ap (bytes_eq t) same ∙ nat_list_eq_equiv.refl t in
    rw here refl
any_from_get (u ∷ ts) (suc i) t is = rw (any_from_get ts i t is) (or_true (bytes_eq t u))
  where
    or_true : (b : Bool) → (b || true) ≡ true
    or_true true = refl
    or_true false = refl

distinct_from_apart : (ts : List (List ℕ)) (i j : ℕ) (t : List ℕ) → Apart ts
    → slice_get ts i ≡ Some t → slice_get ts j ≡ Some t → i ≡ j
distinct_from_apart [] i j t apart is also = absurd (cc)
distinct_from_apart (u ∷ ts) zero zero t apart is also = refl
distinct_from_apart (u ∷ ts) zero (suc j) t apart is also =
    let same : u ≡ t = cc in
    let found : list_any (bytes_eq u) ts ≡ true = ap (λ v. list_any (bytes_eq v) ts) same
    ∙ any_from_get ts j t also in
    absurd (true≢false (sym found ∙ apart.0))
distinct_from_apart (u ∷ ts) (suc i) zero t apart is also =
    let same : u ≡ t = cc in
    let found : list_any (bytes_eq u) ts ≡ true = ap (λ v. list_any (bytes_eq v) ts) same
    ∙ any_from_get ts i t is in
    absurd (true≢false (sym found ∙ apart.0))
distinct_from_apart (u ∷ ts) (suc i) (suc j) t apart is also =
    ap suc (distinct_from_apart ts i j t apart.1 is also)

-- the names of a program that begins with some
pub names_distinct : (first us : List (List ℕ)) (i j : ℕ) (t : List ℕ)
    → slice_get (fold with_name (fold with_name [] first) us) i ≡ Some t
    → slice_get (fold with_name (fold with_name [] first) us) j ≡ Some t → i ≡ j
names_distinct first us i j t is also =
    distinct_from_apart (fold with_name (fold with_name [] first) us) i j t
    (apart-with_names (fold with_name [] first) us (apart-with_names [] first tt)) is also

-- ---- each once, as they come

-- what none of some texts is passed by the one among them
none-there : (u t : List ℕ) (ts us : List (List ℕ)) → list_any (bytes_eq u) (ts ++ t ∷ us) ≡ false
    → bytes_eq u t ≡ false
none-there u t [] us none = or_left_false (bytes_eq u t) (list_any (bytes_eq u) us) none
none-there u t (x ∷ ts) us none =
    none-there u t ts us (or_right_false (bytes_eq u x) (list_any (bytes_eq u) (ts ++ t ∷ us)) none)

-- a text is none of those before it
none-before : (ts : List (List ℕ)) (t : List ℕ) (us : List (List ℕ)) → Apart (ts ++ t ∷ us)
    → list_any (bytes_eq t) ts ≡ false
none-before [] t us apart = refl
none-before (x ∷ ts) t us apart =
    let differs : bytes_eq t x ≡ false = nat_list_eq_equiv.symm t x
    ∙ none-there x t ts us apart.0 in
    rw differs (none-before ts t us apart.1)

-- texts that are apart all stand there once each was added
once-behind : (ts us : List (List ℕ)) → Apart (ts ++ us) → fold with_name ts us ≡ ts ++ us
once-behind ts [] apart = sym (append-nil ts)
once-behind ts (u ∷ us) apart =
    let new : with_name ts u ≡ ts ++ u ∷ [] = ap (λ b. cond b ts (ts ++ u ∷ []))
    (none-before ts u us apart) in
    let moved : (ts ++ u ∷ []) ++ us ≡ ts ++ u ∷ us = append_assoc ts (u ∷ []) us in
    ap (λ ns. fold with_name ns us) new ∙ once-behind (ts ++ u ∷ []) us
    (subst Apart (sym moved) apart) ∙ moved

-- names that were each added once are the same when they are again
pub names_again : (first us : List (List ℕ))
    → fold with_name [] (fold with_name (fold with_name [] first) us)
    ≡ fold with_name (fold with_name [] first) us
names_again first us =
    once-behind [] (fold with_name (fold with_name [] first) us)
    (apart-with_names (fold with_name [] first) us (apart-with_names [] first tt))

-- ---- those that come first

-- more names only follow
pub names_follow : (names us : List (List ℕ))
    → (rest : List (List ℕ)) × (fold with_name names us ≡ names ++ rest)
names_follow names [] = ([], sym (append-nil names))
names_follow names (u ∷ us) =
    let first = one (list_any (bytes_eq u) names) in
    let later = names_follow (with_name names u) us in (
      first.0 ++ later.0,
      later.1 ∙ ap (λ ns. ns ++ later.0) first.1
          ∙ append_assoc names first.0 later.0,
    )
  where
    -- the names with one behind them, or none
    one : (b : Bool) → (rest : List (List ℕ)) × (cond b names (names ++ u ∷ []) ≡ names ++ rest)
    one true = ([], sym (append-nil names))
    one false = (u ∷ [], refl)

take-front : (xs ys : List (List ℕ)) → take (length xs) (xs ++ ys) ≡ xs
take-front [] ys = refl
take-front (x ∷ xs) ys = ap (λ zs. x ∷ zs) (take-front xs ys)

length-front : (xs ys : List (List ℕ)) → length xs ≤ length (xs ++ ys)
length-front xs ys = omega (arith, length-append xs ys)

-- the built-in names come first, where some follow and then others
builtin_follow : (us vs : List (List ℕ))
    → (rest : List (List ℕ)) × (fold with_name
    (fold with_name [] (fold with_name (fold with_name [] builtin_names) us)) vs ≡ builtin_names
    ++ rest)
builtin_follow us vs =
    let some = names_follow builtin_names us in
    let same : fold with_name (fold with_name [] builtin_names) us ≡ builtin_names
    ++ some.0 = ap (λ names. fold with_name names us) names-once ∙ some.1 in
    let more = names_follow (fold with_name (fold with_name [] builtin_names) us) vs in (
      some.0 ++ more.0,
      ap (λ names. fold with_name names vs) (names_again builtin_names us) ∙ more.1
          ∙ ap (λ names. names ++ more.0) same ∙ append_assoc builtin_names some.0 more.0,
    )

pub names_first : (us vs : List (List ℕ))
    → take (length builtin_names) (fold with_name
    (fold with_name [] (fold with_name (fold with_name [] builtin_names) us)) vs) ≡ builtin_names
names_first us vs =
    let found = builtin_follow us vs in
    ap (take (length builtin_names)) found.1 ∙ take-front builtin_names found.0

pub many_names : (us vs : List (List ℕ))
    → length builtin_names ≤ length (fold with_name
    (fold with_name [] (fold with_name (fold with_name [] builtin_names) us)) vs)
many_names us vs =
    let found = builtin_follow us vs in
    subst (λ names. length builtin_names ≤ length names) (sym found.1)
    (length-front builtin_names found.0)
