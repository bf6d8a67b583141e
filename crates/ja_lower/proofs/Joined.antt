-- Bodies behind bodies, bodies by their paths, and names behind names.
use Rattle.std.proofs.Common.{◌≡◌, ℕ, suc, ◌+◌, ◌≤◌, Bool, true, false, if◌then◌else◌, List, [], ◌∷◌, ◌++◌, length, map, filter, refl, sym, ap, ◌∙◌, append-nil, append_assoc, arith, length-append}
use Rattle.std.specs.List.{fold, list_any}
use Rattle.std.specs.Str.{bytes_eq}
use Rattle.std.proofs.lemmas.List.Sums.{fold-append, sum_by-cons}
use Rattle.ja_lower_expressions.specs.Specials.{is_name}
use Rattle.ja_lower_names.specs.Names.{with_name}
use Rattle.ja_lower_names.specs.TextOrder.{Named, names_in}
use Rattle.ja_syntax.specs.declared.tree.Statement.{Statement}
use Rattle.ja_lower.specs.declared.body.Body.{Body}
use Rattle.ja_lower.specs.Limits.{size_of_body, size_of_bodies}
use Rattle.ja_lower.specs.Lowering.{names_of, prelude_names, sites_in, sites_of_nodes, sites_of, function_of, functions_of, at_path, at_paths}
use Rattle.ja_lower.proofs.Wholes.{sites_counted}

-- ---- bodies behind bodies

-- the sites of the first are counted
pub functions_append : (first f : ℕ) (xs ys : List Body)
    → functions_of first (xs ++ ys) ≡ functions_of first xs
    ++ functions_of (first + length (sites_of f xs)) ys
unfolding functions_of sites_of
functions_append first f [] ys = let here : first + 0 ≡ first = omega arith in rw here refl
functions_append first f (x ∷ xs) ys =
    let count : first + sites_in x.nodes + length (sites_of (suc f) xs) ≡ first
    + length (sites_of_nodes f x.nodes ++ sites_of (suc f) xs) = omega (
      arith,
      length-append (sites_of_nodes f x.nodes) (sites_of (suc f) xs),
      sites_counted f x.nodes,
    ) in
    ap (λ fns. function_of first x ∷ fns) (functions_append (first + sites_in x.nodes) (suc f) xs
    ys)
    ∙ ap (λ n. function_of first x ∷ (functions_of (first + sites_in x.nodes) xs
    ++ functions_of n ys)) count

pub sites_append : (f : ℕ) (xs ys : List Body)
    → sites_of f (xs ++ ys) ≡ sites_of f xs ++ sites_of (f + length xs) ys
unfolding sites_of
sites_append f [] ys = let here : f + 0 ≡ f = omega arith in rw here refl
sites_append f (x ∷ xs) ys =
    let here = sites_of_nodes f x.nodes in
    let count : suc f + length xs ≡ f + suc (length xs) = omega arith in
    ap (λ ss. here ++ ss) (sites_append (suc f) xs ys)
    ∙ ap (λ n. here ++ (sites_of (suc f) xs ++ sites_of n ys)) count
    ∙ sym (append_assoc here (sites_of (suc f) xs) (sites_of (f + suc (length xs)) ys))

pub size-append : (xs ys : List Body) → size_of_bodies (xs ++ ys) ≡ size_of_bodies xs
    + size_of_bodies ys
size-append [] ys = omega arith
size-append (x ∷ xs) ys =
    omega (
      arith,
      sum_by-cons size_of_body x (xs ++ ys),
      sum_by-cons size_of_body x xs,
      size-append xs ys,
    )

-- ---- bodies by their paths

pub length-at_paths : (paths : List (List ℕ)) (bodies : List Body) → length paths ≡ length bodies
    → length (at_paths paths bodies) ≡ length paths
length-at_paths [] bodies each = refl
length-at_paths (path ∷ paths) [] each = absurd (omega arith)
length-at_paths (path ∷ paths) (body ∷ bodies) each =
    ap suc (length-at_paths paths bodies (omega arith))

pub size-at_paths : (paths : List (List ℕ)) (bodies : List Body)
    → size_of_bodies (at_paths paths bodies) ≤ size_of_bodies bodies
size-at_paths [] bodies = omega arith
size-at_paths (path ∷ paths) [] = omega arith
size-at_paths (path ∷ paths) (body ∷ bodies) =
    omega (
      arith,
      sum_by-cons size_of_body (at_path path body) (at_paths paths bodies),
      sum_by-cons size_of_body body bodies,
      size-at_paths paths bodies,
    )

-- ---- names behind names

-- more names only follow
with_names_follow : (names ts : List (List ℕ))
    → (own : List (List ℕ)) × (fold with_name names ts ≡ names ++ own)
with_names_follow names [] = ([], sym (append-nil names))
with_names_follow names (t ∷ ts) =
    let first = one (list_any (bytes_eq t) names) in
    let later = with_names_follow (with_name names t) ts in (
      first.0 ++ later.0,
      later.1 ∙ ap (λ ns. ns ++ later.0) first.1
          ∙ append_assoc names first.0 later.0,
    )
  where
    one : (b : Bool) → (own : List (List ℕ))
        × ((if b then names else names ++ t ∷ []) ≡ names ++ own)
    one true = ([], sym (append-nil names))
    one false = (t ∷ [], refl)

-- one more name is taken as it is
taken_behind : (ns names : List (List ℕ)) (t : List ℕ)
    → fold with_name ns (names ++ t ∷ []) ≡ with_name (fold with_name ns names) t
taken_behind ns [] t = refl
taken_behind ns (n ∷ names) t = taken_behind (with_name ns n) names t

-- names that each stand once stay as they are when each is taken once, and so do they with more
taken_again : (names ts : List (List ℕ)) → fold with_name [] names ≡ names
    → fold with_name [] (fold with_name names ts) ≡ fold with_name names ts
taken_again names [] once = once
taken_again names (t ∷ ts) once =
    taken_again (with_name names t) ts (at (list_any (bytes_eq t) names) refl)
  where
    at : (b : Bool) → list_any (bytes_eq t) names ≡ b
        → fold with_name [] (if b then names else names ++ t ∷ [])
        ≡ (if b then names else names ++ t ∷ [])
    at true known = once
    at false known =
        let taken : with_name (fold with_name [] names) t
        ≡ with_name names t = ap (λ ns. with_name ns t) once in
        let new : with_name names t ≡ names ++ t ∷ [] = rw known refl in
        taken_behind [] names t ∙ taken ∙ new

-- names of which some come first are those, and then the others
pub names_behind : (specials : Bool) (first more : List (List ℕ)) (statements : List Statement)
    → names_of specials (first ++ more) statements
    ≡ fold with_name (fold with_name [] first)
    (more ++ map (λ (n : Named). n.text) (filter (is_name specials) (names_in statements)))
unfolding names_of
names_behind specials first more statements =
    let texts = map (λ (n : Named). n.text) (filter (is_name specials) (names_in statements)) in
    ap (λ ns. fold with_name ns texts) (fold-append with_name [] first more)
    ∙ sym (fold-append with_name (fold with_name [] first) more texts)

-- the names of built-in functions stay as they are
prelude_names_stay : (names : List (List ℕ)) (prelude : List Statement)
    → fold with_name [] (prelude_names names prelude) ≡ prelude_names names prelude
unfolding names_of
prelude_names_stay names prelude =
    taken_again (fold with_name [] names) (map (λ (n : Named). n.text)
    (filter (is_name true) (names_in prelude))) (taken_again [] names refl)

pub first_names_stay : (names more : List (List ℕ)) (prelude statements : List Statement)
    → (own : List (List ℕ)) × (names_of false (prelude_names names prelude ++ more) statements
    ≡ prelude_names names prelude ++ own)
first_names_stay names more prelude statements =
    let all = more ++ map (λ (n : Named). n.text) (filter (is_name false) (names_in statements)) in
    let follow = with_names_follow (prelude_names names prelude) all in (
      follow.0,
      names_behind false (prelude_names names prelude) more statements
          ∙ ap (λ ns. fold with_name ns all) (prelude_names_stay names prelude) ∙ follow.1,
    )
