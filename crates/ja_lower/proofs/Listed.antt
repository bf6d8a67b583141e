-- The functions of a text, from references to them.
use Rattle.std.proofs.Common.{◌≡◌, ◌≤◌, ◌+◌, ℕ, true, List, [], ◌∷◌, length, map, refl, ap, sym, ◌∙◌, arith}
use Rattle.std.proofs.lemmas.List.{length-map}
use Rattle.std.proofs.lemmas.List.Sums.{sum_by-cons}
use Rattle.std.specs.List.{fold, sum_by}
use Rattle.ja_lower_draft.specs.Lines.{Scene}
use Rattle.ja_lower_names.specs.TextOrder.{functions_in}
use Rattle.ja_lower.specs.declared.body.Body.{Body}
use Rattle.ja_lower.specs.Limits.{size_of_body, size_of_bodies}
use Rattle.ja_lower.specs.Lowering.{scene_with, program_body, function_body, bodies_of, prelude_bodies, at_paths}
use Rattle.ja_syntax.specs.declared.tree.FunctionOf.{FunctionOf}
use Rattle.ja_syntax.specs.declared.tree.Statement.{Statement}

map_twice : {R A B : Type 0} (now : R → A) (h : A → B) (xs : List R)
    → map (λ r. h (now r)) xs ≡ map h (map now xs)
map_twice now h [] = refl
map_twice now h (x ∷ xs) = ap (λ ys. h (now x) ∷ ys) (map_twice now h xs)

-- a sum over what a list is mapped to
sum_from : {R A : Type 0} (now : R → A) (h : A → ℕ) (n : ℕ) (xs : List R)
    → fold (λ a x. a + h (now x)) n xs ≡ fold (λ a x. a + h x) n (map now xs)
sum_from now h n [] = refl
sum_from now h n (x ∷ xs) = sum_from now h (n + h (now x)) xs

sum_map : {R A : Type 0} (now : R → A) (h : A → ℕ) (xs : List R)
    → sum_by (λ x. h (now x)) xs ≡ sum_by h (map now xs)
sum_map now h xs = sum_from now h 0 xs

few_at_paths : (paths : List (List ℕ)) (bodies : List Body)
    → length (at_paths paths bodies) ≤ length bodies
few_at_paths [] bodies = omega arith
few_at_paths (path ∷ paths) [] = omega arith
few_at_paths (path ∷ paths) (body ∷ bodies) = omega (arith, few_at_paths paths bodies)

module _ {R : Type 0} (refs : List R) (now : R → FunctionOf Statement) (scene : Scene)
    (statements : List Statement) (here : map now refs ≡ functions_in statements) where
  pub functions_listed : map (λ r. function_body scene (now r)) refs
      ≡ map (function_body scene) (functions_in statements)
  functions_listed =
      map_twice now (function_body scene) refs ∙ ap (λ fs. map (function_body scene) fs) here

  pub functions_sized : sum_by (λ r. size_of_body (function_body scene (now r))) refs
      ≡ size_of_bodies (map (function_body scene) (functions_in statements))
  functions_sized =
      let own = sum_map now (λ f. size_of_body (function_body scene f)) refs
      ∙ ap (λ fs. sum_by (λ f. size_of_body (function_body scene f)) fs) here in
      own ∙ sum_map (function_body scene) size_of_body (functions_in statements)

  functions_counted : length (map (function_body scene) (functions_in statements)) ≡ length refs
  functions_counted =
      omega (
        arith,
        length-map (functions_in statements) (function_body scene),
        length-map refs now,
        ap length here,
      )

  -- the program, and the functions of its text

  pub bodies_listed : program_body scene statements ∷ map (λ r. function_body scene (now r)) refs
      ≡ bodies_of scene statements
  unfolding bodies_of
  bodies_listed = ap (λ bs. program_body scene statements ∷ bs) functions_listed

  pub bodies_sized : size_of_body (program_body scene statements)
      + sum_by (λ r. size_of_body (function_body scene (now r))) refs
      ≡ size_of_bodies (bodies_of scene statements)
  unfolding bodies_of
  bodies_sized =
      ap (λ n. size_of_body (program_body scene statements) + n) functions_sized
      ∙ sym (sum_by-cons size_of_body (program_body scene statements)
      (map (function_body scene) (functions_in statements)))

  -- there are as many as functions are counted
  pub bodies_counted : length (bodies_of scene statements) ≡ 1 + length refs
  unfolding bodies_of
  bodies_counted = omega (arith, functions_counted)

-- the functions of the texts of built-in functions
module _ {R : Type 0} (refs : List R) (now : R → FunctionOf Statement) (names : List (List ℕ))
    (statements : List Statement) (here : map now refs ≡ functions_in statements) where
  prelude_counted : length (prelude_bodies names statements) ≡ length refs
  unfolding prelude_bodies
  prelude_counted = functions_counted refs now (scene_with true names statements) statements here

  -- with paths there are no more
  pub at_paths_counted : (paths : List (List ℕ))
      → length (at_paths paths (prelude_bodies names statements)) ≤ length refs
  at_paths_counted paths =
      omega (arith, few_at_paths paths (prelude_bodies names statements), prelude_counted)
