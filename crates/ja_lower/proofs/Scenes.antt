-- The scene of a text has the names and the functions of the text.
use Rattle.std.proofs.Common.{◌≡◌, ◌<◌, ◌==◌, ◌||◌, ℕ, Bool, true, false, if◌then◌else◌, List, [], ◌∷◌, ◌++◌, length, map, filter, refl}
use Rattle.std.specs.List.{AllByRecursion, fold, flat_map, list_any}
use Rattle.std.proofs.lemmas.Bool.{eq-eqb}
use Rattle.std.specs.Str.{bytes_eq}
use Rattle.std.specs.Cmp.Lexicographic.{bytes_decides}
use Rattle.ja_base.specs.declared.ids.NameId.{NameId}
use Rattle.ja_base.specs.declared.ids.Place.{Place}
use Rattle.ja_base.proofs.Tests.{or_right_true}
use Rattle.ja_lower_draft.specs.Lines.{Scene}
use Rattle.ja_lower_expressions.specs.Literals.{same_place}
use Rattle.ja_lower_expressions.specs.Specials.{is_name}
use Rattle.ja_lower_names.specs.Names.{number, with_name}
use Rattle.ja_lower_names.specs.TextOrder.{Named, Parts, a_function, a_name, in_name, if_function, if_name, in_statement, functions_in, names_in}
use Rattle.ja_lower_ranges.specs.Found.{HasName, HasFunctionAt, HasParts, HasText}
use Rattle.ja_lower_ranges.proofs.LineRanges.{name_in_range}
use Rattle.ja_syntax.specs.declared.tree.FunctionOf.{FunctionOf}
use Rattle.ja_syntax.specs.declared.tree.Name.{Name}
use Rattle.ja_syntax.specs.declared.tree.Statement.{Statement}
use Rattle.ja_lower.specs.Lowering.{names_of, scene_with}
use Rattle.ja_lower.proofs.FunctionLemmas.{all-from}

-- ---- what was added to a list is found in it

any_behind : {X : Type 0} (p : X → Bool) (xs : List X) (x : X) → list_any p xs ≡ true
    → list_any p (xs ++ x ∷ []) ≡ true
any_behind p [] x found = absurd (cc)
any_behind p (y ∷ xs) x found = at_head (p y) found (any_behind p xs x)
  where
    at_head : (b : Bool) → (b || list_any p xs) ≡ true
        → (list_any p xs ≡ true → list_any p (xs ++ x ∷ []) ≡ true)
        → (b || list_any p (xs ++ x ∷ [])) ≡ true
    at_head true here later = refl
    at_head false here later = later here

any_last : {X : Type 0} (p : X → Bool) (xs : List X) (x : X) → p x ≡ true
    → list_any p (xs ++ x ∷ []) ≡ true
any_last p [] x passes = rw passes refl
any_last p (y ∷ xs) x passes = at_head (p y) (any_last p xs x passes)
  where
    at_head : (b : Bool) → list_any p (xs ++ x ∷ []) ≡ true
        → (b || list_any p (xs ++ x ∷ [])) ≡ true
    at_head true later = refl
    at_head false later = later

same_text : (t : List ℕ) → bytes_eq t t ≡ true
same_text t = (bytes_decides t t).1 refl

-- a name is found behind one more, and behind several more
kept : (names : List (List ℕ)) (q t : List ℕ) → list_any (bytes_eq q) names ≡ true
    → list_any (bytes_eq q) (with_name names t) ≡ true
kept names q t found = either (list_any (bytes_eq t) names)
  where
    either : (b : Bool) → list_any (bytes_eq q) (if b then names else names ++ t ∷ []) ≡ true
    either true = found
    either false = any_behind (bytes_eq q) names t found

all_kept : (names : List (List ℕ)) (q : List ℕ) (ts : List (List ℕ))
    → list_any (bytes_eq q) names ≡ true → list_any (bytes_eq q) (fold with_name names ts) ≡ true
all_kept names q [] found = found
all_kept names q (t ∷ ts) found = all_kept (with_name names t) q ts (kept names q t found)

added : (names : List (List ℕ)) (t : List ℕ) → list_any (bytes_eq t) (with_name names t) ≡ true
added names t = either (list_any (bytes_eq t) names) refl
  where
    either : (b : Bool) → list_any (bytes_eq t) names ≡ b
        → list_any (bytes_eq t) (if b then names else names ++ t ∷ []) ≡ true
    either true known = known
    either false known = any_last (bytes_eq t) names t (same_text t)

all_added : (names ts : List (List ℕ)) → AllByRecursion
    (λ t. list_any (bytes_eq t) (fold with_name names ts) ≡ true) ts
all_added names [] = tt
all_added names (t ∷ ts) =
    (all_kept (with_name names t) t ts (added names t), all_added (with_name names t) ts)

-- ---- the places of functions

same_number : (n : ℕ) → (n == n) ≡ true
same_number n = eq-eqb n n refl

itself : (place : Place) → same_place place place ≡ true
itself place = rw (same_number place.line, same_number place.column) refl

all_places : (places : List Place) → AllByRecursion
    (λ place. list_any (same_place place) places ≡ true) places
all_places [] = tt
all_places (p ∷ places) = (
  rw (itself p) refl,
  all-from (λ q. list_any (same_place q) places ≡ true)
      (λ q. list_any (same_place q) (p ∷ places) ≡ true) places
      (λ q found. or_right_true (same_place q p) found) (all_places places),
)

-- ---- the parts of a text

module _ (scene : Scene) where
  -- the names of parts, by their texts
  abbrev texts_in : List Named → List (List ℕ)
  texts_in ns = map (λ (n : Named). n.text) ns

  abbrev own_names : Parts → List Named
  own_names parts = filter (is_name scene.specials) (flat_map if_name parts)

  parts_found : (parts : Parts) → AllByRecursion (HasFunctionAt scene)
      (map (λ (f : FunctionOf Statement). f.place) (flat_map if_function parts))
      → AllByRecursion (HasName scene) (texts_in (own_names parts)) → HasParts scene parts
  parts_found [] functions names = tt
  parts_found (a_function f ∷ parts) functions names =
      (functions.0, parts_found parts functions.1 names)
  parts_found (a_name n ∷ parts) functions names =
      at_head (is_name scene.specials n) refl names (parts_found parts functions)
    where
      at_head : (b : Bool) → is_name scene.specials n ≡ b
          → AllByRecursion (HasName scene) (texts_in
          (if b then n ∷ own_names parts else own_names parts))
          → (AllByRecursion (HasName scene) (texts_in (own_names parts)) → HasParts scene parts)
          → HasParts scene (a_name n ∷ parts)
      at_head true is known later = (λ wanted. known.0, later known.1)
      at_head false is known later = (λ wanted. absurd (cc (is, wanted)), later known)

pub scene_has_its_text : (specials : Bool) (first : List (List ℕ)) (statements : List Statement)
    → HasText (scene_with specials (names_of specials first statements) statements) statements
unfolding names_of functions_in names_in
scene_has_its_text specials first statements =
    parts_found (scene_with specials (names_of specials first statements) statements)
    (flat_map in_statement statements)
    (all_places (map (λ (f : FunctionOf Statement). f.place) (functions_in statements)))
    (all_added (fold with_name [] first) (map (λ (n : Named). n.text)
    (filter (is_name specials) (names_in statements))))

-- the parameters of a function have the numbers of names
pub parameters_named : (scene : Scene) (ps : List Name) → HasParts scene (flat_map in_name ps)
    → AllByRecursion (λ (n : NameId). n.0 < length scene.names)
    (map (λ (p : Name). number scene.names p.text) ps)
parameters_named scene [] has = tt
parameters_named scene (p ∷ ps) has =
    (name_in_range scene p.text (has.0 refl), parameters_named scene ps has.1)
