-- Parameters, arguments and their marks, and the elements of an arguments object, one by one.
use Rattle.std.proofs.Common.{◌≡◌, ℕ, zero, suc, ◌+◌, ◌^◌, ◌<◌, ◌≤◌, ◌⊎◌, inl, inr, Bool, true, false, not, List, [], ◌∷◌, ◌++◌, map, drop, length, get_or, min, Option, refl, sym, ap, subst, ◌∙◌, arith, append_assoc}
use Rattle.std.proofs.lemmas.List.{append-nil, drop-drop, drop_more}
use Rattle.std.proofs.lemmas.Option.{unwrap_or-slice_get}
use Rattle.std.specs.Prelude.{slice_get, unwrap_or}
use Rattle.std.specs.List.{list_any}
use Rattle.ja_graph.specs.declared.attrs.TheConstants.{DONT_DELETE}
use Rattle.ja_prim.specs.Texts.{same_text}
use Rattle.ja_machine.specs.declared.machine.Property.{Property}
use Rattle.ja_machine.specs.declared.machine.Value.{Value}
use Rattle.ja_machine.specs.Frames.{undefined, argument}
use Rattle.ja_machine.specs.Objects.{property_with, with_property, with_flag}
use Rattle.ja_machine.specs.Objects.{first_flag, with_parameters, sharing}
use Rattle.ja_machine.specs.Objects.{argument_element, with_elements}

-- ---- lists

drop_past : {X : Type 0} (i : ℕ) (xs : List X) → length xs ≤ i → drop i xs ≡ []
drop_past zero [] high = refl
drop_past zero (x ∷ xs) high = absurd (omega (arith, high))
drop_past (suc i) [] high = refl
drop_past (suc i) (x ∷ xs) high = drop_past i xs (omega (arith, high))

first_of_rest : {X : Type 0} (i : ℕ) (xs : List X) → slice_get (drop i xs) 0 ≡ slice_get xs i
first_of_rest zero xs = refl
first_of_rest (suc i) [] = refl
first_of_rest (suc i) (x ∷ xs) = first_of_rest i xs

pub argument_there : (arguments : List Value) (i : ℕ)
    → argument (drop i arguments) 0 ≡ argument arguments i
argument_there arguments i =
    ap (λ (o : Option Value). unwrap_or o undefined) (first_of_rest i arguments)

-- ---- marks

nothing_shared : (names : List (List ℕ)) → sharing names [] ≡ []
nothing_shared [] = refl
nothing_shared (name ∷ names) = refl

module _ {X : Type 0} (text : X → List ℕ) (names : List X) (arguments : List Value) where
  -- the marks so far, before those of the rest, are all
  abbrev pub AreMarks : ℕ → List Bool → Type 0
  AreMarks i flags =
      flags ++ sharing (map text (drop i names)) (drop i arguments)
      ≡ sharing (map text names) arguments

  pub marked : (i : ℕ) (flags : List Bool) (x : X) → i < length names → i < length arguments
      → drop i names ≡ x ∷ drop (i + 1) names → AreMarks i flags
      → AreMarks (i + 1) (flags ++ not (list_any (same_text (text x))
      (map text (drop (i + 1) names))) ∷ [])
  marked i flags x low given at marks =
      let mark : Bool = not (list_any (same_text (text x)) (map text (drop (i + 1) names))) in
      let rest : List Bool = sharing (map text (drop (i + 1) names)) (drop (i + 1) arguments) in
      let step : sharing (map text (drop i names)) (drop i arguments) ≡ mark
      ∷ rest = rw (at, drop_more arguments i undefined given) refl in
      append_assoc flags (mark ∷ []) rest ∙ ap (λ (bs : List Bool). flags ++ bs) (sym step) ∙ marks

  none_left : (i : ℕ) → (length names ≤ i) ⊎ (length arguments ≤ i)
      → sharing (map text (drop i names)) (drop i arguments) ≡ []
  none_left i (inl high) = rw (drop_past i names high) refl
  none_left i (inr high) =
      rw (drop_past i arguments high) (nothing_shared (map text (drop i names)))

  past : (i : ℕ) → min (length names) (length arguments) ≤ i
      → (length names ≤ i) ⊎ (length arguments ≤ i)
  past i high = grind (arith, high)

  pub all_marked : (i : ℕ) (flags : List Bool) → min (length names) (length arguments) ≤ i
      → AreMarks i flags → flags ≡ sharing (map text names) arguments
  all_marked i flags high marks =
      sym (append-nil flags) ∙ ap (λ (bs : List Bool). flags ++ bs)
      (sym (none_left i (past i high))) ∙ marks

-- ---- parameters

module _ {X : Type 0} (text : X → List ℕ) (names : List X) (arguments : List Value)
    (flags : List Bool) where
  -- with the rest bound
  abbrev pub all_bound : ℕ → List Property → List Property
  all_bound i qs = with_parameters qs (map text (drop i names)) (drop i arguments) (drop i flags)

  pub bound : (i : ℕ) (qs : List Property) (x : X) → drop i names ≡ x ∷ drop (i + 1) names
      → all_bound i qs ≡ all_bound (i + 1) (with_property qs
      (with_flag (property_with (text x) (argument arguments i) DONT_DELETE)
      (first_flag (drop i flags))))
  bound i qs x at =
      let put : Value → List Property = λ v.
      with_property qs (with_flag (property_with (text x) v DONT_DELETE)
      (first_flag (drop i flags))) in
      ap (λ (ns : List X). with_parameters qs (map text ns) (drop i arguments) (drop i flags)) at
      ∙ ap (λ (v : Value). with_parameters (put v) (map text (drop (i + 1) names))
      (drop 1 (drop i arguments)) (drop 1 (drop i flags))) (argument_there arguments i)
      ∙ ap (λ (vs : List Value). with_parameters (put (argument arguments i))
      (map text (drop (i + 1) names)) vs (drop 1 (drop i flags))) (drop-drop 1 i arguments)
      ∙ ap (λ (bs : List Bool). with_parameters (put (argument arguments i))
      (map text (drop (i + 1) names)) (drop (i + 1) arguments) bs) (drop-drop 1 i flags)

-- ---- the elements of `arguments`

module _ (arguments : List Value) (flags : List Bool) where
  -- with the elements from an index on
  abbrev pub all_elements : ℕ → List Property → List Property
  all_elements i qs = with_elements qs i (drop i arguments) (drop i flags)

  pub one_more : (i : ℕ) (qs : List Property) →
      i < length arguments →
      all_elements i qs ≡
      all_elements
      (i + 1)
      (with_property qs (argument_element i (argument arguments i) (drop i flags)))
  one_more i qs low =
      let flags_here : List Bool = drop i flags in
      let rest : List Value = drop (i + 1) arguments in
      let put : Value → List Property = λ v. with_property qs (argument_element i v flags_here) in
      let read = sym (unwrap_or-slice_get arguments i undefined) in
      ap
      (λ (vs : List Value). with_elements qs i vs flags_here)
      (drop_more arguments i undefined low)
      ∙ ap (λ (v : Value). with_elements (put v) (i + 1) rest (drop 1 flags_here)) read
      ∙ ap
      (λ (bs : List Bool). with_elements (put (argument arguments i)) (i + 1) rest bs)
      (drop-drop 1 i flags)
