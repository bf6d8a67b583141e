-- An operation on texts and numbers: what is given of abstract values has each result of the
-- machine's row on primitives that they have.
use Rattle.std.specs.Prelude.{ℕ, ◌≡◌, ◌⊎◌, IsTrue, List, [], ◌∷◌, Option, Some, None, Result, Ok}
use Rattle.std.proofs.Common.{refl, sym, subst, ap, ◌∙◌, inl, inr}
use Rattle.std.proofs.lemmas.Bool.{false≢true}
use Rattle.std.specs.List.{flat_map}
use Rattle.std.specs.Option.{option_map, option_map_or}
use Rattle.ja_prim.specs.declared.primitive.Primitive.{Primitive}
use Rattle.ja_prim.specs.declared.primitive.Primitive.TheVariants as primitive
use Rattle.ja_prim.specs.declared.primitive.Num.{Num}
use Rattle.ja_prim.specs.declared.primitive.Num.TheVariants.{NaN, Whole}
use Rattle.ja_prim.specs.declared.stop.Stop.{Stop}
use Rattle.ja_machine.specs.TextOperations.{Given, PrimitiveRow}
use Rattle.ja_abstract.specs.declared.abstraction.Sort.{Sort}
use Rattle.ja_abstract.specs.declared.abstraction.Sort.TheVariants as sort
use Rattle.ja_abstract.specs.AbstractValue.{AbstractValue, no_value}
use Rattle.ja_abstract.specs.Parts.{has_primitive}
use Rattle.ja_abstract.specs.Primitives.{Atom, exactly, index, other_whole, whole, index_text, other_text, any_text, atoms, Abstracted, gives}
use Rattle.ja_abstract.specs.PrimitiveOperations.{Taken, taken_at, taken, operands, over_operands, each_told, given_of, of_taken, primitive_operation}
use Rattle.ja_abstract.proofs.Parts.{of_primitive_has}
use Rattle.ja_abstract.proofs.Atoms.{Covers, Has, Some_, some-left, some-right, over-covers, atoms-have, only}

-- a primitive value is of a sort
abbrev pub IsOf : Sort → Primitive → Type 0
IsOf sort.Text (primitive.Text t) = Unit {0}
IsOf sort.Number (primitive.Number n) = Unit {0}
IsOf s q = ⊥

abbrev pub AreOf : List Sort → List Primitive → Type 0
AreOf [] [] = Unit {0}
AreOf (s ∷ ss) (q ∷ qs) = IsOf s q × AreOf ss qs
AreOf ss qs = ⊥

abbrev pub AllHave : List AbstractValue → List Primitive → Type 0
AllHave [] [] = Unit {0}
AllHave (v ∷ vs) (q ∷ qs) = IsTrue (has_primitive v q) × AllHave vs qs
AllHave vs qs = ⊥

-- what is taken stands for a primitive
abbrev Stands : Primitive → Taken → Type 0
Stands q x = (x ≡ None) ⊎ (x ≡ Some q)

-- one primitive is only itself, and a class is any
text_stands : (a : Atom) (t : List ℕ) → Has (primitive.Text t) a
    → Some_ (Stands (primitive.Text t)) (taken_at sort.Text a)
text_stands (exactly p) t h =
    subst (λ q. Some_ (Stands (primitive.Text t)) (taken_at sort.Text (exactly q)))
    (sym (only p (primitive.Text t) h)) (inl (inr refl))
text_stands index t h = absurd (false≢true h)
text_stands other_whole t h = absurd (false≢true h)
text_stands whole t h = absurd (false≢true h)
text_stands index_text t h = inl (inl refl)
text_stands other_text t h = inl (inl refl)
text_stands any_text t h = inl (inl refl)

number_stands : (a : Atom) (n : Num) → Has (primitive.Number n) a
    → Some_ (Stands (primitive.Number n)) (taken_at sort.Number a)
number_stands (exactly p) n h =
    subst (λ q. Some_ (Stands (primitive.Number n)) (taken_at sort.Number (exactly q)))
    (sym (only p (primitive.Number n) h)) (inl (inr refl))
number_stands index n h = inl (inl refl)
number_stands other_whole n h = inl (inl refl)
number_stands whole n h = inl (inl refl)
number_stands index_text NaN h = absurd (false≢true h)
number_stands index_text (Whole z) h = absurd (false≢true h)
number_stands other_text NaN h = absurd (false≢true h)
number_stands other_text (Whole z) h = absurd (false≢true h)
number_stands any_text NaN h = absurd (false≢true h)
number_stands any_text (Whole z) h = absurd (false≢true h)

atom_stands : (s : Sort) (a : Atom) (q : Primitive) → IsOf s q → Has q a
    → Some_ (Stands q) (taken_at s a)
atom_stands sort.Text a (primitive.Text t) o h = text_stands a t h
atom_stands sort.Number a (primitive.Number n) o h = number_stands a n h
atom_stands sort.Text a primitive.Undefined o h = elim o [ ]
atom_stands sort.Text a primitive.Null o h = elim o [ ]
atom_stands sort.Text a (primitive.Bool b) o h = elim o [ ]
atom_stands sort.Text a (primitive.Number n) o h = elim o [ ]
atom_stands sort.Number a primitive.Undefined o h = elim o [ ]
atom_stands sort.Number a primitive.Null o h = elim o [ ]
atom_stands sort.Number a (primitive.Bool b) o h = elim o [ ]
atom_stands sort.Number a (primitive.Text t) o h = elim o [ ]

some_flat : {A B : Type 0} (f : A → List B) (P : A → Type 0) (Q : B → Type 0)
    → ((a : A) → P a → Some_ Q (f a)) → (xs : List A) → Some_ P xs → Some_ Q (flat_map f xs)
some_flat f P Q each [] s = elim s [ ]
some_flat f P Q each (x ∷ xs) (inl h) = some-left Q (f x) (flat_map f xs) (each x h)
some_flat f P Q each (x ∷ xs) (inr s) =
    some-right Q (f x) (flat_map f xs) (some_flat f P Q each xs s)

taken_stands : (s : Sort) (v : AbstractValue) (q : Primitive) → IsOf s q → IsTrue (has_primitive v q)
    → Some_ (Stands q) (taken s v)
taken_stands s v q o h =
    some_flat (taken_at s) (Has q) (Stands q) (λ a k. atom_stands s a q o k) (atoms v)
    (atoms-have v q h)

-- ---- one per place

abbrev AllStand : List Primitive → List Taken → Type 0
AllStand [] [] = Unit {0}
AllStand (q ∷ qs) (x ∷ xs) = Stands q x × AllStand qs xs
AllStand qs xs = ⊥

abbrev SomeStand : List Primitive → List (List Taken) → Type 0
SomeStand [] [] = Unit {0}
SomeStand (q ∷ qs) (xs ∷ xss) = Some_ (Stands q) xs × SomeStand qs xss
SomeStand qs xss = ⊥

over_operands_cover : (f : List Taken → Abstracted) (qs : List Primitive) (xss : List (List Taken))
    (r : Result Primitive Stop) → ((xs : List Taken) → AllStand qs xs → Covers (f xs) r)
    → SomeStand qs xss → Covers (over_operands f xss) r
over_operands_cover f [] [] r each s = each [] tt
over_operands_cover f [] (xs ∷ xss) r each s = elim s [ ]
over_operands_cover f (q ∷ qs) [] r each s = elim s [ ]
over_operands_cover f (q ∷ qs) (xs ∷ xss) r each s =
    over-covers (λ x. over_operands (λ rest. f (x ∷ rest)) xss) xs (Stands q) r
    (λ x k. over_operands_cover (λ rest. f (x ∷ rest)) qs xss r
    (λ rest m. each (x ∷ rest) (k, m)) s.1) s.0

told : (qs : List Primitive) (xs : List Taken) → AllStand qs xs
    → (each_told xs ≡ None) ⊎ (each_told xs ≡ Some qs)
told [] [] s = inr refl
told [] (x ∷ xs) s = elim s [ ]
told (q ∷ qs) [] s = elim s [ ]
told (q ∷ qs) (None ∷ xs) s = inl refl
told (q ∷ qs) (Some p ∷ xs) (inl e, s) = absurd (cc)
told (q ∷ qs) (Some p ∷ xs) (inr e, s) =
    elim (told qs xs s) [
      | inl none ↦ inl (ap (option_map (λ ps. p ∷ ps)) none)
      | inr all ↦ inr (ap (option_map (λ ps. p ∷ ps)) all ∙ same p q e)
    ]
  where
    same : (p q : Primitive) → Some p ≡ Some q → Some (p ∷ qs) ≡ Some (q ∷ qs)
    same p q e = cc

module _ (sorts : List Sort) (row : PrimitiveRow) (class : AbstractValue)
    (sorted : (qs : List Primitive) (q : Primitive) → row qs ≡ Ok q → AreOf sorts qs)
    (in_class : (qs : List Primitive) (q : Primitive) → row qs ≡ Ok q → IsTrue (has_primitive class q))
  where
    of_taken_covers : (qs : List Primitive) (q : Primitive) → row qs ≡ Ok q → (xs : List Taken)
        → AllStand qs xs → Covers (of_taken row class xs) (Ok q)
    of_taken_covers qs q is xs s =
        elim (told qs xs s) [
          | inl none ↦
              subst (λ (o : Option (List Primitive)). Covers (option_map_or
              (λ ps. given_of (row ps)) o (gives class)) (Ok q)) (sym none) (in_class qs q is)
          | inr all ↦
              subst (λ (o : Option (List Primitive)). Covers (option_map_or
              (λ ps. given_of (row ps)) o (gives class)) (Ok q)) (sym all)
              (subst (λ (g : Given). Covers (given_of g) (Ok q)) (sym is) (of_primitive_has q))
        ]

    -- what is taken at the places
    taken_at_places : (ss : List Sort) (vs : List AbstractValue) (qs : List Primitive) → AreOf ss qs
        → AllHave vs qs
        → (xss : List (List Taken)) × (operands ss vs ≡ Some xss) × SomeStand qs xss
    taken_at_places [] [] [] o h = ([], refl, tt)
    taken_at_places [] [] (q ∷ qs) o h = elim o [ ]
    taken_at_places [] (v ∷ vs) [] o h = elim h [ ]
    taken_at_places [] (v ∷ vs) (q ∷ qs) o h = elim o [ ]
    taken_at_places (s ∷ ss) vs [] o h = elim o [ ]
    taken_at_places (s ∷ ss) [] (q ∷ qs) o h = elim h [ ]
    taken_at_places (s ∷ ss) (v ∷ vs) (q ∷ qs) o h =
        let (xss, is, stand) = taken_at_places ss vs qs o.1 h.1 in (
          taken s v ∷ xss,
          ap (option_map (λ (yss : List (List Taken)). taken s v ∷ yss)) is,
          (taken_stands s v q o.0 h.0, stand),
        )

    pub primitive_operation_covers : (vs : List AbstractValue) (qs : List Primitive) (q : Primitive)
        → AllHave vs qs → row qs ≡ Ok q
        → IsTrue (has_primitive (primitive_operation sorts row class vs) q)
    primitive_operation_covers vs qs q h is =
        let (xss, there, stand) = taken_at_places sorts vs qs (sorted qs q is) h in
        subst (λ (o : Option (List (List Taken))). IsTrue (has_primitive (option_map_or
        (λ yss. (over_operands (of_taken row class) yss).value) o no_value) q)) (sym there)
        (over_operands_cover (of_taken row class) qs xss (Ok q)
        (λ xs s. of_taken_covers qs q is xs s) stand)
