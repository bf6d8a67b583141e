-- The abstract operations of the built-in functions beside the machine's: numbers of values, kinds
-- of results, constants, and one object.
use Rattle.std.specs.Prelude.{◌≡◌, ◌⊎◌, ◌&&◌, ◌||◌, not, ℕ, zero, suc, Bool, true, false, IsTrue, List, [], ◌∷◌, map, length, drop, slice_get, Option, Some, None, is_some, Ok, Err}
use Rattle.std.specs.List.{flat_map, list_any}
use Rattle.std.specs.Option.{option_map, option_map_or}
use Rattle.std.proofs.Common.{refl, sym, subst, ap, ◌∙◌, inl, inr, append-nil}
use Rattle.std.proofs.lemmas.Bool.{false≢true, cases_Bool}
use Rattle.std.proofs.lemmas.Option.{same_Some, none-some}
use Rattle.ja_base.specs.declared.ids.Label.{Label}
use Rattle.ja_prim.specs.declared.primitive.Num.TheVariants.{NaN, Whole}
use Rattle.ja_prim.specs.declared.primitive.Primitive.{Primitive}
use Rattle.ja_prim.specs.declared.primitive.Primitive.TheVariants as primitive
use Rattle.ja_graph.specs.declared.program.Class.{Class}
use Rattle.ja_machine.specs.declared.machine.TextOperation.{TextOperation}
use Rattle.ja_machine.specs.declared.machine.TextOperation.TheVariants as text
use Rattle.ja_machine.specs.declared.machine.Value.{Value}
use Rattle.ja_machine.specs.declared.machine.Value.TheVariants as value
use Rattle.ja_machine.specs.declared.machine.Property.{Property}
use Rattle.ja_machine.specs.declared.machine.Heap.{Heap}
use Rattle.ja_machine.specs.Heap.{class_at}
use Rattle.ja_machine.specs.Intrinsics.{IntrinsicOutcome, Computation}
use Rattle.ja_machine.specs.Intrinsics as machine
use Rattle.ja_machine.specs.Machine.{class_of_site}
use Rattle.ja_machine.specs.TextOperations.{row, text_operations}
use Rattle.ja_abstract.specs.declared.abstraction.NumberPart.{NumberPart}
use Rattle.ja_abstract.specs.declared.abstraction.NumberPart.TheVariants as number_part
use Rattle.ja_abstract.specs.declared.abstraction.Sort.{Sort}
use Rattle.ja_abstract.specs.declared.abstraction.Sort.TheVariants as sort
use Rattle.ja_abstract.specs.AbstractValue.{Labels, AbstractValue, AbstractProperty, no_flags, no_value, join, same_label, of_primitive}
use Rattle.ja_abstract.specs.AbstractState.{labels_of}
use Rattle.ja_abstract.specs.Resolved.{join_values}
use Rattle.ja_abstract.specs.Operations.{Looked, AbstractOperation, looked, operation, is_list_label}
use Rattle.ja_abstract.specs.Operations as abstract
use Rattle.ja_abstract.specs.Parts.{has_primitive}
use Rattle.ja_abstract.specs.PrimitiveOperations.{Taken, class, each_told, given_of, of_taken, operands, over_operands, sorts, taken, taken_at, text_operation, text_value}
use Rattle.ja_abstract.specs.Primitives.{exactly, Abstracted, gives, over, of_bools}
use Rattle.ja_abstract.specs.Made.{value_key}
use Rattle.ja_abstract.specs.Reading.{View, some_label, slot, may_have, may_lack, may_be_enumerable, may_be_hidden}
use Rattle.ja_abstract.specs.Values.{has_atoms, has_labels, value_if, primitives_of}
use Rattle.ja_abstract.proofs.Labels.{IsAmong, same_label-true}
use Rattle.ja_abstract.proofs.Least.{value_least}
use Rattle.ja_abstract.proofs.Order.{value-join, value_same, value_equal}
use Rattle.ja_abstract.proofs.Parts.{of_primitive_has}
use Rattle.ja_abstract.proofs.PrimitiveOperations.{AreOf, IsOf}
use Rattle.ja_abstract.proofs.TextOperations.{is_row, text_operations_beside}
use Rattle.ja_meaning.specs.OperatorLaws.{IsLabelOf}
use Rattle.ja_meaning.specs.OperationLaws.{TakeTheirValues, ResultKind, booleans, texts, numbers, primitives, is_of_kind, part_of_kind, ResultsAreOfKinds, GiveNoOtherKind, AreExact, exactly_given, IsToldBySite, own_named, IsToldByReadings}
use Rattle.ja_meaning.proofs.ExactOperators.{join_none, atoms_one, label_none, no_label, no_labels}
use Rattle.ja_meaning.proofs.LabelledOperators.{test_label}
use Rattle.ja_meaning.proofs.Operators.{has_atoms-of}

-- ---- numbers of values

one_takes : (f : View → AbstractValue → Looked) (w : View) (vs : List AbstractValue)
    → (length vs ≡ 1) ⊎ (abstract.of_one f w vs ≡ looked no_value)
one_takes f w [] = inr refl
one_takes f w (v ∷ []) = inl refl
one_takes f w (v ∷ u ∷ vs) = inr refl

two_take : (f : View → AbstractValue → AbstractValue → Looked) (w : View) (vs : List AbstractValue)
    → (length vs ≡ 2) ⊎ (abstract.of_two f w vs ≡ looked no_value)
two_take f w [] = inr refl
two_take f w (v ∷ []) = inr refl
two_take f w (v ∷ u ∷ []) = inl refl
two_take f w (v ∷ u ∷ n ∷ vs) = inr refl

abbrev Takes : ℕ → machine.Operation → Type 0
Takes which o =
    (w : View) (vs : List AbstractValue)
    → (length vs ≡ o.takes) ⊎ (operation which w vs ≡ looked no_value)

-- those on texts and numbers take as many values as they have sorts
operands_fit : (ss : List Sort) (vs : List AbstractValue)
    → (length vs ≡ length ss) ⊎ (operands ss vs ≡ None)
operands_fit [] [] = inl refl
operands_fit [] (v ∷ vs) = inr refl
operands_fit (s ∷ ss) [] = inr refl
operands_fit (s ∷ ss) (v ∷ vs) =
    elim (operands_fit ss vs) [
      | inl e ↦ inl (ap suc e)
      | inr none ↦ inr (ap (option_map (λ (xss : List (List Taken)). taken s v ∷ xss)) none)
    ]

text_takes : (op : TextOperation) (vs : List AbstractValue)
    → (length vs ≡ length (sorts op)) ⊎ (looked (text_operation op vs) ≡ looked no_value)
text_takes op vs =
    elim (operands_fit (sorts op) vs) [
      | inl e ↦ inl e
      | inr none ↦ inr (ap (λ (o : Option (List (List Taken))). looked (option_map_or
          (λ xss. (over_operands (of_taken (row op) (class op)) xss).value) o no_value)) none)
    ]

abbrev TakesAsMany : List machine.Operation → List TextOperation → Type 0
TakesAsMany [] [] = Unit {0}
TakesAsMany (o ∷ os) (op ∷ ops) = (length (sorts op) ≡ o.takes) × TakesAsMany os ops
TakesAsMany os ops = ⊥

each_takes : TakesAsMany (drop 7 machine.operations) text_operations
each_takes =
    (refl, (refl, (refl, (refl, (refl, (refl, (refl, (refl, (refl, (refl, (refl, tt)))))))))))

texts_take_at : (os : List machine.Operation) (ops : List TextOperation) → TakesAsMany os ops
    → (n : ℕ) (o : machine.Operation) → slice_get os n ≡ Some o → (w : View)
    (vs : List AbstractValue) → (length vs ≡ o.takes)
    ⊎ (option_map_or (λ (r : AbstractOperation). r)
    (slice_get (map (λ op. abstract.of_values (text_operation op)) ops) n)
    (λ w vs. looked no_value) w vs ≡ looked no_value)
texts_take_at [] [] all n o is w vs = inr refl
texts_take_at [] (op ∷ ops) all n o is w vs = elim all [ ]
texts_take_at (p ∷ os) [] all n o is w vs = elim all [ ]
texts_take_at (p ∷ os) (op ∷ ops) all zero o is w vs =
    elim (text_takes op vs) [
      | inl e ↦ inl (e ∙ all.0 ∙ ap (λ (q : machine.Operation). q.takes) (same_Some p o is))
      | inr none ↦ inr none
    ]
texts_take_at (p ∷ os) (op ∷ ops) all (suc n) o is w vs =
    texts_take_at os ops all.1 n o is w vs

pub take_values : TakeTheirValues
take_values zero o is = subst (Takes 0) (same_Some _ o is) (one_takes _)
take_values (suc zero) o is = subst (Takes 1) (same_Some _ o is) (one_takes _)
take_values (suc (suc zero)) o is = subst (Takes 2) (same_Some _ o is) (one_takes _)
take_values (suc (suc (suc zero))) o is = subst (Takes 3) (same_Some _ o is) (two_take _)
take_values (suc (suc (suc (suc zero)))) o is = subst (Takes 4) (same_Some _ o is) (two_take _)
take_values (suc (suc (suc (suc (suc zero))))) o is =
    subst (Takes 5) (same_Some _ o is) (two_take _)
take_values (suc (suc (suc (suc (suc (suc zero)))))) o is =
    subst (Takes 6) (same_Some _ o is) (one_takes _)
take_values (suc (suc (suc (suc (suc (suc (suc n))))))) o is =
    texts_take_at (drop 7 machine.operations) text_operations each_takes n o is

-- ---- kinds of the machine's results

abbrev is_outcome : ResultKind → IntrinsicOutcome → Bool
is_outcome kind (Ok q) = is_of_kind kind q
is_outcome kind (Err why) = true

abbrev IsOutcome : ResultKind → Computation → Type 0
IsOutcome kind row = (xs : List Value) (h : Heap) → is_outcome kind (row xs h) ≡ true

one_outcome : (kind : ResultKind) (f : Heap → Value → IntrinsicOutcome)
    → ((h : Heap) (x : Value) → is_outcome kind (f h x) ≡ true) → IsOutcome kind (machine.of_one f)
one_outcome kind f each [] h = refl
one_outcome kind f each (x ∷ []) h = each h x
one_outcome kind f each (x ∷ y ∷ xs) h = refl

two_outcome : (kind : ResultKind) (f : Heap → Value → Value → IntrinsicOutcome)
    → ((h : Heap) (x y : Value) → is_outcome kind (f h x y) ≡ true)
    → IsOutcome kind (machine.of_two f)
two_outcome kind f each [] h = refl
two_outcome kind f each (x ∷ []) h = refl
two_outcome kind f each (x ∷ y ∷ []) h = each h x y
two_outcome kind f each (x ∷ y ∷ z ∷ xs) h = refl

class_outcome : (h : Heap) (x : Value) → is_outcome texts (machine.class_of h x) ≡ true
class_outcome h (value.Object a) = by (class_at h a)
  where
    by : (c : Option Class) → is_outcome texts (machine.if_any
        (option_map (λ (k : Class). primitive.Text (machine.class_name k)) c)) ≡ true
    by None = refl
    by (Some c) = refl
class_outcome h (value.Primitive q) = refl

any_outcome : (o : IntrinsicOutcome) → is_outcome primitives o ≡ true
any_outcome (Ok q) = refl
any_outcome (Err why) = refl

own_outcome : (holds : Option Property → Bool) (h : Heap) (x y : Value)
    → is_outcome booleans (machine.of_own holds h x y) ≡ true
own_outcome holds h (value.Object a) (value.Primitive (primitive.Text t)) = refl
own_outcome holds h x y = refl

inherits_outcome : (h : Heap) (x y : Value) → is_outcome booleans (machine.inherits h x y) ≡ true
inherits_outcome h x (value.Object a) = refl
inherits_outcome h x (value.Primitive q) = refl

-- of the kind of their class
abbrev kind_of : TextOperation → ResultKind
kind_of text.Digits = texts
kind_of text.Size = numbers
kind_of text.Unit = numbers
kind_of text.Part = texts
kind_of text.Character = texts
kind_of text.IndexOf = numbers
kind_of text.LastIndexOf = numbers
kind_of text.Lower = texts
kind_of text.Upper = texts
kind_of text.ParseInt = numbers
kind_of text.ParseFloat = numbers

-- what has a class of texts is one, and what has a class of numbers
of_texts : (q : Primitive) → IsTrue (has_primitive text_value q) → IsTrue (is_of_kind texts q)
of_texts primitive.Undefined h = absurd (false≢true h)
of_texts primitive.Null h = absurd (false≢true h)
of_texts (primitive.Bool true) h = absurd (false≢true h)
of_texts (primitive.Bool false) h = absurd (false≢true h)
of_texts (primitive.Number NaN) h = absurd (false≢true h)
of_texts (primitive.Number (Whole z)) h = absurd (false≢true h)
of_texts (primitive.Text t) h = refl

abbrev numbers_of : Bool → NumberPart → AbstractValue
numbers_of nan part =
    record no_value { flags = record no_flags { nan = nan }; number = part }

of_numbers : (nan : Bool) (part : NumberPart) (q : Primitive)
    → IsTrue (has_primitive (numbers_of nan part) q) → IsTrue (is_of_kind numbers q)
of_numbers nan part primitive.Undefined h = absurd (false≢true h)
of_numbers nan part primitive.Null h = absurd (false≢true h)
of_numbers nan part (primitive.Bool true) h = absurd (false≢true h)
of_numbers nan part (primitive.Bool false) h = absurd (false≢true h)
of_numbers nan part (primitive.Number n) h = refl
of_numbers nan part (primitive.Text t) h = absurd (false≢true h)

of_class : (op : TextOperation) (q : Primitive) → IsTrue (has_primitive (class op) q)
    → IsTrue (is_of_kind (kind_of op) q)
of_class text.Digits q h = of_texts q h
of_class text.Size q h = of_numbers false number_part.Index q h
of_class text.Unit q h = of_numbers true number_part.Index q h
of_class text.Part q h = of_texts q h
of_class text.Character q h = of_texts q h
of_class text.IndexOf q h = of_numbers false number_part.Whole q h
of_class text.LastIndexOf q h = of_numbers false number_part.Whole q h
of_class text.Lower q h = of_texts q h
of_class text.Upper q h = of_texts q h
of_class text.ParseInt q h = of_numbers true number_part.Whole q h
of_class text.ParseFloat q h = of_numbers true number_part.Whole q h

given_of_kind : (op : TextOperation) (qs : List Primitive) (q : Primitive)
    → row op qs ≡ Ok q → IsTrue (is_of_kind (kind_of op) q)
given_of_kind op qs q is = of_class op q ((is_row op).holds qs q is).1

text_outcome : (op : TextOperation) → IsOutcome (kind_of op) (machine.on_primitives (row op))
text_outcome op xs h = by (machine.primitives_in xs)
  where
    by_given : (qs : List Primitive) (g : IntrinsicOutcome) → row op qs ≡ g
        → is_outcome (kind_of op) g ≡ true
    by_given qs (Ok q) is = given_of_kind op qs q is
    by_given qs (Err why) is = refl

    by : (o : Option (List Primitive))
        → is_outcome (kind_of op) (option_map_or (row op) o machine.refused) ≡ true
    by None = refl
    by (Some qs) = by_given qs (row op qs) refl

abbrev OfRow : ResultKind → Computation → Type 0
OfRow kind row =
    (xs : List Value) (h : Heap) (q : Primitive) → row xs h ≡ Ok q → IsTrue (is_of_kind kind q)

by_outcome : (kind : ResultKind) (row : Computation) → IsOutcome kind row → OfRow kind row
by_outcome kind row each xs h q is =
    subst (λ o. is_outcome kind o ≡ true) is (each xs h)

of_row : (k kind : ResultKind) (r row : Computation) → Some k ≡ Some kind → Some r ≡ Some row
    → IsOutcome k r → OfRow kind row
of_row k kind r row is row_is each =
    subst (λ j. OfRow j row) (same_Some k kind is)
    (subst (OfRow k) (same_Some r row row_is) (by_outcome k r each))

texts_of_kinds : (ops : List TextOperation) (n : ℕ) (kind : ResultKind) (given : Computation)
    → slice_get (map kind_of ops) n ≡ Some kind
    → slice_get (map (λ op. machine.on_primitives (row op)) ops) n ≡ Some given
    → OfRow kind given
texts_of_kinds [] n kind given is row_is = absurd (none-some kind is)
texts_of_kinds (op ∷ ops) zero kind given is row_is =
    of_row (kind_of op) kind _ given is row_is (text_outcome op)
texts_of_kinds (op ∷ ops) (suc n) kind given is row_is =
    texts_of_kinds ops n kind given is row_is

pub results_are_of_kinds : ResultsAreOfKinds
results_are_of_kinds zero kind row is row_is =
    of_row booleans kind _ row is row_is (one_outcome booleans _ (λ h x. refl))
results_are_of_kinds (suc zero) kind row is row_is =
    of_row texts kind _ row is row_is (one_outcome texts _ class_outcome)
results_are_of_kinds (suc (suc zero)) kind row is row_is =
    of_row primitives kind _ row is row_is
    (one_outcome primitives _ (λ h x. any_outcome (machine.value_of h x)))
results_are_of_kinds (suc (suc (suc zero))) kind row is row_is =
    of_row booleans kind _ row is row_is (two_outcome booleans _ (own_outcome is_some))
results_are_of_kinds (suc (suc (suc (suc zero)))) kind row is row_is =
    of_row booleans kind _ row is row_is (two_outcome booleans _ (own_outcome machine.is_shown))
results_are_of_kinds (suc (suc (suc (suc (suc zero))))) kind row is row_is =
    of_row booleans kind _ row is row_is (two_outcome booleans _ inherits_outcome)
results_are_of_kinds (suc (suc (suc (suc (suc (suc zero)))))) kind row is row_is =
    of_row booleans kind _ row is row_is (one_outcome booleans _ (λ h x. refl))
results_are_of_kinds (suc (suc (suc (suc (suc (suc (suc n))))))) kind row is row_is =
    texts_of_kinds text_operations n kind row is row_is

-- ---- kinds of what is given

abbrev IsOnly : ResultKind → AbstractValue → Type 0
IsOnly kind v = v ≡ part_of_kind kind v

none_only : (kind : ResultKind) → IsOnly kind no_value
none_only booleans = refl
none_only texts = refl
none_only numbers = refl
none_only primitives = refl

join_only : (kind : ResultKind) (u v : AbstractValue) → IsOnly kind u → IsOnly kind v
    → IsOnly kind (join u v)
join_only booleans u v d e =
    ap (λ x. join x v) d ∙ ap (join (part_of_kind booleans u)) e
join_only texts u v d e = ap (λ x. join x v) d ∙ ap (join (part_of_kind texts u)) e
join_only numbers u v d e = ap (λ x. join x v) d ∙ ap (join (part_of_kind numbers u)) e
join_only primitives u v d e = ap (λ x. join x v) d ∙ ap (join (part_of_kind primitives u)) e

value_if_only : (kind : ResultKind) (b : Bool) (v : AbstractValue) → IsOnly kind v
    → IsOnly kind (value_if b v)
value_if_only kind true v is = is
value_if_only kind false v is = none_only kind

values_only : (kind : ResultKind) (f : Label → AbstractValue) (labels : List Label)
    → ((l : Label) → IsOnly kind (f l)) → IsOnly kind (join_values (map f labels))
values_only kind f [] each = none_only kind
values_only kind f (l ∷ ls) each =
    join_only kind (f l) (join_values (map f ls)) (each l) (values_only kind f ls each)

over_only : {A : Type 0} (kind : ResultKind) (f : A → Abstracted) (xs : List A)
    → ((x : A) → IsOnly kind (f x).value) → IsOnly kind (over f xs).value
over_only kind f [] each = none_only kind
over_only kind f (x ∷ xs) each =
    join_only kind (f x).value (over f xs).value (each x) (over_only kind f xs each)

-- one primitive of the kind, and the classes
primitive_only : (kind : ResultKind) (q : Primitive) → IsTrue (is_of_kind kind q)
    → IsOnly kind (of_primitive q)
primitive_only booleans (primitive.Bool true) h = refl
primitive_only booleans (primitive.Bool false) h = refl
primitive_only booleans primitive.Undefined h = absurd (false≢true h)
primitive_only booleans primitive.Null h = absurd (false≢true h)
primitive_only booleans (primitive.Number n) h = absurd (false≢true h)
primitive_only booleans (primitive.Text t) h = absurd (false≢true h)
primitive_only texts (primitive.Text t) h = refl
primitive_only texts primitive.Undefined h = absurd (false≢true h)
primitive_only texts primitive.Null h = absurd (false≢true h)
primitive_only texts (primitive.Bool b) h = absurd (false≢true h)
primitive_only texts (primitive.Number n) h = absurd (false≢true h)
primitive_only numbers (primitive.Number NaN) h = refl
primitive_only numbers (primitive.Number (Whole z)) h = refl
primitive_only numbers primitive.Undefined h = absurd (false≢true h)
primitive_only numbers primitive.Null h = absurd (false≢true h)
primitive_only numbers (primitive.Bool b) h = absurd (false≢true h)
primitive_only numbers (primitive.Text t) h = absurd (false≢true h)
primitive_only primitives primitive.Undefined h = refl
primitive_only primitives primitive.Null h = refl
primitive_only primitives (primitive.Bool true) h = refl
primitive_only primitives (primitive.Bool false) h = refl
primitive_only primitives (primitive.Number NaN) h = refl
primitive_only primitives (primitive.Number (Whole z)) h = refl
primitive_only primitives (primitive.Text t) h = refl

class_only : (op : TextOperation) → IsOnly (kind_of op) (class op)
class_only text.Digits = refl
class_only text.Size = refl
class_only text.Unit = refl
class_only text.Part = refl
class_only text.Character = refl
class_only text.IndexOf = refl
class_only text.LastIndexOf = refl
class_only text.Lower = refl
class_only text.Upper = refl
class_only text.ParseInt = refl
class_only text.ParseFloat = refl

choices_only : (kind : ResultKind) (f : List Taken → Abstracted)
    → ((xs : List Taken) → IsOnly kind (f xs).value) → (xss : List (List Taken))
    → IsOnly kind (over_operands f xss).value
choices_only kind f each [] = each []
choices_only kind f each (xs ∷ xss) =
    over_only kind (λ x. over_operands (λ rest. f (x ∷ rest)) xss) xs
    (λ x. choices_only kind (λ rest. f (x ∷ rest)) (λ rest. each (x ∷ rest)) xss)

taken_only : (op : TextOperation) (xs : List Taken)
    → IsOnly (kind_of op) (of_taken (row op) (class op) xs).value
taken_only op xs = by (each_told xs)
  where
    by_given : (qs : List Primitive) (g : IntrinsicOutcome) → row op qs ≡ g
        → IsOnly (kind_of op) (given_of g).value
    by_given qs (Ok q) is = primitive_only (kind_of op) q (given_of_kind op qs q is)
    by_given qs (Err why) is = none_only (kind_of op)

    by : (o : Option (List Primitive)) → IsOnly (kind_of op)
        (option_map_or (λ qs. given_of (row op qs)) o (gives (class op))).value
    by None = class_only op
    by (Some qs) = by_given qs (row op qs) refl

text_only : (op : TextOperation) (vs : List AbstractValue)
    → IsOnly (kind_of op) (text_operation op vs)
text_only op vs = by (operands (sorts op) vs)
  where
    by : (o : Option (List (List Taken))) → IsOnly (kind_of op) (option_map_or
        (λ xss. (over_operands (of_taken (row op) (class op)) xss).value) o no_value)
    by None = none_only (kind_of op)
    by (Some xss) = choices_only (kind_of op) _ (taken_only op) xss

abbrev GivesOnly : ResultKind → AbstractOperation → Type 0
GivesOnly kind f = (w : View) (vs : List AbstractValue) → IsOnly kind (f w vs).value

one_only : (kind : ResultKind) (f : View → AbstractValue → Looked)
    → ((w : View) (v : AbstractValue) → IsOnly kind (f w v).value)
    → GivesOnly kind (abstract.of_one f)
one_only kind f each w [] = none_only kind
one_only kind f each w (v ∷ []) = each w v
one_only kind f each w (v ∷ u ∷ vs) = none_only kind

two_only : (kind : ResultKind) (f : View → AbstractValue → AbstractValue → Looked)
    → ((w : View) (v u : AbstractValue) → IsOnly kind (f w v u).value)
    → GivesOnly kind (abstract.of_two f)
two_only kind f each w [] = none_only kind
two_only kind f each w (v ∷ []) = none_only kind
two_only kind f each w (v ∷ u ∷ []) = each w v u
two_only kind f each w (v ∷ u ∷ n ∷ vs) = none_only kind

abbrev OfOperation : ℕ → ResultKind → Type 0
OfOperation which kind = GivesOnly kind (operation which)

texts_give_only : (ops : List TextOperation) (n : ℕ) (kind : ResultKind)
    → slice_get (map kind_of ops) n ≡ Some kind
    → GivesOnly kind (option_map_or (λ (r : AbstractOperation). r)
    (slice_get (map (λ op. abstract.of_values (text_operation op)) ops) n)
    (λ w vs. looked no_value))
texts_give_only [] n kind is = absurd (none-some kind is)
texts_give_only (op ∷ ops) zero kind is =
    subst (λ k. GivesOnly k (abstract.of_values (text_operation op)))
    (same_Some (kind_of op) kind is) (λ w vs. text_only op vs)
texts_give_only (op ∷ ops) (suc n) kind is = texts_give_only ops n kind is

pub give_no_other_kind : GiveNoOtherKind
give_no_other_kind zero kind is =
    subst (OfOperation 0) (same_Some booleans kind is) (one_only booleans _ (λ w v. refl))
give_no_other_kind (suc zero) kind is =
    subst (OfOperation 1) (same_Some texts kind is)
    (one_only texts _ (λ w v. values_only texts _ (labels_of w.program)
    (λ l. value_if_only texts (v.label l) _ refl)))
give_no_other_kind (suc (suc zero)) kind is =
    subst (OfOperation 2) (same_Some primitives kind is)
    (one_only primitives _ (λ w v. values_only primitives _ (labels_of w.program)
    (λ l. value_if_only primitives (v.label l) _ refl)))
give_no_other_kind (suc (suc (suc zero))) kind is =
    subst (OfOperation 3) (same_Some booleans kind is) (two_only booleans _ (λ w v u. refl))
give_no_other_kind (suc (suc (suc (suc zero)))) kind is =
    subst (OfOperation 4) (same_Some booleans kind is) (two_only booleans _ (λ w v u. refl))
give_no_other_kind (suc (suc (suc (suc (suc zero))))) kind is =
    subst (OfOperation 5) (same_Some booleans kind is)
    (two_only booleans _ (λ w v u. value_if_only booleans (has_labels w u) _ refl))
give_no_other_kind (suc (suc (suc (suc (suc (suc zero)))))) kind is =
    subst (OfOperation 6) (same_Some booleans kind is) (one_only booleans _ (λ w v. refl))
give_no_other_kind (suc (suc (suc (suc (suc (suc (suc n))))))) kind is =
    texts_give_only text_operations n kind is

-- ---- constants

none_joined : (f : Label → AbstractValue) (labels : List Label)
    → ((l : Label) → f l ≡ no_value) → join_values (map f labels) ≡ no_value
none_joined f [] each = refl
none_joined f (l ∷ ls) each =
    ap (λ x. join x (join_values (map f ls))) (each l) ∙ none_joined f ls each

-- a value of each object is one of none
at_no_label : (w : View) (q : Primitive) (f : Label → AbstractValue)
    → join_values (map (λ l. value_if ((of_primitive q).label l) (f l)) (labels_of w.program))
    ≡ no_value
at_no_label w q f =
    none_joined (λ l. value_if ((of_primitive q).label l) (f l)) (labels_of w.program)
    (λ l. ap (λ b. value_if b (f l)) (label_none q l))

has_atom : (q : Primitive) → has_atoms (of_primitive q) ≡ true
has_atom q = has_atoms-of (of_primitive q) q (of_primitive_has q)

module _ (w : View) where
  object_one : (q : Primitive)
      → (abstract.is_object w (of_primitive q)).value ≡ of_primitive (primitive.Bool false)
  object_one q =
      ap (λ b. of_bools b (has_atoms (of_primitive q))) (no_labels w q)
      ∙ ap (of_bools false) (has_atom q)

  -- of a primitive there is no own property
  own_one : (q : Primitive) (may_hold may_fail : Labels)
      → of_bools (some_label w (λ l. (of_primitive q).label l && may_hold l))
      (some_label w (λ l. (of_primitive q).label l && may_fail l)) ≡ no_value
  own_one q may_hold may_fail =
      ap (λ b. of_bools b (some_label w (λ l. (of_primitive q).label l && may_fail l)))
      (no_label w q may_hold) ∙ ap (of_bools false) (no_label w q may_fail)

  inherits_one : (q r : Primitive)
      → (abstract.inherits w (of_primitive q) (of_primitive r)).value ≡ no_value
  inherits_one q r = ap (λ b. value_if b (of_bools (some_label w (λ l.
      Rattle.ja_abstract.specs.Reading.proper_ancestors w (of_primitive q).label l
      && (of_primitive r).label l))
      (has_labels w (of_primitive q) || has_atoms (of_primitive q)))) (no_labels w r)

  elements_one : (q : Primitive)
      → (abstract.has_elements w (of_primitive q)).value ≡ of_primitive (primitive.Bool false)
  elements_one q =
      let other = some_label w (λ l. (of_primitive q).label l && not (is_list_label w.program l)) in
      ap (λ b. of_bools b (has_atoms (of_primitive q) || other))
      (no_label w q (is_list_label w.program))
      ∙ ap (λ b. of_bools false (b || other)) (has_atom q)

-- ---- of constants those on texts and numbers give what the machine's row gives

-- what is taken of a primitive value: itself, where it is of the sort
taken_one : (s : Sort) (q : Primitive) → taken s (of_primitive q) ≡ taken_at s (exactly q)
taken_one s q = ap (flat_map (taken_at s)) (atoms_one q) ∙ append-nil (taken_at s (exactly q))

sorted_or_not : (s : Sort) (q : Primitive) → (IsOf s q × (taken_at s (exactly q) ≡ Some q ∷ []))
    ⊎ ((IsOf s q → ⊥) × (taken_at s (exactly q) ≡ []))
sorted_or_not sort.Text (primitive.Text t) = inl (tt, refl)
sorted_or_not sort.Text primitive.Undefined = inr ((λ o. o), refl)
sorted_or_not sort.Text primitive.Null = inr ((λ o. o), refl)
sorted_or_not sort.Text (primitive.Bool b) = inr ((λ o. o), refl)
sorted_or_not sort.Text (primitive.Number n) = inr ((λ o. o), refl)
sorted_or_not sort.Number (primitive.Number n) = inl (tt, refl)
sorted_or_not sort.Number primitive.Undefined = inr ((λ o. o), refl)
sorted_or_not sort.Number primitive.Null = inr ((λ o. o), refl)
sorted_or_not sort.Number (primitive.Bool b) = inr ((λ o. o), refl)
sorted_or_not sort.Number (primitive.Text t) = inr ((λ o. o), refl)

-- where each is of its sort, what is taken is the one choice of them; and else there is none
abbrev chosen : (List Taken → Abstracted) → List Sort → List Primitive → AbstractValue
chosen f ss qs =
    option_map_or (λ xss. (over_operands f xss).value) (operands ss (map of_primitive qs)) no_value

-- .. with what is taken at one place before the others
abbrev with_first : (List Taken → Abstracted) → List Taken → Option (List (List Taken))
    → AbstractValue
with_first f xs o =
    option_map_or (λ xss. (over_operands f xss).value)
    (option_map (λ (xss : List (List Taken)). xs ∷ xss) o) no_value

chosen_one : (f : List Taken → Abstracted) (ss : List Sort) (qs : List Primitive)
    → (AreOf ss qs × (chosen f ss qs ≡ (f (map Some qs)).value))
    ⊎ ((AreOf ss qs → ⊥) × (chosen f ss qs ≡ no_value))
chosen_one f [] [] = inl (tt, refl)
chosen_one f [] (q ∷ qs) = inr ((λ o. o), refl)
chosen_one f (s ∷ ss) [] = inr ((λ o. o), refl)
chosen_one f (s ∷ ss) (q ∷ qs) =
    elim (sorted_or_not s q) [
      | inl fits ↦
          elim (chosen_one (λ rest. f (Some q ∷ rest)) ss qs) [
            | inl all ↦ inl ((fits.0, all.0), first fits.1 ∙ all.1)
            | inr some ↦ inr ((λ o. some.0 o.1), first fits.1 ∙ some.1)
          ]
      | inr misfit ↦ inr ((λ o. misfit.0 o.0), none misfit.1)
    ]
  where
    one_first : (o : Option (List (List Taken))) → with_first f (Some q ∷ []) o
        ≡ option_map_or (λ xss. (over_operands (λ rest. f (Some q ∷ rest)) xss).value) o no_value
    one_first None = refl
    one_first (Some xss) = join_none (over_operands (λ rest. f (Some q ∷ rest)) xss).value

    none_first : (o : Option (List (List Taken))) → with_first f [] o ≡ no_value
    none_first None = refl
    none_first (Some xss) = refl

    first : taken_at s (exactly q) ≡ Some q ∷ []
        → chosen f (s ∷ ss) (q ∷ qs) ≡ chosen (λ rest. f (Some q ∷ rest)) ss qs
    first is =
        ap (λ xs. with_first f xs (operands ss (map of_primitive qs))) (taken_one s q ∙ is)
        ∙ one_first (operands ss (map of_primitive qs))

    none : taken_at s (exactly q) ≡ [] → chosen f (s ∷ ss) (q ∷ qs) ≡ no_value
    none is =
        ap (λ xs. with_first f xs (operands ss (map of_primitive qs))) (taken_one s q ∙ is)
        ∙ none_first (operands ss (map of_primitive qs))

told_all : (qs : List Primitive) → each_told (map Some qs) ≡ Some qs
told_all [] = refl
told_all (q ∷ qs) = ap (option_map (λ ps. q ∷ ps)) (told_all qs)

primitives_all : (qs : List Primitive) → machine.primitives_in (map value.Primitive qs) ≡ Some qs
primitives_all [] = refl
primitives_all (q ∷ qs) = ap (option_map (λ ps. q ∷ ps)) (primitives_all qs)

given_exactly : (g : IntrinsicOutcome) → (given_of g).value ≡ exactly_given g
given_exactly (Ok q) = refl
given_exactly (Err why) = refl

text_exact : (op : TextOperation) (h : Heap) (qs : List Primitive)
    → text_operation op (map of_primitive qs)
    ≡ exactly_given (machine.on_primitives (row op) (map value.Primitive qs) h)
text_exact op h qs =
    by (chosen_one (of_taken (row op) (class op)) (sorts op) qs)
    ∙ sym (ap (λ o. exactly_given (option_map_or (row op) o machine.refused)) (primitives_all qs))
  where
    refuses : (g : IntrinsicOutcome) → row op qs ≡ g → (AreOf (sorts op) qs → ⊥)
        → no_value ≡ exactly_given g
    refuses (Ok q) is never = elim (never ((is_row op).holds qs q is).0) [ ]
    refuses (Err why) is never = refl

    by : (AreOf (sorts op) qs × (chosen (of_taken (row op) (class op)) (sorts op) qs
        ≡ (of_taken (row op) (class op) (map Some qs)).value))
        ⊎ ((AreOf (sorts op) qs → ⊥)
        × (chosen (of_taken (row op) (class op)) (sorts op) qs ≡ no_value))
        → text_operation op (map of_primitive qs) ≡ exactly_given (row op qs)
    by (inl all) =
        all.1
        ∙ ap (λ o. (option_map_or (λ ps. given_of (row op ps)) o (gives (class op))).value)
        (told_all qs)
        ∙ given_exactly (row op qs)
    by (inr none) = none.1 ∙ refuses (row op qs) refl none.0

abbrev IsExactly : AbstractOperation → Computation → Type 0
IsExactly f row =
    (w : View) (h : Heap) (qs : List Primitive) → (f w (map of_primitive qs)).value
    ≡ exactly_given (row (map value.Primitive qs) h)

one_exact : (f : View → AbstractValue → Looked) (g : Heap → Value → IntrinsicOutcome)
    → ((w : View) (h : Heap) (q : Primitive) → (f w (of_primitive q)).value
    ≡ exactly_given (g h (value.Primitive q))) → IsExactly (abstract.of_one f) (machine.of_one g)
one_exact f g each w h [] = refl
one_exact f g each w h (q ∷ []) = each w h q
one_exact f g each w h (q ∷ r ∷ qs) = refl

two_exact : (f : View → AbstractValue → AbstractValue → Looked)
    (g : Heap → Value → Value → IntrinsicOutcome)
    → ((w : View) (h : Heap) (q r : Primitive) → (f w (of_primitive q) (of_primitive r)).value
    ≡ exactly_given (g h (value.Primitive q) (value.Primitive r)))
    → IsExactly (abstract.of_two f) (machine.of_two g)
two_exact f g each w h [] = refl
two_exact f g each w h (q ∷ []) = refl
two_exact f g each w h (q ∷ r ∷ []) = each w h q r
two_exact f g each w h (q ∷ r ∷ s ∷ qs) = refl

abbrev OfNumber : ℕ → Computation → Type 0
OfNumber which row = IsExactly (operation which) row

pub are_exact : AreExact
are_exact zero row is =
    subst (OfNumber 0) (same_Some _ row is) (one_exact _ _ (λ w h q. object_one w q))
are_exact (suc zero) row is =
    subst (OfNumber 1) (same_Some _ row is) (one_exact _ _ (λ w h q. at_no_label w q _))
are_exact (suc (suc zero)) row is =
    subst (OfNumber 2) (same_Some _ row is) (one_exact _ _ (λ w h q. at_no_label w q _))
are_exact (suc (suc (suc zero))) row is =
    subst (OfNumber 3) (same_Some _ row is) (two_exact _ _ (λ w h q r. own_one w q _ _))
are_exact (suc (suc (suc (suc zero)))) row is =
    subst (OfNumber 4) (same_Some _ row is) (two_exact _ _ (λ w h q r. own_one w q _ _))
are_exact (suc (suc (suc (suc (suc zero))))) row is =
    subst (OfNumber 5) (same_Some _ row is) (two_exact _ _ (λ w h q r. inherits_one w q r))
are_exact (suc (suc (suc (suc (suc (suc zero)))))) row is =
    subst (OfNumber 6) (same_Some _ row is) (one_exact _ _ (λ w h q. elements_one w q))
are_exact (suc (suc (suc (suc (suc (suc (suc n))))))) row is =
    text_operations_beside IsExactly (λ op w h qs. text_exact op h qs) n row is

-- ---- one object

-- two of one value are that value
joined_twice : (v : AbstractValue) → join v v ≡ v
joined_twice v =
    value_equal (join v v) v (value_least v v v (value_same v) (value_same v))
    (value-join v v)

-- the join over labels of what one of them gives is that
abbrev at_label : Label → (Label → AbstractValue) → List Label → AbstractValue
at_label l f labels = join_values (map (λ m. value_if (same_label l m) (f m)) labels)

module _ (l : Label) (f : Label → AbstractValue) where
  head_is : (m : Label) (b : Bool) → same_label l m ≡ b
      → value_if (same_label l m) (f m) ≡ value_if b (f l)
  head_is m true is = ap (λ c. value_if c (f m)) is ∙ ap f (sym (same_label-true l m is))
  head_is m false is = ap (λ c. value_if c (f m)) is

  joined_again : (v : AbstractValue) → (v ≡ no_value) ⊎ (v ≡ f l) → join (f l) v ≡ f l
  joined_again v (inl none) = ap (join (f l)) none ∙ join_none (f l)
  joined_again v (inr same) = ap (join (f l)) same ∙ joined_twice (f l)

  one_or_none : (labels : List Label)
      → (at_label l f labels ≡ no_value) ⊎ (at_label l f labels ≡ f l)
  one_or_none [] = inl refl
  one_or_none (m ∷ ms) =
      let rest = at_label l f ms in
      elim (cases_Bool (same_label l m)) [
        | inl is ↦
            inr (ap (λ x. join x rest) (head_is m true is) ∙ joined_again rest (one_or_none ms))
        | inr other ↦
            elim (one_or_none ms) [
              | inl none ↦ inl (ap (λ x. join x rest) (head_is m false other) ∙ none)
              | inr same ↦ inr (ap (λ x. join x rest) (head_is m false other) ∙ same)
            ]
      ]

  at_label_is : (labels : List Label) → IsAmong l labels → at_label l f labels ≡ f l
  at_label_is [] among = absurd (false≢true among)
  at_label_is (m ∷ ms) among =
      let rest = at_label l f ms in
      elim (cases_Bool (same_label l m)) [
        | inl is ↦ ap (λ x. join x rest) (head_is m true is) ∙ joined_again rest (one_or_none ms)
        | inr other ↦
            ap (λ x. join x rest) (head_is m false other)
            ∙ at_label_is ms (sym (ap (λ b. b || list_any (same_label l) ms) other) ∙ among)
      ]

-- a test and its opposite
one_or_other : (b : Bool) → of_bools b (not b) ≡ of_primitive (primitive.Bool b)
one_or_other true = refl
one_or_other false = refl

pub told_by_site : (w : View) (l : Label) → IsLabelOf w l → IsToldBySite w l
told_by_site w l is = record {
  is_object = ap (λ b. of_bools b false) is;
  class =
      at_label_is l (λ m. of_primitive (primitive.Text
      (machine.class_name (class_of_site w.program m.site.0)))) (labels_of w.program) is;
  has_elements =
      let list = is_list_label w.program l in
      ap (λ b. of_bools b (some_label w
      (λ m. same_label l m && not (is_list_label w.program m))))
      (test_label w l is (is_list_label w.program) list refl)
      ∙ ap (of_bools list) (test_label w l is (λ m. not (is_list_label w.program m)) (not list)
      refl) ∙ one_or_other list;
}

pub told_by_readings : (w : View) (l : Label) → IsLabelOf w l → IsToldByReadings w l
told_by_readings w l is = record {
  value = at_label_is l (λ m. primitives_of (slot w m value_key)) (labels_of w.program) is;
  has_own =
      λ name. told name (may_have w) may_lack;
  is_enumerable =
      λ name. told name (may_be_enumerable w) (λ q. may_lack q || may_be_hidden w q);
}
  where
    told : (name : AbstractValue) (holds fails : AbstractProperty → Bool)
        → of_bools (some_label w (λ m. same_label l m && holds (own_named w m name)))
        (some_label w (λ m. same_label l m && fails (own_named w m name)))
        ≡ of_bools (holds (own_named w l name)) (fails (own_named w l name))
    told name holds fails =
        ap (λ b. of_bools b (some_label w (λ m. same_label l m && fails (own_named w m name))))
        (test_label w l is (λ m. holds (own_named w m name)) _ refl)
        ∙ ap (of_bools (holds (own_named w l name)))
        (test_label w l is (λ m. fails (own_named w m name)) _ refl)
