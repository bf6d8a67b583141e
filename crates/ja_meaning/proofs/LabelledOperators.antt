-- What operators give of objects by their labels.
use Rattle.std.specs.Prelude.{◌≡◌, ◌&&◌, not, Bool, true, false, IsTrue, [], ◌∷◌, Some}
use Rattle.std.proofs.Common.{refl, sym, subst, ap, ◌∙◌, inl, inr}
use Rattle.std.proofs.lemmas.Bool.{and_parts, and_from, false≢true, false_from_ne_true}
use lib.Chars.{codes}
use Rattle.ja_base.specs.declared.ids.Label.{Label}
use Rattle.ja_prim.specs.declared.primitive.Primitive.{Primitive}
use Rattle.ja_prim.specs.declared.primitive.Primitive.TheVariants as primitive
use Rattle.ja_graph.specs.declared.node.BinaryOp.{BinaryOp}
use Rattle.ja_graph.specs.declared.node.BinaryOp.TheVariants as binary_op
use Rattle.ja_graph.specs.declared.program.Class.{Class}
use Rattle.ja_graph.specs.declared.program.Class.TheVariants as class
use Rattle.ja_machine.specs.Machine.{class_of_site}
use Rattle.ja_machine.specs.Values.{type_of_class}
use Rattle.ja_abstract.specs.AbstractValue.{Labels, AbstractValue, no_value, join, same_label, of_label, of_primitive}
use Rattle.ja_abstract.specs.AbstractState.{labels_of}
use Rattle.ja_abstract.specs.Resolved.{join_values}
use Rattle.ja_abstract.specs.Primitives.{over_pairs, abstract_binary, operator, of_bools}
use Rattle.ja_abstract.specs.Reading.{View, some_label}
use Rattle.ja_abstract.specs.Values.{may_equal, may_differ, turned, text_if, type_of, is_function_class, is_function_label}
use Rattle.ja_abstract.specs.Values as abstract
use Rattle.ja_abstract.proofs.Labels.{IsAmong, same_label-true, same_label-self, some_among, among_some}
use Rattle.ja_meaning.specs.OperatorLaws.{IsLabelOf, AreEqual, AreEqualByLabels, IsToldByLabel}
use Rattle.ja_meaning.proofs.ExactOperators.{join_none, atoms_one}
use Rattle.ja_meaning.proofs.Labelled

module _ (w : View) where
  -- a label of the program is among its labels
  among : (l : Label) → IsLabelOf w l → IsAmong l (labels_of w.program)
  among l is = is

  -- where one of the two is an object alone the result is that of objects
  no_pairs : (op : BinaryOp) (l : Label) (b : AbstractValue)
      → (abstract_binary (operator op) (of_label l) b).value ≡ no_value
  no_pairs op l b = refl

  no_pairs_behind : (op : BinaryOp) (q : Primitive) (l : Label)
      → (abstract_binary (operator op) (of_primitive q) (of_label l)).value ≡ no_value
  no_pairs_behind op q l =
      ap (λ xs. (over_pairs (operator op) xs []).value) (atoms_one q)

  equal_by : (a b : AbstractValue) → ((op : BinaryOp)
      → (abstract_binary (operator op) a b).value ≡ no_value) → (may_be may_not : Bool)
      → (may_equal w a b ≡ may_be) × (may_differ w a b ≡ may_not) → AreEqual w a b may_be may_not
  equal_by a b none may_be may_not is op (inl loose) =
      subst (λ o. abstract.binary w o a b ≡ of_bools may_be may_not) (sym loose)
      (ap (join (of_bools (may_equal w a b) (may_differ w a b))) (none binary_op.LooseEq)
      ∙ join_none (of_bools (may_equal w a b) (may_differ w a b))
      ∙ ap (λ t. of_bools t (may_differ w a b)) is.0 ∙ ap (of_bools may_be) is.1)
  equal_by a b none may_be may_not is op (inr strict) =
      subst (λ o. abstract.binary w o a b ≡ of_bools may_be may_not) (sym strict)
      (ap (join (of_bools (may_equal w a b) (may_differ w a b))) (none binary_op.StrictEq)
      ∙ join_none (of_bools (may_equal w a b) (may_differ w a b))
      ∙ ap (λ t. of_bools t (may_differ w a b)) is.0 ∙ ap (of_bools may_be) is.1)

  pub equal_labels : AreEqualByLabels w
  equal_labels = record {
    of_new =
        λ l is new. equal_by (of_label l) (of_label l) (λ op. refl) true false
        (Labelled.new_label w l is new);
    of_old =
        λ l is old. equal_by (of_label l) (of_label l) (λ op. refl) true true
        (Labelled.old_label w l is old);
    of_two =
        λ l m is too apart. equal_by (of_label l) (of_label m) (λ op. refl) false true
        (Labelled.two_labels w l m is too (false_from_ne_true (same_label l m)
        (λ same. apart (same_label-true l m same))));
    before_primitive =
        λ l q is. equal_by (of_label l) (of_primitive q) (λ op. refl) false true
        (Labelled.label_primitive w l q is);
    behind_primitive =
        λ l q is. equal_by (of_primitive q) (of_label l) (λ op. no_pairs_behind op q l) false true
        (Labelled.primitive_label w l q is);
  }

  -- ---- of one object

  -- a test of the labels of one label is that of this
  pub test_label : (l : Label) → IsLabelOf w l → (test : Labels) (b : Bool) → test l ≡ b
      → some_label w (λ m. same_label l m && test m) ≡ b
  test_label l is test true holds =
      some_among (λ m. same_label l m && test m) (labels_of w.program) l is
      (and_from _ _ (same_label-self l) holds)
  test_label l is test false fails =
      false_from_ne_true _ (λ e.
      let (m, there, both) =
      among_some (λ m. same_label l m && test m) (labels_of w.program) e in
      let (same, holds) = and_parts _ _ both in
      false≢true (sym fails ∙ subst (λ k. IsTrue (test k)) (sym (same_label-true l m same)) holds))

  -- what `typeof` gives where there may be functions, and where there may be other objects
  abbrev types : Bool → Bool → AbstractValue
  types function other =
      join_values (no_value ∷ no_value ∷ no_value ∷ no_value ∷ no_value
      ∷ text_if function (codes "function") ∷ text_if other (codes "object") ∷ [])

  type_by : (l : Label) → IsLabelOf w l → (c : Class) → class_of_site w.program l.site.0 ≡ c
      → type_of w (of_label l) ≡ of_primitive (primitive.Text (type_of_class (Some c)))
  type_by l is c class_is =
      ap (λ b. types b (some_label w (λ m. same_label l m && not (is_function_label w.program m))))
      (test_label l is (is_function_label w.program) (is_function_class c)
      (ap is_function_class class_is))
      ∙ ap (types (is_function_class c))
      (test_label l is (λ m. not (is_function_label w.program m)) (not (is_function_class c))
      (ap (λ k. not (is_function_class k)) class_is)) ∙ of_class c
    where
      of_class : (c : Class) → types (is_function_class c) (not (is_function_class c))
          ≡ of_primitive (primitive.Text (type_of_class (Some c)))
      of_class class.Function = refl
      of_class class.Object = refl
      of_class class.Array = refl
      of_class class.String = refl
      of_class class.Boolean = refl
      of_class class.Number = refl
      of_class class.Error = refl
      of_class class.Math = refl
      of_class class.Activation = refl

  pub told_by_label : (l : Label) → IsLabelOf w l → IsToldByLabel w l
  told_by_label l is = record {
    truth = Labelled.truth_label w l is;
    not = ap turned (Labelled.truth_label w l is);
    type_of = type_by l is (class_of_site w.program l.site.0) refl;
  }
