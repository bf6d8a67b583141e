-- What equality gives of labels: a new one is equal to itself and to nothing else, an old one may
-- be either, and another label or a primitive is different.
use Rattle.std.specs.Prelude.{◌≡◌, ◌&&◌, ◌||◌, not, Bool, true, false, IsTrue}
use Rattle.std.proofs.Common.{refl, sym, subst, ap, ◌∙◌, inl, inr}
use Rattle.std.proofs.lemmas.Bool.{or_left, or_right, or_cases, or_from, and_parts, and_from, and_right, false≢true, false_from_ne_true}
use Rattle.ja_base.specs.declared.ids.Label.{Label}
use Rattle.ja_prim.specs.declared.primitive.Num.TheVariants.{NaN, Whole}
use Rattle.ja_prim.specs.declared.primitive.Primitive.{Primitive}
use Rattle.ja_prim.specs.declared.primitive.Primitive.TheVariants as primitive
use Rattle.ja_abstract.specs.AbstractValue.{join, same_label, of_label, of_primitive}
use Rattle.ja_abstract.specs.AbstractState.{labels_of}
use Rattle.ja_abstract.specs.Reading.{View, some_label}
use Rattle.ja_abstract.specs.Values.{has_atoms, has_labels, may_equal, may_differ, truth, value_if}
use Rattle.ja_abstract.specs.Primitives.{of_bools, to_bool_atom, abstract_unary}
use Rattle.ja_abstract.proofs.Parts.{of_primitive_has}
use Rattle.ja_abstract.proofs.Labels.{IsAmong, same_label-true, same_label-self, some_among, among_some}
use Rattle.ja_meaning.proofs.Operators.{has_atoms-of}

-- a primitive has no label
no_label : (r : Primitive) (k : Label) → IsTrue ((of_primitive r).label k) → ⊥
no_label primitive.Undefined k e = false≢true e
no_label primitive.Null k e = false≢true e
no_label (primitive.Bool true) k e = false≢true e
no_label (primitive.Bool false) k e = false≢true e
no_label (primitive.Number NaN) k e = false≢true e
no_label (primitive.Number (Whole z)) k e = false≢true e
no_label (primitive.Text t) k e = false≢true e

module _ (w : View) where
  abbrev IsLabel : Label → Type 0
  IsLabel l = IsAmong l (labels_of w.program)

  -- two labels that may differ, as values
  abbrev apart : Label → Label → Bool
  apart l m =
      some_label w (λ k. same_label l k && some_label w
      (λ n. same_label m n && (k.old || not (same_label k n))))

  -- of labels alone there is no primitive to differ from
  no_mixed : (l m : Label) → ((has_labels w (of_label l) && has_atoms (of_label m))
      || (has_atoms (of_label l) && has_labels w (of_label m))) ≡ false
  no_mixed l m =
      or_from (has_labels w (of_label l) && has_atoms (of_label m)) _
      (and_right (has_labels w (of_label l)) (has_atoms (of_label m)) refl) refl

  label_itself : (l : Label) → IsLabel l → may_equal w (of_label l) (of_label l) ≡ true
  label_itself l a =
      some_among (λ k. same_label l k && same_label l k) (labels_of w.program) l a
      (and_from _ _ (same_label-self l) (same_label-self l))

  apart_from : (l m : Label) → IsLabel l → IsLabel m → (l.old || not (same_label l m)) ≡ true
      → apart l m ≡ true
  apart_from l m a b e =
      some_among (λ k. same_label l k && some_label w
      (λ n. same_label m n && (k.old || not (same_label k n)))) (labels_of w.program) l a
      (and_from _ _ (same_label-self l) (some_among
      (λ n. same_label m n && (l.old || not (same_label l n))) (labels_of w.program) m b
      (and_from _ _ (same_label-self m) e)))

  -- equal to itself, and to nothing else
  pub new_label : (l : Label) → IsLabel l → l.old ≡ false
      → (may_equal w (of_label l) (of_label l) ≡ true)
      × (may_differ w (of_label l) (of_label l) ≡ false)
  new_label l a new = (
    label_itself l a,
    or_from (apart l l) _ (false_from_ne_true (apart l l) (λ e.
        let (k, among, both) =
        among_some (λ j. same_label l j && some_label w
        (λ n. same_label l n && (j.old || not (same_label j n)))) (labels_of w.program) e in
        let (lk, some) = and_parts _ _ both in
        let (n, there, test) =
        among_some (λ j. same_label l j && (k.old || not (same_label k j)))
        (labels_of w.program) some in
        let (ln, differs) = and_parts _ _ test in
        let is : l ≡ k = same_label-true l k lk in
        elim (or_cases k.old _ differs) [
          | inl old ↦ false≢true (sym new ∙ ap (λ (j : Label). j.old) is ∙ old)
          | inr other ↦
              false≢true (sym (ap not (subst (λ (j : Label). IsTrue (same_label j n)) is ln))
              ∙ other)
        ])) (no_mixed l l),
  )

  -- both
  pub old_label : (l : Label) → IsLabel l → l.old ≡ true
      → (may_equal w (of_label l) (of_label l) ≡ true)
      × (may_differ w (of_label l) (of_label l) ≡ true)
  old_label l a old =
      (label_itself l a, or_left (apart l l) _ (apart_from l l a a (or_left l.old _ old)))

  -- different
  pub two_labels : (l m : Label) → IsLabel l → IsLabel m → same_label l m ≡ false
      → (may_equal w (of_label l) (of_label m) ≡ false)
      × (may_differ w (of_label l) (of_label m) ≡ true)
  two_labels l m a b other = (
    false_from_ne_true (may_equal w (of_label l) (of_label m)) (λ e.
        let (k, among, both) =
        among_some (λ j. same_label l j && same_label m j) (labels_of w.program) e in
        let (lk, mk) = and_parts _ _ both in
        false≢true (sym other ∙ subst (λ (j : Label). IsTrue (same_label l j))
        (sym (same_label-true m k mk)) lk)),
    or_left (apart l m) _ (apart_from l m a b (or_right l.old _ (ap not other))),
  )

  -- an object and a primitive are different, in either order
  pub label_primitive : (l : Label) (q : Primitive) → IsLabel l
      → (may_equal w (of_label l) (of_primitive q) ≡ false)
      × (may_differ w (of_label l) (of_primitive q) ≡ true)
  label_primitive l q a = (
    false_from_ne_true (may_equal w (of_label l) (of_primitive q)) (λ e.
        let (k, among, both) =
        among_some (λ j. same_label l j && (of_primitive q).label j) (labels_of w.program) e in
        let (lk, none) = and_parts _ _ both in
        no_label q k none),
    or_right (some_label w (λ k. same_label l k
        && some_label w (λ n. (of_primitive q).label n && (k.old || not (same_label k n))))) _
        (or_left (has_labels w (of_label l) && has_atoms (of_primitive q)) _
        (and_from _ _ (some_among (same_label l) (labels_of w.program) l a (same_label-self l))
        (has_atoms-of (of_primitive q) q (of_primitive_has q)))),
  )

  pub primitive_label : (l : Label) (q : Primitive) → IsLabel l
      → (may_equal w (of_primitive q) (of_label l) ≡ false)
      × (may_differ w (of_primitive q) (of_label l) ≡ true)
  primitive_label l q a = (
    false_from_ne_true (may_equal w (of_primitive q) (of_label l)) (λ e.
        let (k, among, both) =
        among_some (λ j. (of_primitive q).label j && same_label l j) (labels_of w.program) e in
        let (none, lk) = and_parts _ _ both in
        no_label q k none),
    or_right (some_label w (λ k. (of_primitive q).label k
        && some_label w (λ n. same_label l n && (k.old || not (same_label k n))))) _
        (or_right (has_labels w (of_primitive q) && has_atoms (of_label l)) _
        (and_from _ _ (has_atoms-of (of_primitive q) q (of_primitive_has q))
        (some_among (same_label l) (labels_of w.program) l a (same_label-self l)))),
  )

  -- an object is true
  pub truth_label : (l : Label) → IsLabel l → truth w (of_label l) ≡ of_bools true false
  truth_label l a =
      ap (λ b. join (value_if b (of_bools true false))
      (abstract_unary to_bool_atom (of_label l)).value)
      (some_among (same_label l) (labels_of w.program) l a (same_label-self l))
