-- What exactly a primitive has, what changed values keep, and that what has a primitive has a part.
use Rattle.std.specs.Prelude.{ℕ, Bool, true, false, IsTrue, List, [], ◌∷◌, map}
use Rattle.std.specs.List.{list_any}
use Rattle.std.proofs.Common.{refl, subst, arith, inl, inr, not}
use Rattle.std.proofs.lemmas.Bool.{or_left, or_right, or_cases, false≢true}
use Rattle.std.proofs.lemmas.Cmp.{int_eq_equiv}
use Rattle.ja_base.specs.declared.ids.Label.{Label}
use Rattle.ja_prim.specs.declared.primitive.Num.TheVariants.{NaN, Whole}
use Rattle.ja_prim.specs.declared.primitive.Primitive.{Primitive}
use Rattle.ja_prim.specs.declared.primitive.Primitive.TheVariants as primitive
use Rattle.ja_graph.specs.declared.attrs.Attrs.{Attrs}
use Rattle.ja_abstract.specs.declared.abstraction.NumberPart.{NumberPart}
use Rattle.ja_abstract.specs.declared.abstraction.NumberPart.TheVariants as number_part
use Rattle.ja_abstract.specs.declared.abstraction.TextPart.{TextPart}
use Rattle.ja_abstract.specs.declared.abstraction.TextPart.TheVariants as text_part
use Rattle.ja_abstract.specs.AbstractValue.{Labels, AbstractValue, same_label, has_present_flag, has_number, has_text, is_present, has_part, of_primitive, of_attrs}
use Rattle.ja_abstract.specs.Parts.{number_has, text_has, has_primitive, allows, allows_attrs}
use Rattle.ja_abstract.specs.Resolved.{join_values}
use Rattle.ja_abstract.proofs.Labels.{IsAmong, same_label-true}
use Rattle.ja_abstract.proofs.Texts
use Rattle.ja_abstract.proofs.Joins.{and_three}

-- ---- other flags

-- a value has its primitives whatever its `absent` and `entry` are
pub has_primitive-flags : (v : AbstractValue) (x y : Bool) (q : Primitive)
    → IsTrue (has_primitive v q) → IsTrue (has_primitive
    (record v { flags = record v.flags { absent = x; entry = y } }) q)
has_primitive-flags v x y primitive.Undefined e = e
has_primitive-flags v x y primitive.Null e = e
has_primitive-flags v x y (primitive.Bool true) e = e
has_primitive-flags v x y (primitive.Bool false) e = e
has_primitive-flags v x y (primitive.Number NaN) e = e
has_primitive-flags v x y (primitive.Number (Whole n)) e = e
has_primitive-flags v x y (primitive.Text t) e = e

-- ---- other labels

-- a value has its primitives whatever its labels are
pub has_primitive-labels : (v : AbstractValue) (set : Labels) (q : Primitive)
    → IsTrue (has_primitive v q) → IsTrue (has_primitive (record v { label = set }) q)
has_primitive-labels v set primitive.Undefined e = e
has_primitive-labels v set primitive.Null e = e
has_primitive-labels v set (primitive.Bool true) e = e
has_primitive-labels v set (primitive.Bool false) e = e
has_primitive-labels v set (primitive.Number NaN) e = e
has_primitive-labels v set (primitive.Number (Whole n)) e = e
has_primitive-labels v set (primitive.Text t) e = e

-- where one of a list may be absent, their join may
pub absent-join_values : (f : Label → AbstractValue) (labels : List Label) (l : Label)
    → IsAmong l labels → IsTrue (f l).flags.absent
    → IsTrue (join_values (map f labels)).flags.absent
absent-join_values f [] l a e = absurd (false≢true a)
absent-join_values f (m ∷ ms) l a e =
    elim (or_cases (same_label l m) (list_any (same_label l) ms) a) [
      | inl s ↦ or_left (f m).flags.absent (join_values (map f ms)).flags.absent
          (subst (λ k. IsTrue (f k).flags.absent) (same_label-true l m s) e)
      | inr r ↦ or_right (f m).flags.absent (join_values (map f ms)).flags.absent
          (absent-join_values f ms l r e)
    ]

-- ---- parts

-- a number part that has a number is no empty one
has_number_from : (n : NumberPart) (z : _) → IsTrue (number_has n z) → IsTrue (has_number n)
has_number_from number_part.Nothing z e = e
has_number_from n z e = refl

-- .. nor a text part that has a text
has_text_from : (s : TextPart) (t : List ℕ) → IsTrue (text_has s t) → IsTrue (has_text s)
has_text_from text_part.Nothing t e = e
has_text_from s t e = refl

-- where a flag is there some part is present
pub by_flag : (labels : List Label) (v : AbstractValue) → IsTrue (has_present_flag v.flags)
    → IsTrue (is_present labels v)
by_flag labels v e = grind (arith, e, or_left, or_right)

-- where a number is there some part is present
by_number : (labels : List Label) (v : AbstractValue) → IsTrue (has_number v.number)
    → IsTrue (is_present labels v)
by_number labels v e = grind (arith, e, or_left, or_right)

-- where a text is there some part is present
by_text : (labels : List Label) (v : AbstractValue) → IsTrue (has_text v.text)
    → IsTrue (is_present labels v)
by_text labels v e = grind (arith, e, or_left, or_right)

-- a present part is a part
pub has_part_from_present : (labels : List Label) (v : AbstractValue) → IsTrue (is_present labels v)
    → IsTrue (has_part labels v)
has_part_from_present labels v e = grind (arith, e, or_left, or_right)

-- a primitive that a value has is one of its parts
pub is_present_from_primitive : (labels : List Label) (v : AbstractValue) (q : Primitive)
    → IsTrue (has_primitive v q) → IsTrue (is_present labels v)
is_present_from_primitive labels v primitive.Undefined e =
    by_flag labels v (grind (arith, e, or_left, or_right))
is_present_from_primitive labels v primitive.Null e =
    by_flag labels v (grind (arith, e, or_left, or_right))
is_present_from_primitive labels v (primitive.Bool true) e =
    by_flag labels v (grind (arith, e, or_left, or_right))
is_present_from_primitive labels v (primitive.Bool false) e =
    by_flag labels v (grind (arith, e, or_left, or_right))
is_present_from_primitive labels v (primitive.Number NaN) e =
    by_flag labels v (grind (arith, e, or_left, or_right))
is_present_from_primitive labels v (primitive.Number (Whole n)) e =
    by_number labels v (has_number_from v.number n e)
is_present_from_primitive labels v (primitive.Text t) e =
    by_text labels v (has_text_from v.text t e)

-- where a value has a label of the list, some part is present
pub is_present_from_label : (labels : List Label) (v : AbstractValue)
    → IsTrue (list_any v.label labels) → IsTrue (is_present labels v)
is_present_from_label labels v e = grind (arith, e, or_left, or_right)

-- ---- what is exactly a content has it

-- exactly a primitive has it
pub of_primitive_has : (q : Primitive) → IsTrue (has_primitive (of_primitive q) q)
of_primitive_has primitive.Undefined = refl
of_primitive_has primitive.Null = refl
of_primitive_has (primitive.Bool true) = refl
of_primitive_has (primitive.Bool false) = refl
of_primitive_has (primitive.Number NaN) = refl
of_primitive_has (primitive.Number (Whole n)) = int_eq_equiv.refl n
of_primitive_has (primitive.Text t) = Texts.same_text_refl t

allows_exactly : (b : Bool) → IsTrue (allows (record { set = b; unset = not b }) b)
allows_exactly true = refl
allows_exactly false = refl

-- exactly the attributes allow them
pub of_attrs_allows : (a : Attrs) → IsTrue (allows_attrs (of_attrs a) a)
of_attrs_allows a =
    and_three _ _ _ (allows_exactly a.read_only) (allows_exactly a.dont_enum)
    (allows_exactly a.dont_delete)
