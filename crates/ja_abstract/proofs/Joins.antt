-- What joins of values and attributes have: each part that one of the two has.
use Rattle.std.specs.Prelude.{◌≡◌, ℕ, ℤ, Bool, true, false, ◌&&◌, IsTrue, List}
use Rattle.std.specs.Ordering.{int_eq}
use Rattle.std.proofs.Common.{refl, sym, subst, arith}
use Rattle.std.proofs.lemmas.Bool.{or_left, or_right, cond_both, false≢true}
use Rattle.std.proofs.lemmas.Bool.Decides.{Decides-int_eq}
use lib.Pointwise.{bytes_decides}
use Rattle.ja_prim.specs.declared.primitive.Num.TheVariants.{NaN, Whole}
use Rattle.ja_prim.specs.declared.primitive.Primitive.{Primitive}
use Rattle.ja_prim.specs.declared.primitive.Primitive.TheVariants as primitive
use Rattle.ja_prim.specs.Index.{is_index, is_index_text}
use Rattle.ja_graph.specs.declared.attrs.Attrs.{Attrs}
use Rattle.ja_abstract.specs.declared.abstraction.NumberPart.{NumberPart}
use Rattle.ja_abstract.specs.declared.abstraction.NumberPart.TheVariants as number_part
use Rattle.ja_abstract.specs.declared.abstraction.TextPart.{TextPart}
use Rattle.ja_abstract.specs.declared.abstraction.TextPart.TheVariants as text_part
use Rattle.ja_abstract.specs.declared.abstraction.May.{May}
use Rattle.ja_abstract.specs.declared.abstraction.AAttrs.{AAttrs}
use Rattle.ja_abstract.specs.AbstractValue.{AbstractValue, number_class, join_classes, join_numbers, text_class, join_text_classes, join_texts, join, join_may, join_attrs}
use Rattle.ja_abstract.specs.Parts.{number_has, text_has, has_primitive, allows, allows_attrs}

-- ---- numbers

-- a one-number part has that number alone
one_number : (m z : ℤ) → IsTrue (int_eq m z) → m ≡ z
one_number m z h = (Decides-int_eq m z).0 h

-- the class of a constant has it
class_of_constant : (m : ℤ) → IsTrue (number_has (number_class (number_part.One m)) m)
class_of_constant m =
    cond_both (is_index m) number_part.Index number_part.OtherWhole (λ c. IsTrue (number_has c m))
    (λ e. e) (λ e. grind (arith, e))

-- the class of a part has what the part has
pub number_class_has : (a : NumberPart) (z : ℤ) → IsTrue (number_has a z)
    → IsTrue (number_has (number_class a) z)
number_class_has number_part.Nothing z h = h
number_class_has (number_part.One m) z h =
    subst (λ n. IsTrue (number_has (number_class (number_part.One m)) n)) (one_number m z h)
    (class_of_constant m)
number_class_has number_part.Index z h = h
number_class_has number_part.OtherWhole z h = h
number_class_has number_part.Whole z h = h

-- the join of two classes has what the left one has
join_classes-left : (a b : NumberPart) (z : ℤ) → IsTrue (number_has a z)
    → IsTrue (number_has (join_classes a b) z)
join_classes-left number_part.Index number_part.Index z h = h
join_classes-left number_part.OtherWhole number_part.OtherWhole z h = h
join_classes-left a b z h = refl

-- .. and what the right one has
join_classes-right : (a b : NumberPart) (z : ℤ) → IsTrue (number_has b z)
    → IsTrue (number_has (join_classes a b) z)
join_classes-right number_part.Index number_part.Index z h = h
join_classes-right number_part.OtherWhole number_part.OtherWhole z h = h
join_classes-right a b z h = refl

-- the join of two number parts has what the left one has
pub number_has-join_left : (a b : NumberPart) (z : ℤ) → IsTrue (number_has a z)
    → IsTrue (number_has (join_numbers a b) z)
number_has-join_left number_part.Nothing b z h = absurd (false≢true h)
number_has-join_left a number_part.Nothing z h = h
number_has-join_left (number_part.One m) (number_part.One n) z h =
    cond_both (int_eq m n) (number_part.One m)
    (join_classes (number_class (number_part.One m)) (number_class (number_part.One n)))
    (λ c. IsTrue (number_has c z)) (λ e. h)
    (λ e. join_classes-left (number_class (number_part.One m))
    (number_class (number_part.One n)) z (number_class_has (number_part.One m) z h))
number_has-join_left a b z h =
    join_classes-left (number_class a) (number_class b) z (number_class_has a z h)

-- .. and what the right one has
pub number_has-join_right : (a b : NumberPart) (z : ℤ) → IsTrue (number_has b z)
    → IsTrue (number_has (join_numbers a b) z)
number_has-join_right number_part.Nothing b z h = h
number_has-join_right a number_part.Nothing z h = absurd (false≢true h)
number_has-join_right (number_part.One m) (number_part.One n) z h =
    cond_both (int_eq m n) (number_part.One m)
    (join_classes (number_class (number_part.One m)) (number_class (number_part.One n)))
    (λ c. IsTrue (number_has c z)) (λ e. subst (λ k. IsTrue (int_eq k z))
    (sym (one_number m n e)) h) (λ e. join_classes-right (number_class (number_part.One m))
    (number_class (number_part.One n)) z (number_class_has (number_part.One n) z h))
number_has-join_right a b z h =
    join_classes-right (number_class a) (number_class b) z (number_class_has b z h)

-- ---- texts

-- a one-text part has that text alone
one_text : (s t : List ℕ) → IsTrue (text_has (text_part.One s) t) → s ≡ t
one_text s t h = (bytes_decides s t).0 h

-- the class of a constant text has it
class_of_text : (t : List ℕ) → IsTrue (text_has (text_class (text_part.One t)) t)
class_of_text t =
    cond_both (is_index_text t) text_part.IndexText text_part.OtherText (λ c. IsTrue (text_has c t))
    (λ e. e) (λ e. grind (arith, e))

-- the class of a part has what the part has
pub text_class_has : (a : TextPart) (t : List ℕ) → IsTrue (text_has a t)
    → IsTrue (text_has (text_class a) t)
text_class_has text_part.Nothing t h = h
text_class_has (text_part.One s) t h =
    subst (λ u. IsTrue (text_has (text_class (text_part.One s)) u)) (one_text s t h)
    (class_of_text s)
text_class_has text_part.IndexText t h = h
text_class_has text_part.OtherText t h = h
text_class_has text_part.Text t h = h

-- the join of two classes has what the left one has
join_text_classes-left : (a b : TextPart) (t : List ℕ) → IsTrue (text_has a t)
    → IsTrue (text_has (join_text_classes a b) t)
join_text_classes-left text_part.IndexText text_part.IndexText t h = h
join_text_classes-left text_part.OtherText text_part.OtherText t h = h
join_text_classes-left a b t h = refl

-- .. and what the right one has
join_text_classes-right : (a b : TextPart) (t : List ℕ) → IsTrue (text_has b t)
    → IsTrue (text_has (join_text_classes a b) t)
join_text_classes-right text_part.IndexText text_part.IndexText t h = h
join_text_classes-right text_part.OtherText text_part.OtherText t h = h
join_text_classes-right a b t h = refl

-- the join of two text parts has what the left one has
pub text_has-join_left : (a b : TextPart) (t : List ℕ) → IsTrue (text_has a t)
    → IsTrue (text_has (join_texts a b) t)
text_has-join_left text_part.Nothing b t h = absurd (false≢true h)
text_has-join_left a text_part.Nothing t h = h
text_has-join_left (text_part.One s) (text_part.One u) t h =
    cond_both (text_has (text_part.One s) u) (text_part.One s)
    (join_text_classes (text_class (text_part.One s)) (text_class (text_part.One u)))
    (λ c. IsTrue (text_has c t)) (λ e. h)
    (λ e. join_text_classes-left (text_class (text_part.One s)) (text_class (text_part.One u)) t
    (text_class_has (text_part.One s) t h))
text_has-join_left a b t h =
    join_text_classes-left (text_class a) (text_class b) t (text_class_has a t h)

-- .. and what the right one has
pub text_has-join_right : (a b : TextPart) (t : List ℕ) → IsTrue (text_has b t)
    → IsTrue (text_has (join_texts a b) t)
text_has-join_right text_part.Nothing b t h = h
text_has-join_right a text_part.Nothing t h = absurd (false≢true h)
text_has-join_right (text_part.One s) (text_part.One u) t h =
    cond_both (text_has (text_part.One s) u) (text_part.One s)
    (join_text_classes (text_class (text_part.One s)) (text_class (text_part.One u)))
    (λ c. IsTrue (text_has c t)) (λ e. subst (λ v. IsTrue (text_has (text_part.One v) t))
    (sym (one_text s u e)) h) (λ e. join_text_classes-right (text_class (text_part.One s))
    (text_class (text_part.One u)) t (text_class_has (text_part.One u) t h))
text_has-join_right a b t h =
    join_text_classes-right (text_class a) (text_class b) t (text_class_has b t h)

-- ---- values

-- the join of two values has the primitives of the left one
pub has_primitive-join_left : (a b : AbstractValue) (q : Primitive) → IsTrue (has_primitive a q)
    → IsTrue (has_primitive (join a b) q)
has_primitive-join_left a b primitive.Undefined h = or_left a.flags.undefined b.flags.undefined h
has_primitive-join_left a b primitive.Null h = or_left a.flags.null b.flags.null h
has_primitive-join_left a b (primitive.Bool true) h = or_left a.flags.is_true b.flags.is_true h
has_primitive-join_left a b (primitive.Bool false) h = or_left a.flags.is_false b.flags.is_false h
has_primitive-join_left a b (primitive.Number NaN) h = or_left a.flags.nan b.flags.nan h
has_primitive-join_left a b (primitive.Number (Whole n)) h =
    number_has-join_left a.number b.number n h
has_primitive-join_left a b (primitive.Text t) h = text_has-join_left a.text b.text t h

-- .. and those of the right one
pub has_primitive-join_right : (a b : AbstractValue) (q : Primitive) → IsTrue (has_primitive b q)
    → IsTrue (has_primitive (join a b) q)
has_primitive-join_right a b primitive.Undefined h = or_right a.flags.undefined b.flags.undefined h
has_primitive-join_right a b primitive.Null h = or_right a.flags.null b.flags.null h
has_primitive-join_right a b (primitive.Bool true) h = or_right a.flags.is_true b.flags.is_true h
has_primitive-join_right a b (primitive.Bool false) h = or_right a.flags.is_false b.flags.is_false h
has_primitive-join_right a b (primitive.Number NaN) h = or_right a.flags.nan b.flags.nan h
has_primitive-join_right a b (primitive.Number (Whole n)) h =
    number_has-join_right a.number b.number n h
has_primitive-join_right a b (primitive.Text t) h = text_has-join_right a.text b.text t h

-- ---- properties

-- what is known of an attribute on the left is known of the join
pub allows-join_left : (a b : May) (x : Bool) → IsTrue (allows a x)
    → IsTrue (allows (join_may a b) x)
allows-join_left a b true e = or_left a.set b.set e
allows-join_left a b false e = or_left a.unset b.unset e

-- .. and what is known on the right
pub allows-join_right : (a b : May) (x : Bool) → IsTrue (allows b x)
    → IsTrue (allows (join_may a b) x)
allows-join_right a b true e = or_right a.set b.set e
allows-join_right a b false e = or_right a.unset b.unset e

-- three tests at once
pub and_three : (x y z : Bool) → IsTrue x → IsTrue y → IsTrue z → IsTrue (x && y && z)
and_three true true true e f g = refl
and_three true true false e f g = g
and_three true false z e f g = f
and_three false y z e f g = e

-- .. and apart
pub and_three_parts : (x y z : Bool) → IsTrue (x && y && z) → IsTrue x × (IsTrue y × IsTrue z)
and_three_parts true true true e = (refl, (refl, refl))
and_three_parts true true false e = absurd (false≢true e)
and_three_parts true false z e = absurd (false≢true e)
and_three_parts false y z e = absurd (false≢true e)

-- what is known of attributes on the left is known of the join
pub allows_attrs-join_left : (m n : AAttrs) (a : Attrs) → IsTrue (allows_attrs m a)
    → IsTrue (allows_attrs (join_attrs m n) a)
allows_attrs-join_left m n a e =
    let (r, s) = and_three_parts (allows m.read_only a.read_only) (allows m.dont_enum a.dont_enum)
    (allows m.dont_delete a.dont_delete) e in
    and_three _ _ _ (allows-join_left m.read_only n.read_only a.read_only r)
    (allows-join_left m.dont_enum n.dont_enum a.dont_enum s.0)
    (allows-join_left m.dont_delete n.dont_delete a.dont_delete s.1)

-- .. and what is known on the right
pub allows_attrs-join_right : (m n : AAttrs) (a : Attrs) → IsTrue (allows_attrs n a)
    → IsTrue (allows_attrs (join_attrs m n) a)
allows_attrs-join_right m n a e =
    let (r, s) = and_three_parts (allows n.read_only a.read_only) (allows n.dont_enum a.dont_enum)
    (allows n.dont_delete a.dont_delete) e in
    and_three _ _ _ (allows-join_right m.read_only n.read_only a.read_only r)
    (allows-join_right m.dont_enum n.dont_enum a.dont_enum s.0)
    (allows-join_right m.dont_delete n.dont_delete a.dont_delete s.1)
