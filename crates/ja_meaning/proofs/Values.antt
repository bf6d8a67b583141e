-- What joins of values and properties have of a heap: each value and content that one of the two
-- has.
use Rattle.std.specs.Prelude.{IsTrue}
use Rattle.std.proofs.lemmas.Bool.{or_left, or_right, and_parts, and_from}
use Rattle.ja_machine.specs.declared.machine.Value.{Value}
use Rattle.ja_machine.specs.declared.machine.Value.TheVariants as value
use Rattle.ja_machine.specs.declared.machine.Heap.{Heap}
use Rattle.ja_abstract.specs.AbstractValue.{AbstractValue, AbstractProperty, join, join_properties}
use Rattle.ja_abstract.specs.Contents.{label_of, SpotContent, missing, held, present, present_row}
use Rattle.ja_abstract.specs.Parts.{allows_attrs}
use Rattle.ja_abstract.proofs.Joins.{has_primitive-join_left, has_primitive-join_right, allows_attrs-join_left, allows_attrs-join_right}
use Rattle.ja_meaning.specs.Meaning.{has_value, knows}

-- the join of two values has the values of the left one
pub has_value-join_left : (h : Heap) (a b : AbstractValue) (v : Value) → IsTrue (has_value h a v)
    → IsTrue (has_value h (join a b) v)
has_value-join_left h a b (value.Primitive q) e = has_primitive-join_left a b q e
has_value-join_left h a b (value.Object o) e =
    or_left (a.label (label_of h o)) (b.label (label_of h o)) e

-- .. and those of the right one
pub has_value-join_right : (h : Heap) (a b : AbstractValue) (v : Value) → IsTrue (has_value h b v)
    → IsTrue (has_value h (join a b) v)
has_value-join_right h a b (value.Primitive q) e = has_primitive-join_right a b q e
has_value-join_right h a b (value.Object o) e =
    or_right (a.label (label_of h o)) (b.label (label_of h o)) e

-- the join of two properties has the contents of the left one
pub knows-join_left : (h : Heap) (a b : AbstractProperty) (c : SpotContent) → IsTrue (knows h a c)
    → IsTrue (knows h (join_properties a b) c)
knows-join_left h a b missing e = or_left a.value.flags.absent b.value.flags.absent e
knows-join_left h a b (held v) e = has_value-join_left h a.value b.value v e
knows-join_left h a b (present v attrs) e =
    let (r, s) = and_parts (has_value h a.value v) (allows_attrs a.attrs attrs) e in
    and_from _ _ (has_value-join_left h a.value b.value v r)
    (allows_attrs-join_left a.attrs b.attrs attrs s)
knows-join_left h a b (present_row attrs) e =
    let (r, s) = and_parts a.value.flags.row (allows_attrs a.attrs attrs) e in
    and_from _ _ (or_left a.value.flags.row b.value.flags.row r)
    (allows_attrs-join_left a.attrs b.attrs attrs s)

-- .. and those of the right one
pub knows-join_right : (h : Heap) (a b : AbstractProperty) (c : SpotContent) → IsTrue (knows h b c)
    → IsTrue (knows h (join_properties a b) c)
knows-join_right h a b missing e = or_right a.value.flags.absent b.value.flags.absent e
knows-join_right h a b (held v) e = has_value-join_right h a.value b.value v e
knows-join_right h a b (present v attrs) e =
    let (r, s) = and_parts (has_value h b.value v) (allows_attrs b.attrs attrs) e in
    and_from _ _ (has_value-join_right h a.value b.value v r)
    (allows_attrs-join_right a.attrs b.attrs attrs s)
knows-join_right h a b (present_row attrs) e =
    let (r, s) = and_parts b.value.flags.row (allows_attrs b.attrs attrs) e in
    and_from _ _ (or_right a.value.flags.row b.value.flags.row r)
    (allows_attrs-join_right a.attrs b.attrs attrs s)
