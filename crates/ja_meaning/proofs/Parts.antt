-- What the changed values of readings keep of a heap, and that what has a value has a part.
use Rattle.std.specs.Prelude.{Bool, false, IsTrue, List, [], ◌∷◌, map, length, ◌≡◌, true}
use Rattle.std.specs.List.{list_any}
use Rattle.std.proofs.Common.{subst, arith, inl, inr}
use Rattle.std.proofs.lemmas.Bool.{or_left, or_right, or_cases, and_parts, and_from, false≢true, lt-ltb}
use Rattle.ja_base.specs.declared.ids.Label.{Label}
use Rattle.ja_prim.specs.declared.primitive.Primitive.{Primitive}
use Rattle.ja_prim.specs.declared.primitive.Primitive.TheVariants as primitive
use Rattle.ja_prim.specs.declared.primitive.Num.TheVariants.{NaN, Whole}
use Rattle.ja_graph.specs.declared.attrs.Attrs.{Attrs}
use Rattle.ja_graph.specs.declared.program.Program.{Program}
use Rattle.ja_machine.specs.declared.machine.Addr.{Addr}
use Rattle.ja_machine.specs.declared.machine.Value.{Value}
use Rattle.ja_machine.specs.declared.machine.Value.TheVariants as value
use Rattle.ja_machine.specs.declared.machine.Content as property
use Rattle.ja_machine.specs.declared.machine.Content.TheVariants as contents
use Rattle.ja_machine.specs.declared.machine.Heap.{Heap}
use Rattle.ja_machine.specs.State.{IsObjectOf, IsValueOf, IsHeap}
use Rattle.ja_abstract.specs.AbstractValue.{Labels, AbstractValue, AbstractProperty, same_label, is_present, has_part, present_part}
use Rattle.ja_abstract.specs.AbstractState.{labels_of, is_label}
use Rattle.ja_abstract.specs.Contents.{label_of, SpotContent, missing, held, present, present_row, content_of}
use Rattle.ja_abstract.specs.Parts.{allows_attrs, has_primitive}
use Rattle.ja_abstract.specs.Resolved.{known_part, join_all, join_values}
use Rattle.ja_abstract.specs.Values.{as_read}
use Rattle.ja_abstract.proofs.Labels.{IsAmong, same_label-true, some_among, labels_of-has}
use Rattle.ja_abstract.proofs.Parts.{has_primitive-flags, by_flag, has_part_from_present, is_present_from_primitive, is_present_from_label}
use Rattle.ja_meaning.specs.Meaning.{has_value, knows, IsOfHeap}
use Rattle.ja_meaning.proofs.Inside.{site_in_range}
use Rattle.ja_meaning.proofs.Values.{has_value-join_left, has_value-join_right, knows-join_left, knows-join_right}

-- .. and its values
pub has_value-flags : (h : Heap) (v : AbstractValue) (x y : Bool) (u : Value)
    → IsTrue (has_value h v u) → IsTrue (has_value h
    (record v { flags = record v.flags { absent = x; entry = y } }) u)
has_value-flags h v x y (value.Primitive q) e = has_primitive-flags v x y q e
has_value-flags h v x y (value.Object a) e = e

-- the present part has the values
pub has_value-present_part : (h : Heap) (v : AbstractValue) (u : Value) → IsTrue (has_value h v u)
    → IsTrue (has_value h (present_part v) u)
has_value-present_part h v u e = has_value-flags h v false false u e

-- the part that isn't as at entry has the contents
pub knows-known_part : (h : Heap) (q : AbstractProperty) (c : SpotContent) → IsTrue (knows h q c)
    → IsTrue (knows h (known_part q) c)
knows-known_part h q missing e = e
knows-known_part h q (held u) e = has_value-flags h q.value q.value.flags.absent false u e
knows-known_part h q (present u attrs) e =
    let (v, a) = and_parts _ _ e in
    and_from _ _ (has_value-flags h q.value q.value.flags.absent false u v) a
knows-known_part h q (present_row attrs) e = e

-- ---- lists of joins

-- a value that one of a list has is one of their join
pub has_value-join_values : (h : Heap) (f : Label → AbstractValue) (labels : List Label) (l : Label)
    (u : Value) → IsAmong l labels → IsTrue (has_value h (f l) u)
    → IsTrue (has_value h (join_values (map f labels)) u)
has_value-join_values h f [] l u a e = absurd (false≢true a)
has_value-join_values h f (m ∷ ms) l u a e =
    elim (or_cases (same_label l m) (list_any (same_label l) ms) a) [
      | inl s ↦ has_value-join_left h (f m) (join_values (map f ms)) u
          (subst (λ k. IsTrue (has_value h (f k) u)) (same_label-true l m s) e)
      | inr r ↦ has_value-join_right h (f m) (join_values (map f ms)) u
          (has_value-join_values h f ms l u r e)
    ]

-- a content that one of a list knows is known to their join
pub knows-join_all : (h : Heap) (f : Label → AbstractProperty) (labels : List Label) (l : Label)
    (c : SpotContent) → IsAmong l labels → IsTrue (knows h (f l) c)
    → IsTrue (knows h (join_all (map f labels)) c)
knows-join_all h f [] l c a e = absurd (false≢true a)
knows-join_all h f (m ∷ ms) l c a e =
    elim (or_cases (same_label l m) (list_any (same_label l) ms) a) [
      | inl s ↦ knows-join_left h (f m) (join_all (map f ms)) c
          (subst (λ k. IsTrue (knows h (f k) c)) (same_label-true l m s) e)
      | inr r ↦ knows-join_right h (f m) (join_all (map f ms)) c (knows-join_all h f ms l c r e)
    ]

-- an object of the heap has a label of the program
pub label_of-among : (p : Program) (h : Heap) → IsHeap p h → (a : Addr) → IsObjectOf h a
    → IsAmong (label_of h a) (labels_of p)
label_of-among p h heap a o = labels_of-has p (label_of h a) (site_in_range p h heap a o)

pub label_of-is_label : (p : Program) (h : Heap) → IsHeap p h → (a : Addr) → IsObjectOf h a
    → IsTrue (is_label p (label_of h a))
label_of-is_label p h heap a o =
    lt-ltb a.site.0 (length p.sites) (site_in_range p h heap a o)

-- a set of labels that has the label of an object of the heap has one of the program
pub list_any-label_of : (p : Program) (h : Heap) → IsHeap p h → (a : Addr) → IsObjectOf h a
    → (set : Labels) → IsTrue (set (label_of h a)) → IsTrue (list_any set (labels_of p))
list_any-label_of p h heap a o set e =
    some_among set (labels_of p) (label_of h a) (label_of-among p h heap a o) e

-- a value that has one of the heap has a present part
pub is_present-has_value : (p : Program) (h : Heap) → IsHeap p h → (v : AbstractValue) (u : Value)
    → IsValueOf h u → IsTrue (has_value h v u) → IsTrue (is_present (labels_of p) v)
is_present-has_value p h heap v (value.Primitive q) o e =
    is_present_from_primitive (labels_of p) v q e
is_present-has_value p h heap v (value.Object a) o e =
    is_present_from_label (labels_of p) v (list_any-label_of p h heap a o v.label e)

-- .. and some part
pub has_part-has_value : (p : Program) (h : Heap) → IsHeap p h → (v : AbstractValue) (u : Value)
    → IsValueOf h u → IsTrue (has_value h v u) → IsTrue (has_part (labels_of p) v)
has_part-has_value p h heap v u o e =
    has_part_from_present (labels_of p) v (is_present-has_value p h heap v u o e)

-- ---- a property that is known

-- what is known of a property has its attributes
pub allows_attrs-known : (h : Heap) (q : AbstractProperty) (x : property.Content) (attrs : Attrs)
    → IsTrue (knows h q (content_of x attrs)) → IsTrue (allows_attrs q.attrs attrs)
allows_attrs-known h q (contents.Value v) attrs e =
    (and_parts (has_value h q.value v) (allows_attrs q.attrs attrs) e).1
allows_attrs-known h q contents.Row attrs e =
    (and_parts q.value.flags.row (allows_attrs q.attrs attrs) e).1

-- .. and a present part
pub is_present-known : (p : Program) (h : Heap) → IsHeap p h
    → (q : AbstractProperty) (x : property.Content) (attrs : Attrs)
    → IsOfHeap h (content_of x attrs) → IsTrue (knows h q (content_of x attrs))
    → IsTrue (is_present (labels_of p) q.value)
is_present-known p h heap q (contents.Value v) attrs o e =
    is_present-has_value p h heap q.value v o
    (and_parts (has_value h q.value v) (allows_attrs q.attrs attrs) e).0
is_present-known p h heap q contents.Row attrs o e =
    let row : IsTrue q.value.flags.row = (and_parts q.value.flags.row (allows_attrs q.attrs attrs)
    e).0 in
    by_flag (labels_of p) q.value (grind (arith, row, or_left, or_right))

-- ---- what a reading has

pub value_same : (v u : Value) → contents.Value v ≡ contents.Value u → v ≡ u
value_same v u e = cc

has_as_read_primitive : (v : AbstractValue) (q : Primitive) → IsTrue (has_primitive v q)
    → IsTrue (has_primitive (as_read v) q)
has_as_read_primitive v primitive.Undefined e = or_left v.flags.undefined v.flags.absent e
has_as_read_primitive v primitive.Null e = e
has_as_read_primitive v (primitive.Bool true) e = e
has_as_read_primitive v (primitive.Bool false) e = e
has_as_read_primitive v (primitive.Number NaN) e = e
has_as_read_primitive v (primitive.Number (Whole n)) e = e
has_as_read_primitive v (primitive.Text t) e = e

pub has_as_read : (h : Heap) (v : AbstractValue) (u : Value) → IsTrue (has_value h v u)
    → IsTrue (has_value h (as_read v) u)
has_as_read h v (value.Primitive q) e = has_as_read_primitive v q e
has_as_read h v (value.Object a) e = e
