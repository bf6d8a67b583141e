-- The operations of the built-in functions that read the heap: each abstract one covers the
-- machine's.
use Rattle.std.specs.Prelude.{◌≡◌, ◌&&◌, ◌||◌, not, ℕ, Bool, true, false, IsTrue, List, Option, Some, None, is_some, Ok}
use Rattle.std.specs.Option.{option_map, option_map_or, option_and_then}
use Rattle.std.proofs.Common.{refl, sym, subst, ap, ◌∙◌}
use Rattle.std.proofs.lemmas.Bool.{false≢true, cond-true, or_left, or_right, and_from, not-true, not-false}
use Rattle.ja_base.specs.declared.ids.Label.{Label}
use Rattle.ja_base.proofs.Options.{some_value}
use Rattle.ja_prim.specs.declared.primitive.Primitive.{Primitive}
use Rattle.ja_prim.specs.declared.primitive.Primitive.TheVariants as primitive
use Rattle.ja_graph.specs.declared.program.Class.{Class}
use Rattle.ja_graph.specs.declared.program.Program.{Program}
use Rattle.ja_graph.specs.WellFormed.{IsWellFormed}
use Rattle.ja_machine.specs.declared.machine.Addr.{Addr}
use Rattle.ja_machine.specs.declared.machine.Value.{Value}
use Rattle.ja_machine.specs.declared.machine.Value.TheVariants as value
use Rattle.ja_machine.specs.declared.machine.Property.{Property}
use Rattle.ja_machine.specs.declared.machine.Object.{Object}
use Rattle.ja_machine.specs.declared.machine.Heap.{Heap}
use Rattle.ja_machine.specs.Heap.{object_at, class_at, own}
use Rattle.ja_machine.specs.Intrinsics as machine
use Rattle.ja_machine.specs.Machine.{class_of_site}
use Rattle.ja_machine.specs.Values as values
use Rattle.ja_machine.specs.Writes.{is_array}
use Rattle.ja_machine.specs.State.{IsObjectOf, IsValueOf}
use Rattle.ja_abstract.specs.declared.abstraction.Key.{Key}
use Rattle.ja_abstract.specs.declared.abstraction.Slot.TheVariants as slots
use Rattle.ja_abstract.specs.AbstractValue.{AbstractValue, AbstractProperty, of_primitive, no_value}
use Rattle.ja_abstract.specs.AbstractState.{labels_of}
use Rattle.ja_abstract.specs.Resolved.{demands_of, IsFilled}
use Rattle.ja_abstract.specs.Keys.{named, internal, key_of}
use Rattle.ja_abstract.specs.Contents.{content, content_of, property_content, label_of}
use Rattle.ja_abstract.specs.Parts.{has_primitive, allows}
use Rattle.ja_abstract.specs.Made.{value_key}
use Rattle.ja_abstract.specs.Operations as abstract
use Rattle.ja_abstract.specs.Operations.{Looked, is_list_label, text_keys_of}
use Rattle.ja_abstract.specs.Primitives.{of_text_part}
use Rattle.ja_abstract.specs.Reading.{View, some_label, slot, proper_ancestors, demands_of_own}
use Rattle.ja_abstract.specs.Reading as reading
use Rattle.ja_abstract.specs.Values.{has_atoms, has_labels, value_if, primitives_of}
use Rattle.ja_abstract.specs.Writes.{own_at}
use Rattle.ja_abstract.proofs.Parts.{of_primitive_has}
use Rattle.ja_abstract.proofs.Keys.{same_key-self}
use Rattle.ja_abstract.proofs.Joins.{and_three_parts}
use Rattle.ja_abstract.proofs.Atoms.{has_atoms-from}
use Rattle.ja_meaning.specs.Meaning.{has_value, knows}
use Rattle.ja_meaning.proofs.Contents
use Rattle.ja_meaning.proofs.Parts.{has_value-join_values, is_present-known, allows_attrs-known}
use Rattle.ja_meaning.proofs.Resolved.{own-knows}
use Rattle.ja_meaning.proofs.Walks.{content-named, own-content}
use Rattle.ja_meaning.proofs.Ancestors.{inherits-known}
use Rattle.ja_meaning.proofs.Moments.{Reads}
use Rattle.ja_meaning.proofs.Gets.{own_known, label-among, some_label-object}
use Rattle.ja_meaning.proofs.KeyTexts.{key-among}
use Rattle.ja_sound.proofs.ControlNodes.{primitives-have}

abbrev pub ok : Primitive → machine.IntrinsicOutcome
ok q = Ok q

pub same_Ok : (q r : Primitive) → ok q ≡ ok r → q ≡ r
same_Ok q r e = cc

module _ (e c : Heap) (w : View) (r : Reads e c w) (good : IsWellFormed w.program) where
  abbrev p : Program
  p = w.program

  some-object : (test : Label → Bool) (a : Addr) → IsObjectOf c a → IsTrue (test (label_of c a))
      → IsTrue (some_label w test)
  some-object test a o h = some_label-object e c w r test a o h

  -- an operation on one value, and one on two
  abbrev pub CoversOne : (View → AbstractValue → Looked) → (Heap → Value → machine.IntrinsicOutcome)
      → Type 0
  CoversOne f g =
      (v : AbstractValue) (u : Value) → IsValueOf c u → IsTrue (has_value c v u)
      → IsFilled w.entries (f w v).demands → (q : Primitive) → g c u ≡ Ok q
      → IsTrue (has_primitive (f w v).value q)

  abbrev pub CoversTwo : (View → AbstractValue → AbstractValue → Looked)
      → (Heap → Value → Value → machine.IntrinsicOutcome) → Type 0
  CoversTwo f g =
      (v n : AbstractValue) (u y : Value) → IsValueOf c u → IsValueOf c y → IsTrue (has_value c v u)
      → IsTrue (has_value c n y) → IsFilled w.entries (f w v n).demands → (q : Primitive)
      → g c u y ≡ Ok q → IsTrue (has_primitive (f w v n).value q)

  pub is_object_covers : CoversOne abstract.is_object (λ h v. machine.tells (values.is_object v))
  is_object_covers v (value.Object a) there told filled q is =
      subst (λ z. IsTrue (has_primitive (abstract.is_object w v).value z))
      (same_Ok (primitive.Bool true) q is) (some-object v.label a there told)
  is_object_covers v (value.Primitive z) there told filled q is =
      subst (λ z. IsTrue (has_primitive (abstract.is_object w v).value z))
      (same_Ok (primitive.Bool false) q is) (has_atoms-from v z told)

  pub class_covers : CoversOne abstract.class_of machine.class_of
  class_covers v (value.Object a) there told filled q is =
      let (o, o_is) = some_value (object_at c a) there in
      let class_is : class_at c a ≡ Some (class_of_site p a.site.0) =
      ap (option_map (λ (o : Object). o.class)) o_is ∙ ap Some (r.heap_now.class a o o_is) in
      let text : Primitive = primitive.Text (machine.class_name (class_of_site p a.site.0)) in
      let known : text ≡ q =
      same_Ok text q (sym (ap (λ z. machine.if_any
      (option_map (λ (k : Class). primitive.Text (machine.class_name k)) z)) class_is) ∙ is) in
      let f : Label → AbstractValue =
      λ (l : Label). value_if (v.label l) (of_primitive
      (primitive.Text (machine.class_name (class_of_site p l.site.0)))) in
      subst (λ z. IsTrue (has_primitive (abstract.class_of w v).value z)) known
      (has_value-join_values c f (labels_of p) (label_of c a) (value.Primitive text)
      (label-among e c w r a there) (subst (λ z. IsTrue (has_value c z (value.Primitive text)))
      (sym (cond-true (v.label (label_of c a)) (of_primitive text) no_value told))
      (of_primitive_has text)))
  class_covers v (value.Primitive z) there told filled q is = cc

  pub value_covers : CoversOne abstract.value_of machine.value_of
  value_covers v (value.Object a) there told filled q is =
      let (o, o_is) = some_value (object_at c a) there in
      by o o_is o.slots.value refl (sym (ap (λ z. machine.if_any
      (option_and_then (λ (o : Object). o.slots.value) z)) o_is) ∙ is)
    where
      f : Label → AbstractValue
      f l = value_if (v.label l) (primitives_of (slot w l value_key))

      by : (o : Object) → object_at c a ≡ Some o → (z : Option Primitive) → o.slots.value ≡ z
          → machine.if_any z ≡ Ok q → IsTrue (has_primitive (abstract.value_of w v).value q)
      by o o_is None s_is e_is = cc
      by o o_is (Some y) s_is e_is =
          let known : IsTrue (knows c (own_at w (label_of c a) value_key)
          (content c a (internal slots.Value))) = own-knows e c w r a
          (internal slots.Value) value_key (same_key-self value_key) there
          (λ m j d. filled m j (some_label-object e c w r
          (λ l. v.label l && demands_of w.state l value_key m j) a there (and_from _ _ told d)))
          in
          let held_is : IsTrue (has_primitive (slot w (label_of c a) value_key) y) =
          subst (λ u. IsTrue (knows c (own_at w (label_of c a) value_key) u))
          (Contents.content-at c a o (internal slots.Value) o_is
          ∙ ap Rattle.ja_abstract.specs.Contents.held_primitive s_is) known in
          subst (λ z. IsTrue (has_primitive (abstract.value_of w v).value z)) (same_Ok y q e_is)
          (has_value-join_values c (λ (l : Label). value_if (v.label l)
          (primitives_of (slot w l value_key))) (labels_of p) (label_of c a) (value.Primitive y)
          (label-among e c w r a there) (subst (λ z. IsTrue (has_value c z (value.Primitive y)))
          (sym (cond-true (v.label (label_of c a))
          (primitives_of (slot w (label_of c a) value_key)) no_value told))
          (primitives-have (slot w (label_of c a) value_key) y held_is)))
  value_covers v (value.Primitive z) there told filled q is = cc

  -- ---- own properties

  module _ (v n : AbstractValue) (a : Addr) (there : IsObjectOf c a)
      (told : IsTrue (v.label (label_of c a))) (t : List ℕ)
      (named_told : IsTrue (has_value c n (value.Primitive (primitive.Text t))))
      (filled : IsFilled w.entries (abstract.has_own w v n).demands) where
    abbrev k : Key
    k = key_of p (named t)

    abbrev u : AbstractProperty
    u = reading.own w (label_of c a) (text_keys_of w n)

    key_in : IsTrue (Rattle.ja_abstract.specs.Keys.is_among_keys (text_keys_of w n) k)
    key_in =
        key-among p c (of_text_part n.text) (value.Primitive (primitive.Text t)) t named_told
        refl

    own_told : IsTrue (knows c u (property_content (own c a t)))
    own_told =
        subst (λ z. IsTrue (knows c u z)) (content-named c a t)
        (own_known e c w r (text_keys_of w n) a (named t) key_in there
        (λ m j d. filled m j (some_label-object e c w r
        (λ l. v.label l && demands_of_own w l (text_keys_of w n) m j) a there
        (and_from _ _ told d))))

    some-own : (holds : AbstractProperty → Bool) → IsTrue (holds u)
        → IsTrue (some_label w (λ l. v.label l && holds (reading.own w l (text_keys_of w n))))
    some-own holds h =
        some_label-object e c w r (λ l. v.label l && holds (reading.own w l (text_keys_of w n))) a
        there (and_from _ _ told h)

    missing_by : own c a t ≡ None → IsTrue (reading.may_lack u)
    missing_by none = subst (λ g. IsTrue (knows c u (property_content g))) none own_told

    there_by : (z : Property) → own c a t ≡ Some z
        → IsTrue (reading.may_have w u) × IsTrue (allows u.attrs.dont_enum z.attrs.dont_enum)
    there_by z some =
        let known : IsTrue (knows c u (content_of z.content z.attrs)) =
        subst (λ g. IsTrue (knows c u (property_content g))) some own_told in (
          is_present-known p c r.heap_now u z.content z.attrs
              (own-content p c r.heap_now a t z some) known,
          (and_three_parts (allows u.attrs.read_only z.attrs.read_only)
              (allows u.attrs.dont_enum z.attrs.dont_enum)
              (allows u.attrs.dont_delete z.attrs.dont_delete)
              (allows_attrs-known c u z.content z.attrs known)).1.0,
        )

    has_by : (g : Option Property) → own c a t ≡ g
        → IsTrue (has_primitive (abstract.has_own w v n).value (primitive.Bool (is_some g)))
    has_by None is = some-own reading.may_lack (missing_by is)
    has_by (Some z) is = some-own (reading.may_have w) (there_by z is).0

    shows_by : (g : Option Property) → own c a t ≡ g → (b : Bool) → machine.is_shown g ≡ b
        → IsTrue (has_primitive (abstract.is_enumerable w v n).value (primitive.Bool b))
    shows_by None is true b_is = absurd (false≢true b_is)
    shows_by None is false b_is =
        some-own (λ q. reading.may_lack q || reading.may_be_hidden w q)
        (or_left _ _ (missing_by is))
    shows_by (Some z) is true b_is =
        let t = there_by z is in some-own (reading.may_be_enumerable w)
        (and_from _ _ t.0 (subst (λ b. IsTrue (allows u.attrs.dont_enum b))
        (not-true z.attrs.dont_enum b_is) t.1))
    shows_by (Some z) is false b_is =
        let t = there_by z is in some-own (λ q. reading.may_lack q || reading.may_be_hidden w q)
        (or_right (reading.may_lack u) _ (and_from _ _ t.0
        (subst (λ b. IsTrue (allows u.attrs.dont_enum b)) (not-false z.attrs.dont_enum b_is) t.1)))

  pub has_own_covers : CoversTwo abstract.has_own (machine.of_own is_some)
  has_own_covers v n (value.Object a) (value.Primitive (primitive.Text t)) there t_there told t_told
      filled q is =
      subst (λ z. IsTrue (has_primitive (abstract.has_own w v n).value z))
      (same_Ok (primitive.Bool (is_some (own c a t))) q is)
      (has_by v n a there told t t_told filled (own c a t) refl)
  has_own_covers v n (value.Object a) (value.Primitive primitive.Undefined) there t_there told
      t_told filled q is =
      cc
  has_own_covers v n (value.Object a) (value.Primitive primitive.Null) there t_there told t_told
      filled q is =
      cc
  has_own_covers v n (value.Object a) (value.Primitive (primitive.Bool b)) there t_there told t_told
      filled q is =
      cc
  has_own_covers v n (value.Object a) (value.Primitive (primitive.Number b)) there t_there told
      t_told filled q is =
      cc
  has_own_covers v n (value.Object a) (value.Object b) there t_there told t_told filled q is = cc
  has_own_covers v n (value.Primitive z) y there t_there told t_told filled q is = cc

  pub is_enumerable_covers : CoversTwo abstract.is_enumerable (machine.of_own machine.is_shown)
  is_enumerable_covers v n (value.Object a) (value.Primitive (primitive.Text t)) there t_there told
      t_told filled q is =
      subst (λ z. IsTrue (has_primitive (abstract.is_enumerable w v n).value z))
      (same_Ok (primitive.Bool (machine.is_shown (own c a t))) q is)
      (shows_by v n a there told t t_told filled (own c a t) refl
      (machine.is_shown (own c a t)) refl)
  is_enumerable_covers v n (value.Object a) (value.Primitive primitive.Undefined) there t_there told
      t_told filled q is =
      cc
  is_enumerable_covers v n (value.Object a) (value.Primitive primitive.Null) there t_there told
      t_told filled q is =
      cc
  is_enumerable_covers v n (value.Object a) (value.Primitive (primitive.Bool b)) there t_there told
      t_told filled q is =
      cc
  is_enumerable_covers v n (value.Object a) (value.Primitive (primitive.Number b)) there t_there
      told t_told filled q is =
      cc
  is_enumerable_covers v n (value.Object a) (value.Object b) there t_there told t_told filled q is =
      cc
  is_enumerable_covers v n (value.Primitive z) y there t_there told t_told filled q is = cc

  -- ---- prototypes

  module _ (v n : AbstractValue) (a : Addr) (there : IsObjectOf c a)
      (told : IsTrue (n.label (label_of c a))) (filled : IsFilled w.entries
      (abstract.inherits w v n).demands) where
    abbrev bools : AbstractValue
    bools =
        Rattle.ja_abstract.specs.Primitives.of_bools
        (some_label w (λ l. proper_ancestors w v.label l && n.label l))
        (has_labels w v || has_atoms v)

    in_value : (b : Bool) → IsTrue (has_primitive bools (primitive.Bool b))
        → IsTrue (has_primitive (abstract.inherits w v n).value (primitive.Bool b))
    in_value b h =
        subst (λ z. IsTrue (has_primitive z (primitive.Bool b)))
        (sym (cond-true (has_labels w n) bools no_value (some-object n.label a there told))) h

    behind : (u : Value) → IsValueOf c u → IsTrue (has_value c v u) → (b : Bool)
        → machine.is_behind c a u ≡ b → IsTrue (has_primitive (abstract.inherits w v n).value
        (primitive.Bool b))
    behind (value.Primitive z) u_there u_told false is =
        in_value false (or_right (has_labels w v) _ (has_atoms-from v z u_told))
    behind (value.Object d) u_there u_told false is =
        in_value false (or_left _ _ (some-object v.label d u_there u_told))
    behind (value.Primitive z) u_there u_told true is = absurd (false≢true is)
    behind (value.Object d) u_there u_told true is =
        in_value true (some-object (λ l. proper_ancestors w v.label l && n.label l) a there
        (and_from _ _ (inherits-known e c w r v.label
        (λ m j d. filled m j (and_from _ _ (some-object n.label a there told) d)) d a u_there u_told
        is) told))

  pub inherits_covers : CoversTwo abstract.inherits machine.inherits
  inherits_covers v n u (value.Object a) there a_there told a_told filled q is =
      subst (λ z. IsTrue (has_primitive (abstract.inherits w v n).value z))
      (same_Ok (primitive.Bool (machine.is_behind c a u)) q is)
      (behind v n a a_there a_told filled u there told (machine.is_behind c a u) refl)
  inherits_covers v n u (value.Primitive z) there a_there told a_told filled q is = cc

  -- ---- arrays and arguments objects

  list_is : (a : Addr) → IsObjectOf c a → machine.is_list c (value.Object a)
      ≡ is_list_label p (label_of c a)
  list_is a there =
      let (o, o_is) = some_value (object_at c a) there in
      ap (λ z. option_map_or Rattle.ja_machine.specs.Calls.has_elements z false) o_is
      ∙ (ap (λ z. z || o.slots.arguments) (ap is_array (r.heap_now.class a o o_is))
      ∙ ap (λ z. is_array (class_of_site p a.site.0) || z) (r.heap_now.arguments a o o_is))

  list_by : (v : AbstractValue) (a : Addr) → IsObjectOf c a → IsTrue (v.label (label_of c a))
      → (b : Bool) → is_list_label p (label_of c a) ≡ b
      → IsTrue (has_primitive (abstract.has_elements w v).value (primitive.Bool b))
  list_by v a there told true is =
      some-object (λ l. v.label l && is_list_label p l) a there (and_from _ _ told is)
  list_by v a there told false is =
      or_right (has_atoms v) _ (some-object (λ l. v.label l && not (is_list_label p l)) a there
      (and_from _ _ told (ap not is)))

  pub has_elements_covers : CoversOne abstract.has_elements
      (λ h v. machine.tells (machine.is_list h v))
  has_elements_covers v (value.Object a) there told filled q is =
      subst (λ z. IsTrue (has_primitive (abstract.has_elements w v).value z))
      (same_Ok (primitive.Bool (machine.is_list c (value.Object a))) q is)
      (list_by v a there told (machine.is_list c (value.Object a)) (sym (list_is a there)))
  has_elements_covers v (value.Primitive z) there told filled q is =
      subst (λ z. IsTrue (has_primitive (abstract.has_elements w v).value z))
      (same_Ok (primitive.Bool false) q is) (or_left _ _ (has_atoms-from v z told))
