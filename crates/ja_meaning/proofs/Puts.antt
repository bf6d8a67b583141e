-- A put on an object: the writes that the abstract put makes of it tell of what the object has
-- then, strong or weak.
use Rattle.std.specs.Prelude.{◌≡◌, ◌⊎◌, ◌<◌, ◌^◌, zero, suc, take, slice_get, ◌&&◌, ◌||◌, not, ℕ, ℤ, pos, negsuc, nat_lt, nat_le, int_lt, Bool, true, false, if◌then◌else◌, IsTrue, List, [], ◌∷◌, map, filter, length, Option, Some, None, is_some, unwrap_or, Result, Ok, Err}
use Rattle.std.specs.List.{list_any}
use Rattle.std.specs.Option.{option_map_or}
use Rattle.std.proofs.Common.{refl, sym, subst, ap, ◌∙◌, inl, inr, arith}
use Rattle.std.proofs.lemmas.Bool.{le-ltb, ltb-true, lt-ltb, leb-true, false≢true, cases_Bool, cond-true, cond-false, cond_both, and_from, false_from_ne_true, or_left, or_right, or_cases}
use Rattle.std.proofs.lemmas.Bool.Decides.{Decides-int_eq}
use Rattle.std.proofs.lemmas.Option.{none-some, same_Some}
use Rattle.ja_base.specs.declared.ids.Label.{Label}
use Rattle.ja_base.specs.declared.ids.NameId.{NameId}
use Rattle.ja_base.proofs.Lists.{within_from_some}
use Rattle.ja_prim.specs.declared.primitive.Num.{Num}
use Rattle.ja_prim.specs.declared.primitive.Num.TheVariants.{NaN, Whole}
use Rattle.ja_prim.specs.declared.primitive.Primitive.{Primitive}
use Rattle.ja_prim.specs.declared.primitive.Primitive.TheVariants as primitive
use Rattle.ja_prim.specs.declared.stop.Stop.{Stop}
use Rattle.ja_prim.specs.Comparison.{to_primitive}
use Rattle.ja_prim.specs.Conversions.{to_number, index_of}
use Rattle.ja_prim.specs.Index.{is_index, is_index_text, with_digits}
use Rattle.ja_prim.specs.Texts.{same_text}
use Rattle.ja_graph.specs.declared.attrs.TheConstants.{NO_ATTRS}
use Rattle.ja_graph.specs.declared.builtins.TheConstants as builtins
use Rattle.ja_graph.specs.declared.program.Program.{Program}
use Rattle.ja_graph.specs.WellFormed.{IsWellFormed, builtin_names}
use Rattle.ja_machine.specs.declared.machine.Addr.{Addr}
use Rattle.ja_machine.specs.declared.machine.Value.{Value}
use Rattle.ja_machine.specs.declared.machine.Value.TheVariants as value
use Rattle.ja_machine.specs.declared.machine.Property.{Property}
use Rattle.ja_machine.specs.declared.machine.Object.{Object}
use Rattle.ja_machine.specs.declared.machine.Heap.{Heap}
use Rattle.ja_machine.specs.declared.machine.Put.{Put}
use Rattle.ja_machine.specs.declared.machine.Put.TheVariants as put_ends
use Rattle.ja_machine.specs.Heap.{object_at, with_object, property_of}
use Rattle.ja_machine.specs.Nodes.{name_text}
use Rattle.ja_machine.specs.Writes.{PutOutcome, written, put_own, put_array, put_length_value, put_length, unsigned_number, object_with_value, with_element, with_length, grown, length_of, length_name, whole_number, is_array}
use Rattle.ja_machine.specs.State.{IsObjectOf}
use Rattle.ja_machine.proofs.Heaps
use Rattle.ja_machine.proofs.Lists.{either_way, is_some_from}
use Rattle.ja_abstract.specs.declared.abstraction.NumberPart.{NumberPart}
use Rattle.ja_abstract.specs.declared.abstraction.NumberPart.TheVariants as number_part
use Rattle.ja_abstract.specs.declared.abstraction.Key.{Key}
use Rattle.ja_abstract.specs.declared.abstraction.Key.TheVariants as key
use Rattle.ja_abstract.specs.AbstractValue.{AbstractValue, AbstractProperty, join_properties, absent_property, of_attrs, unknown_attrs}
use Rattle.ja_abstract.specs.AbstractState.{labels_of, same_key, name_key, keys_of}
use Rattle.ja_abstract.specs.Resolved.{demands_of, IsFilled}
use Rattle.ja_abstract.specs.Contents.{SpotContent, missing, present, content, object_content, property_content, label_of}
use Rattle.ja_abstract.specs.Keys.{Spot, named, internal, key_of, name_of, rest_key, index_of_key, is_index_key, index_keys, is_among_keys}
use Rattle.ja_abstract.specs.Parts.{number_has, allows_attrs}
use Rattle.ja_abstract.specs.Made.{length_key, one_number}
use Rattle.ja_abstract.specs.Primitives.{to_num, to_num_atom, of_number_part}
use Rattle.ja_abstract.specs.Reading.{View, has_present}
use Rattle.ja_abstract.specs.Writes.{Write, sets_at, joins_at, joined_at, replaced_at, own_at, put_attrs, put_property, is_array_label, grown_length, has_some_part, element_writes, length_writes, is_length, may_be_length, may_be_no_length, may_be_cut, put_writes}
use Rattle.ja_abstract.proofs.Texts.{text_same, same_text_refl}
use Rattle.ja_abstract.proofs.Parts.{of_attrs_allows, has_part_from_present}
use Rattle.ja_abstract.proofs.Keys.{text_of_key, same_key-true, same_key-self, same_key_from, key_of-name}
use Rattle.ja_abstract.proofs.Lists.{Member}
use Rattle.ja_abstract.proofs.Joins.{allows_attrs-join_left, allows_attrs-join_right}
use Rattle.ja_abstract.proofs.Atoms.{to_num-covers, unary-covers, Covers}
use Rattle.ja_abstract.proofs.Among.{text_among, among-filter}
use Rattle.ja_meaning.specs.Meaning.{has_value, knows, IsOfHeap, Tells}
use Rattle.ja_meaning.proofs.Contents
use Rattle.ja_meaning.proofs.Contents.{attrs_after, named_cases}
use Rattle.ja_meaning.proofs.Inside.{inside}
use Rattle.ja_meaning.proofs.Parts.{is_present-known, allows_attrs-known}
use Rattle.ja_meaning.proofs.Resolved.{own-knows}
use Rattle.ja_meaning.proofs.Values.{knows-join_left}
use Rattle.ja_meaning.proofs.Arrays.{value_same, value_other, element_other, element_length, cut_at, cut_index, length_same, length_cut, length_kept, length_slot}
use Rattle.ja_meaning.proofs.Moments.{Reads}
use Rattle.ja_meaning.proofs.Grown.{by_reading, by_missing, after_element}
use Rattle.ja_meaning.proofs.Written.{Wrote, knows-now, joined-old, written-knows, tells-now}

-- ---- lists of writes

-- what is known stays known
pub joined-kept : (h : Heap) (u : SpotContent) (k : Key) (writes : List Write)
    (q : AbstractProperty) → IsTrue (knows h q u) → IsTrue (knows h (joined_at writes q k) u)
joined-kept h u k [] q e = e
joined-kept h u k (y ∷ ys) q e =
    let more = joined-kept h u k ys q e in
    cond_both (same_key y.key k) (join_properties (joined_at ys q k) y.property) (joined_at ys q k)
    (λ r. IsTrue (knows h r u)) (λ _. knows-join_left h (joined_at ys q k) y.property u more)
    (λ _. more)

-- writes that only join
abbrev pub all_join : Key → AbstractProperty → List Key → List Write
all_join k q keys = map (λ (j : Key). joins_at j q) keys

pub replaced-join : (r : AbstractProperty) (keys : List Key) (q : AbstractProperty) (k : Key)
    → replaced_at (map (λ (j : Key). joins_at j r) keys) q k
    ≡ joined_at (map (λ (j : Key). joins_at j r) keys) q k
replaced-join r [] q k = refl
replaced-join r (j ∷ js) q k =
    ap (λ z. if same_key j k then join_properties z r else z) (replaced-join r js q k)

pub member-joins : (r : AbstractProperty) (keys : List Key) (k : Key)
    → IsTrue (is_among_keys keys k) → Member (joins_at k r) (map (λ (j : Key). joins_at j r) keys)
member-joins r [] k a = absurd (false≢true a)
member-joins r (j ∷ js) k a =
    elim (or_cases (same_key j k) (list_any (λ i. same_key i k) js) a) [
      | inl s ↦ inl (ap (λ z. joins_at z r) (same_key-true j k s))
      | inr m ↦
          inr (member-joins r js k m)
    ]

-- ---- another object at an address

pub wrote_object : (c : Heap) (a : Addr) (o q : Object) → object_at c a ≡ Some o
    → Wrote c (with_object c a q) a
wrote_object c a o q there = record {
  labels = Contents.label-with_object c a o q there;
  counts = Heaps.count-with_object c a o q there;
  there = Heaps.object_unwritten c a o q there;
  others =
      λ b x other. ap (λ r. option_map_or (λ (z : Object). object_content z x) r missing)
      (Heaps.object-with_object_other c a o q there b other);
}

pub wrote_nothing : (c : Heap) (a : Addr) → Wrote c c a
wrote_nothing c a =
    record {
      labels = λ b. refl;
      counts = λ t. refl;
      there = λ b there. there;
      others =
          λ b x other. refl;
    }

pub content_now : (c : Heap) (a : Addr) (o q : Object) → object_at c a ≡ Some o → (x : Spot)
    → content (with_object c a q) a x ≡ object_content q x
content_now c a o q there x =
    Contents.content-at (with_object c a q) a q x (Heaps.object-with_object_same c a o q there)

-- ---- keys of indices

module _ (p : Program) where
  index_by : (t : List ℕ) (o : Option ℕ) → name_of p t ≡ o
      → is_index_key p (key_of p (named t)) ≡ is_some (index_of t)
  index_by t (Some n) is =
      let k : key_of p (named t) ≡ name_key n =
      ap (λ o. option_map_or name_key o (rest_key t)) is in
      subst (λ j. is_index_key p j ≡ is_some (index_of t)) (sym k)
      (ap (λ u. is_some (index_of u)) (text_of_key p t (record { 0 = n }) k))
  index_by t None is =
      let k : key_of p (named t) ≡ rest_key t =
      ap (λ o. option_map_or name_key o (rest_key t)) is in
      subst (λ j. is_index_key p j ≡ is_some (index_of t)) (sym k)
      (rest (is_index_text t) (with_digits 0 t))
    where
      rest : (b : Bool) (n : ℕ) → is_index_key p (if b then key.OtherIndex else key.OtherName)
          ≡ is_some (if b then Some n else None)
      rest true n = refl
      rest false n = refl

  -- the key of a text is an index's where the text is
  pub index_key : (t : List ℕ) → is_index_key p (key_of p (named t)) ≡ is_some (index_of t)
  index_key t = index_by t (name_of p t) refl

  number_by : (t : List ℕ) (i : ℕ) → index_of t ≡ Some i → (o : Option ℕ) → name_of p t ≡ o
      → (index_of_key p (key_of p (named t)) ≡ None)
      ⊎ (index_of_key p (key_of p (named t)) ≡ Some i)
  number_by t i is (Some n) name =
      let k : key_of p (named t) ≡ name_key n =
      ap (λ o. option_map_or name_key o (rest_key t)) name in
      inr (ap (index_of_key p) k ∙ (ap index_of (text_of_key p t (record { 0 = n }) k) ∙ is))
  number_by t i is None name =
      let k : key_of p (named t) ≡ rest_key t =
      ap (λ o. option_map_or name_key o (rest_key t)) name in
      inl (ap (index_of_key p) k ∙ cond_both (is_index_text t) key.OtherIndex key.OtherName
      (λ j. index_of_key p j ≡ None) (λ a. refl) (λ b. refl))

  pub index_number : (t : List ℕ) (i : ℕ) → index_of t ≡ Some i
      → (index_of_key p (key_of p (named t)) ≡ None)
      ⊎ (index_of_key p (key_of p (named t)) ≡ Some i)
  index_number t i is = number_by t i is (name_of p t) refl

-- ---- names

-- an entry of a part of a list from its beginning is one of the list
pub from_take : {X : Type 0} (n : ℕ) (xs : List X) (i : ℕ) (x : X)
    → slice_get (take n xs) i ≡ Some x → slice_get xs i ≡ Some x
from_take zero xs i x e = absurd (none-some x e)
from_take (suc n) [] i x e = absurd (none-some x e)
from_take (suc n) (y ∷ ys) zero x e = e
from_take (suc n) (y ∷ ys) (suc i) x e = from_take n ys i x e

-- the key of the text of a built-in name
pub builtin_key : (p : Program) → IsWellFormed p → (n : NameId) (t : List ℕ)
    → slice_get builtin_names n.0 ≡ Some t → key_of p (named t) ≡ key.Name n
builtin_key p good n t is =
    let place : slice_get p.names n.0 ≡ Some t =
    from_take (length builtin_names) p.names n.0 t
    (ap (λ (xs : List (List ℕ)). slice_get xs n.0) good.names ∙ is) in
    let text_is : name_text p n ≡ t = ap (λ o. unwrap_or o []) place in
    ap (λ u. key_of p (named u)) (sym text_is) ∙ key_of-name p good n
    (within_from_some p.names n.0 (is_some_from (slice_get p.names n.0) t place))

-- ---- numbers that are lengths, and those that are none

may_be_one : (m : NumberPart) (n : ℕ) → IsTrue (number_has m (pos n)) → nat_lt n (2 ^ 32) ≡ true
    → IsTrue (may_be_length m)
may_be_one number_part.Nothing n h e = h
may_be_one (number_part.One z) n h e =
    subst (λ y. IsTrue (is_length y)) (sym ((Decides-int_eq z (pos n)).0 h)) e
may_be_one number_part.Index n h e = refl
may_be_one number_part.OtherWhole n h e = refl
may_be_one number_part.Whole n h e = refl

index_length : (z : ℤ) → IsTrue (is_index z) → is_length z ≡ false → ⊥
index_length (negsuc n) h e = false≢true h
index_length (pos n) h e =
    let a : n < 4294967295 = ltb-true n 4294967295 h in
    false≢true (sym e ∙ lt-ltb n (2 ^ 32) (omega (a, arith)))

may_be_none : (m : NumberPart) (z : ℤ) → IsTrue (number_has m z) → is_length z ≡ false
    → IsTrue (may_be_no_length m)
may_be_none number_part.Nothing z h e = h
may_be_none (number_part.One y) z h e = ap not (ap is_length ((Decides-int_eq y z).0 h) ∙ e)
may_be_none number_part.Index z h e = absurd (index_length z h e)
may_be_none number_part.OtherWhole z h e = refl
may_be_none number_part.Whole z h e = refl

-- ---- a put on an object

module _ (e c : Heap) (w : View) (r : Reads e c w) (good : IsWellFormed w.program) where
  abbrev p : Program
  p = w.program

  pub length_is : key_of p (named length_name) ≡ length_key
  length_is = builtin_key p good builtins.LENGTH length_name refl

  only_length : (y : Spot) → IsTrue (same_key length_key (key_of p y)) → y ≡ named length_name
  only_length (named u) s =
      ap named (sym (text_of_key p u builtins.LENGTH
      (sym (same_key-true length_key (key_of p (named u)) s)))
      ∙ text_of_key p length_name builtins.LENGTH length_is)
  only_length (internal q) s =
      let is : length_key ≡ key.Slot q = same_key-true length_key (key.Slot q) s in cc

  -- what the resolved reading tells of a spot
  pub own_at_known : (a : Addr) (y : Spot) → IsObjectOf c a
      → IsFilled w.entries (demands_of w.state (label_of c a) (key_of p y))
      → IsTrue (knows c (own_at w (label_of c a) (key_of p y)) (content c a y))
  own_at_known a y there filled =
      own-knows e c w r a y (key_of p y) (same_key-self (key_of p y)) there filled

  -- a property that is put has the attributes that it had, and none where it is new
  attrs_allowed : (q : AbstractProperty) (g : Option Property) → IsOfHeap c (property_content g)
      → IsTrue (knows c q (property_content g)) → IsTrue
      (allows_attrs (put_attrs w q) (attrs_after g))
  attrs_allowed q None there known =
      allows_attrs-join_right (if has_present w q.value then q.attrs else unknown_attrs)
      (if q.value.flags.absent then of_attrs NO_ATTRS else unknown_attrs) NO_ATTRS
      (subst (λ m. IsTrue (allows_attrs m NO_ATTRS))
      (sym (cond-true q.value.flags.absent (of_attrs NO_ATTRS) unknown_attrs known))
      (of_attrs_allows NO_ATTRS))
  attrs_allowed q (Some g) there known =
      allows_attrs-join_left (if has_present w q.value then q.attrs else unknown_attrs)
      (if q.value.flags.absent then of_attrs NO_ATTRS else unknown_attrs) g.attrs
      (subst (λ m. IsTrue (allows_attrs m g.attrs))
      (sym (cond-true (has_present w q.value) q.attrs unknown_attrs
      (is_present-known p c r.heap_now q g.content g.attrs there known)))
      (allows_attrs-known c q g.content g.attrs known))

  module _ (a : Addr) (o : Object) (there : object_at c a ≡ Some o) where
    abbrev l : Label
    l = label_of c a

    is_object : IsObjectOf c a
    is_object = is_some_from (object_at c a) o there

    content_is : (y : Spot) → content c a y ≡ object_content o y
    content_is y = Contents.content-at c a o y there

    inside_own : (t : List ℕ) → IsOfHeap c (property_content (property_of o t))
    inside_own t = subst (IsOfHeap c) (content_is (named t)) (inside p c r.heap_now a (named t))

    own_known : (t : List ℕ) → IsFilled w.entries (demands_of w.state l (key_of p (named t)))
        → IsTrue (knows c (own_at w l (key_of p (named t))) (property_content (property_of o t)))
    own_known t filled =
        subst (λ u. IsTrue (knows c (own_at w l (key_of p (named t))) u)) (content_is (named t))
        (own_at_known a (named t) is_object filled)

    -- what is put
    put_known : (now : Heap) (t : List ℕ) (k : Key) → key_of p (named t) ≡ k
        → IsFilled w.entries (demands_of w.state l k) → (u : AbstractValue) (v : Value)
        → IsTrue (has_value now u v) → IsTrue (knows now (put_property w l k u)
        (present v (attrs_after (property_of o t))))
    put_known now t k is filled u v has =
        subst (λ j. IsFilled w.entries (demands_of w.state l j)
        → IsTrue (knows now (put_property w l j u) (present v (attrs_after (property_of o t))))) is
        (λ f. and_from _ _ has (attrs_allowed (own_at w l (key_of p (named t))) (property_of o t)
        (inside_own t) (own_known t f))) filled

    module _ (t : List ℕ) where
      abbrev k : Key
      k = key_of p (named t)

      -- the key is that of the text alone
      abbrev pub IsOnly : Type 0
      IsOnly = (y : Spot) → IsTrue (same_key k (key_of p y)) → y ≡ named t

      -- writes that tell of the object in a heap
      pub record Suits (now : Heap) (writes : List Write) : Type 0 where
        pub wrote : Wrote c now a
        pub weak : (y : Spot) → (content now a y ≡ content c a y)
            ⊎ ((q : AbstractProperty) → IsTrue (knows now (joined_at writes q (key_of p y))
            (content now a y)))
        pub strong : IsOnly → (y : Spot) (q : AbstractProperty) → Tells e c a y q
            → Tells e now a y (replaced_at writes q (key_of p y))

      -- ---- one property is set

      module _ (q : Object) (n : AbstractProperty)
          (same : (y : Spot) → (y ≡ named t → ⊥) → object_content q y ≡ object_content o y)
          (known : IsTrue (knows (with_object c a q) n (object_content q (named t)))) where
        abbrev now : Heap
        now = with_object c a q

        wrote : Wrote c now a
        wrote = wrote_object c a o q there

        at_now : (y : Spot) → content now a y ≡ object_content q y
        at_now = content_now c a o q there

        kept : (y : Spot) → (y ≡ named t → ⊥) → content now a y ≡ content c a y
        kept y ne = at_now y ∙ (same y ne ∙ sym (content_is y))

        told : IsTrue (knows now n (content now a (named t)))
        told = subst (λ u. IsTrue (knows now n u)) (sym (at_now (named t))) known

        pub one_suits : Suits now (sets_at k n ∷ [])
        one_suits = record {
          wrote = wrote;
          weak = λ y. elim (named_cases y t) [
            | inl is ↦
                inr (λ z. subst (λ y. IsTrue (knows now
                (joined_at (sets_at k n ∷ []) z (key_of p y)) (content now a y))) (sym is)
                (written-knows now (content now a (named t)) k z (sets_at k n ∷ []) (sets_at k n)
                (inl refl) (same_key-self k) told))
            | inr ne ↦ inl (kept y ne)
          ];
          strong = λ only y z tells. cond_both (same_key k (key_of p y)) n z (Tells e now a y)
              (λ s. inl (subst (λ y. IsTrue (knows now n (content now a y))) (sym (only y s)) told))
              (λ s. tells-now c now a wrote e a y z (kept y
              (λ is. false≢true (sym s ∙ subst (λ y. IsTrue (same_key k (key_of p y))) (sym is)
              (same_key-self k)))) tells);
        }

      -- ---- an element is set, and the length with it

      module _ (not_length : named length_name ≡ named t → ⊥) (q_two : Object)
          (n_two m_two : AbstractProperty) (same : (y : Spot) → (y ≡ named t → ⊥)
          → (y ≡ named length_name → ⊥) → object_content q_two y ≡ object_content o y)
          (known : IsTrue (knows (with_object c a q_two) n_two (object_content q_two (named t))))
          (long : IsTrue (knows (with_object c a q_two) m_two
          (object_content q_two (named length_name)))) where
        abbrev now_two : Heap
        now_two = with_object c a q_two

        abbrev two : List Write
        two = sets_at k n_two ∷ sets_at length_key m_two ∷ []

        wrote_two : Wrote c now_two a
        wrote_two = wrote_object c a o q_two there

        at_now_two : (y : Spot) → content now_two a y ≡ object_content q_two y
        at_now_two = content_now c a o q_two there

        kept_two : (y : Spot) → (y ≡ named t → ⊥) → (y ≡ named length_name → ⊥)
            → content now_two a y ≡ content c a y
        kept_two y ne un = at_now_two y ∙ (same y ne un ∙ sym (content_is y))

        told_two : IsTrue (knows now_two n_two (content now_two a (named t)))
        told_two = subst (λ u. IsTrue (knows now_two n_two u)) (sym (at_now_two (named t))) known

        told_length : IsTrue (knows now_two m_two (content now_two a (named length_name)))
        told_length =
            subst (λ u. IsTrue (knows now_two m_two u)) (sym (at_now_two (named length_name))) long

        pub two_suit : Suits now_two two
        two_suit = record {
          wrote = wrote_two;
          weak = λ y. elim (named_cases y t) [
            | inl is ↦
                inr (λ z. subst (λ y. IsTrue (knows now_two (joined_at two z (key_of p y))
                (content now_two a y))) (sym is) (written-knows now_two
                (content now_two a (named t)) k z two (sets_at k n_two) (inl refl)
                (same_key-self k) told_two))
            | inr ne ↦ elim (named_cases y length_name) [
              | inl is ↦
                  inr (λ z. subst (λ y. IsTrue (knows now_two (joined_at two z (key_of p y))
                  (content now_two a y))) (sym is) (written-knows now_two
                  (content now_two a (named length_name)) (key_of p (named length_name)) z two
                  (sets_at length_key m_two) (inr (inl refl))
                  (same_key_from length_key (key_of p (named length_name)) (sym length_is))
                  told_length))
              | inr un ↦ inl (kept_two y ne un)
            ]
          ];
          strong =
              λ only y z tells. cond_both (same_key k (key_of p y)) n_two
              (if same_key length_key (key_of p y) then m_two else z) (Tells e now_two a y)
              (λ s. inl (subst (λ y. IsTrue (knows now_two n_two (content now_two a y)))
              (sym (only y s)) told_two))
              (λ s. cond_both (same_key length_key (key_of p y)) m_two z (Tells e now_two a y)
              (λ s. inl (subst (λ y. IsTrue (knows now_two m_two (content now_two a y)))
              (sym (only_length y s)) told_length))
              (λ u. tells-now c now_two a wrote_two e a y z (kept_two y
              (λ is. false≢true (sym s ∙ subst (λ y. IsTrue (same_key k (key_of p y))) (sym is)
              (same_key-self k)))
              (λ is. false≢true (sym u ∙ same_key_from length_key (key_of p y)
              (sym (ap (key_of p) is ∙ length_is))))) tells));
        }

    -- ---- the length is set, and elements are cut

    module _ (len : ℕ) (n : AbstractProperty) (part : NumberPart)
        (covers : IsTrue (number_has part (pos len)))
        (known : IsTrue (knows (with_object c a (with_length o len)) n
        (object_content (with_length o len) (named length_name)))) where
      abbrev q : Object
      q = with_length o len

      abbrev now_all : Heap
      now_all = with_object c a q

      abbrev cuts : List Key
      cuts = filter (λ (j : Key). may_be_cut part (index_of_key p j)) (index_keys p)

      abbrev all : List Write
      all = sets_at length_key n ∷ map (λ (j : Key). joins_at j absent_property) cuts

      wrote_all : Wrote c now_all a
      wrote_all = wrote_object c a o q there

      at_now_all : (y : Spot) → content now_all a y ≡ object_content q y
      at_now_all = content_now c a o q there

      told_all : IsTrue (knows now_all n (content now_all a (named length_name)))
      told_all =
          subst (λ u. IsTrue (knows now_all n u)) (sym (at_now_all (named length_name))) known

      -- an element that is cut is one that may be
      may_cut : (i : ℕ) (m : NumberPart) (o : Option ℕ) → (o ≡ None) ⊎ (o ≡ Some i)
          → IsTrue (nat_le len i) → IsTrue (number_has m (pos len)) → IsTrue (may_be_cut m o)
      may_cut i (number_part.One z) None is le h = refl
      may_cut i (number_part.One z) (Some j) (inl is) le h = absurd (none-some j (sym is))
      may_cut i (number_part.One z) (Some j) (inr is) le h =
          subst (λ y. IsTrue (not (int_lt (pos j) y))) (sym ((Decides-int_eq z (pos len)).0 h))
          (subst (λ y. IsTrue (not (int_lt (pos y) (pos len)))) (sym (same_Some j i is))
          (ap not (le-ltb i len (leb-true len i le))))
      may_cut i number_part.Nothing o is le h = absurd (false≢true h)
      may_cut i number_part.Index o is le h = refl
      may_cut i number_part.OtherWhole o is le h = refl
      may_cut i number_part.Whole o is le h = refl

      among_cuts : (t : List ℕ) → cut_at len (length_of o) t ≡ true
          → IsTrue (is_among_keys cuts (key_of p (named t)))
      among_cuts t cut =
          let (i, is, le) = cut_index len (length_of o) t cut in
          among-filter (λ (j : Key). may_be_cut part (index_of_key p j)) (index_keys p)
          (key_of p (named t)) (among-filter (is_index_key p) (keys_of p) (key_of p (named t))
          (text_among p t) (index_key p t ∙ ap is_some is))
          (may_cut i part (index_of_key p (key_of p (named t))) (index_number p t i is) le covers)

      gone : (t : List ℕ) → (named t ≡ named length_name → ⊥) → cut_at len (length_of o) t ≡ true
          → (z : AbstractProperty) → IsTrue (knows now_all
          (joined_at (map (λ (j : Key). joins_at j absent_property) cuts) z (key_of p (named t)))
          (content now_all a (named t)))
      gone t ne cut z =
          written-knows now_all (content now_all a (named t)) (key_of p (named t)) z
          (map (λ (j : Key). joins_at j absent_property) cuts)
          (joins_at (key_of p (named t)) absent_property)
          (member-joins absent_property cuts (key_of p (named t)) (among_cuts t cut))
          (same_key-self (key_of p (named t))) (subst
          (λ u. IsTrue (knows now_all absent_property u))
          (sym (at_now_all (named t) ∙ length_cut o len t ne cut)) refl)

      -- what isn't the length is as it was, or it is gone
      others : (y : Spot) → (y ≡ named length_name → ⊥)
          → (content now_all a y ≡ content c a y) ⊎
          ((z : AbstractProperty) → IsTrue (knows now_all
          (joined_at (map (λ (j : Key). joins_at j absent_property) cuts) z (key_of p y))
          (content now_all a y)))
      others (internal x) ne =
          inl (at_now_all (internal x) ∙ (length_slot o len x ∙ sym (content_is (internal x))))
      others (named t) ne = elim (cases_Bool (cut_at len (length_of o) t)) [
        | inl cut ↦ inr (gone t ne cut)
        | inr whole ↦
            inl (at_now_all (named t) ∙ (length_kept o len t ne whole ∙ sym (content_is (named t))))
      ]

      pub all_suit : (t : List ℕ) → t ≡ length_name → Suits t now_all all
      all_suit t t_is = record {
        wrote = wrote_all;
        weak = λ y. elim (named_cases y length_name) [
          | inl is ↦
              inr (λ z. subst (λ y. IsTrue (knows now_all (joined_at all z (key_of p y))
              (content now_all a y))) (sym is) (written-knows now_all
              (content now_all a (named length_name)) (key_of p (named length_name)) z all
              (sets_at length_key n) (inl refl) (same_key_from length_key
              (key_of p (named length_name)) (sym length_is)) told_all))
          | inr ne ↦ elim (others y ne) [
            | inl same ↦ inl same
            | inr cut ↦
                inr (λ z. let more = cut z in cond_both (same_key length_key (key_of p y))
                (join_properties (joined_at (map (λ (j : Key). joins_at j absent_property) cuts) z
                (key_of p y)) n) (joined_at (map (λ (j : Key). joins_at j absent_property) cuts) z
                (key_of p y)) (λ r. IsTrue (knows now_all r (content now_all a y)))
                (λ _. knows-join_left now_all (joined_at
                (map (λ (j : Key). joins_at j absent_property) cuts) z (key_of p y)) n
                (content now_all a y) more) (λ _. more))
          ]
        ];
        strong =
            λ only y z tells. cond_both (same_key length_key (key_of p y)) n
            (replaced_at (map (λ (j : Key). joins_at j absent_property) cuts) z (key_of p y))
            (Tells e now_all a y)
            (λ s. inl (subst (λ y. IsTrue (knows now_all n (content now_all a y)))
            (sym (only_length y s)) told_all))
            (λ s. subst (Tells e now_all a y) (sym (replaced-join absent_property cuts z
            (key_of p y))) (elim (others y (λ is. false≢true
            (sym s ∙ same_key_from length_key (key_of p y) (sym (ap (key_of p) is ∙ length_is))))) [
              | inl same ↦
                  joined-old e now_all a y (key_of p y)
                  (map (λ (j : Key). joins_at j absent_property) cuts) z
                  (tells-now c now_all a wrote_all e a y z same tells)
              | inr cut ↦ inl (cut z)
            ]));
      }

    -- ---- what a put leaves

    module _ (t : List ℕ) (u : AbstractValue) (filled : IsFilled w.entries
        (demands_of w.state l (key_of p (named t))))
        (filled_length : IsTrue (is_array_label p l) → IsTrue (is_index_key p (key_of p (named t)))
        → IsFilled w.entries (demands_of w.state l length_key)) where
      -- what the abstract put writes suits
      pub record IsWritten (now : Heap) : Type 0 where
        pub writes : List Write
        pub writes_are : put_writes w l (key_of p (named t)) u ≡ Some writes
        pub suits : Suits t now writes

      -- a length that is none
      pub record IsWrong : Type 0 where
        pub array : IsTrue (is_array_label p l)
        pub length : IsTrue (same_key (key_of p (named t)) length_key)
        pub wrong : IsTrue ((to_num u).may_stop || ((to_num u).value.flags.nan
            || may_be_no_length (to_num u).value.number))

      abbrev pub Leaves : Put → Heap → Type 0
      Leaves put_ends.Done h = IsWritten h
      Leaves put_ends.RangeError h = (h ≡ c) × IsWrong
      Leaves put_ends.Ignored h = ⊥
      Leaves ending h = Unit {0}

      abbrev pub LeavesBy : PutOutcome → Type 0
      LeavesBy x = Leaves x.put x.heap

      array_is : is_array o.class ≡ is_array_label p l
      array_is = ap is_array (r.heap_now.class a o there)

      module _ (v : Value) (has : IsTrue (has_value c u v)) where
        put_told : (q : Object) → object_content q (named t)
            ≡ present v (attrs_after (property_of o t))
            → IsTrue (knows (with_object c a q) (put_property w l (key_of p (named t)) u)
            (object_content q (named t)))
        put_told q is =
            subst (λ z. IsTrue (knows (with_object c a q)
            (put_property w l (key_of p (named t)) u) z)) (sym is)
            (knows-now c (with_object c a q) a (wrote_object c a o q there)
            (put_property w l (key_of p (named t)) u) (present v (attrs_after (property_of o t)))
            (put_known c t (key_of p (named t)) refl filled u v has))

        plain_leaves : (is_array_label p l && same_key (key_of p (named t)) length_key) ≡ false
            → (is_array_label p l && is_index_key p (key_of p (named t))) ≡ false
            → IsWritten (with_object c a (object_with_value o t v))
        plain_leaves no_length no_index = record {
          writes = sets_at (key_of p (named t)) (put_property w l (key_of p (named t)) u) ∷ [];
          writes_are =
              cond-false _ (length_writes w l u) _ no_length
              ∙ cond-false _ (element_writes w l (key_of p (named t)) u) _ no_index;
          suits =
              one_suits t (object_with_value o t v) (put_property w l (key_of p (named t)) u)
              (value_other o t v) (put_told (object_with_value o t v) (value_same o t v));
        }

        no_array : is_array_label p l ≡ false → (b : Bool) → (is_array_label p l && b) ≡ false
        no_array e b = ap (λ z. z && b) e

        -- ---- an element

        not_length_key : (t ≡ length_name → ⊥) → same_key (key_of p (named t)) length_key ≡ false
        not_length_key ne =
            false_from_ne_true (same_key (key_of p (named t)) length_key)
            (λ s. ne (sym (text_of_key p t builtins.LENGTH
            (same_key-true (key_of p (named t)) length_key s))
            ∙ text_of_key p length_name builtins.LENGTH length_is))

        module _ (arr : is_array_label p l ≡ true) (ne : t ≡ length_name → ⊥) where
          no_length_write : (is_array_label p l && same_key (key_of p (named t)) length_key) ≡ false
          no_length_write =
              ap (λ b. b && same_key (key_of p (named t)) length_key) arr ∙ not_length_key ne

          apart : named length_name ≡ named t → ⊥
          apart is = ne (sym (ap text_in is))
            where
              text_in : Spot → List ℕ
              text_in (named u) = u
              text_in (internal x) = []

          abbrev long : AbstractProperty
          long = own_at w l length_key

          abbrev longer : AbstractProperty
          longer =
              record long {
                value = grown_length long.value (index_of_key p (key_of p (named t)))
                    (one_number p long.value);
              }

          module _ (i : ℕ) (is : index_of t ≡ Some i) where
            index_write : (is_array_label p l && is_index_key p (key_of p (named t))) ≡ true
            index_write = and_from _ _ arr (index_key p t ∙ ap is_some is)

            abbrev el : Object
            el = grown i (length_of o) (object_with_value o t v)

            long_known : IsTrue (knows c long (property_content (property_of o length_name)))
            long_known =
                subst (λ j. IsFilled w.entries (demands_of w.state l j)
                → IsTrue (knows c (own_at w l j) (property_content (property_of o length_name))))
                length_is (own_known length_name) (filled_length arr
                (index_key p t ∙ ap is_some is))

            part_by : (g : Option Property) → IsOfHeap c (property_content g)
                → IsTrue (knows c long (property_content g)) → IsTrue (has_some_part w long.value)
            part_by None of_it known =
                or_left (long.value.flags.absent || long.value.flags.entry)
                (has_present w long.value) (or_left long.value.flags.absent long.value.flags.entry
                known)
            part_by (Some g) of_it known =
                has_part_from_present (labels_of p) long.value
                (is_present-known p c r.heap_now long g.content g.attrs of_it known)

            longer_by : (g : Option Property) → IsOfHeap c (property_content g)
                → IsTrue (knows c long (property_content g))
                → IsTrue (knows c longer (after_element g i))
            longer_by None of_it known =
                by_missing p c r.heap_now long (index_of_key p (key_of p (named t)))
                (one_number p long.value) refl known
            longer_by (Some g) of_it known =
                by_reading p c r.heap_now long i (index_of_key p (key_of p (named t)))
                (index_number p t i is) (one_number p long.value) refl g of_it known

            element_leaves : IsWritten (with_object c a el)
            element_leaves = record {
              writes =
                  sets_at (key_of p (named t)) (put_property w l (key_of p (named t)) u) ∷ sets_at
                  length_key longer ∷ [];
              writes_are =
                  cond-false _ (length_writes w l u) _ no_length_write
                  ∙ (cond-true _ (element_writes w l (key_of p (named t)) u) _ index_write
                  ∙ cond-true (has_some_part w long.value) _ None
                  (part_by (property_of o length_name) (inside_own length_name) long_known));
              suits = two_suit t apart el (put_property w l (key_of p (named t)) u) longer
                  (λ y other un. element_other o t v i (length_of o) y un
                  ∙ value_other o t v y other)
                  (put_told el (element_other o t v i (length_of o) (named t) (λ e. apart (sym e))
                  ∙ value_same o t v))
                  (subst (λ z. IsTrue (knows (with_object c a el) longer z))
                  (sym (element_length o t v i apart))
                  (knows-now c (with_object c a el) a (wrote_object c a o el there) longer
                  (after_element (property_of o length_name) i)
                  (longer_by (property_of o length_name) (inside_own length_name) long_known)));
            }

          element_by : (g : Option ℕ) → index_of t ≡ g
              → IsWritten (with_object c a (with_element o t v g))
          element_by (Some i) is = element_leaves i is
          element_by None is =
              plain_leaves no_length_write (ap (λ b. b && is_index_key p (key_of p (named t))) arr
              ∙ (index_key p t ∙ ap is_some is))

        -- ---- a length

        module _ (arr : is_array_label p l ≡ true) (t_is : t ≡ length_name) where
          key_is : IsTrue (same_key (key_of p (named t)) length_key)
          key_is =
              same_key_from (key_of p (named t)) length_key
              (ap (λ x. key_of p (named x)) t_is ∙ length_is)

          abbrev part : NumberPart
          part = (to_num u).value.number

          wrong_by : IsTrue ((to_num u).may_stop || ((to_num u).value.flags.nan
              || may_be_no_length part)) → LeavesBy (written c put_ends.RangeError)
          wrong_by e = (refl, record { array = arr; length = key_is; wrong = e })

          no_number : (z : ℤ) → IsTrue (number_has part z) → is_length z ≡ false
              → LeavesBy (written c put_ends.RangeError)
          no_number z has_it is =
              wrong_by (or_right (to_num u).may_stop _
              (or_right (to_num u).value.flags.nan _ (may_be_none part z has_it is)))

          a_number : (n : ℕ) → IsTrue (number_has part (pos n)) → nat_lt n (2 ^ 32) ≡ true
              → IsWritten (with_object c a (with_length o n))
          a_number n has_it fits_ =
              let m : AbstractProperty = put_property w l length_key (of_number_part part) in
              let now_len : Heap = with_object c a (with_length o n) in
              record {
                writes =
                    sets_at length_key m ∷ map (λ (j : Key). joins_at j absent_property)
                    (filter (λ (j : Key). may_be_cut part (index_of_key p j)) (index_keys p));
                writes_are =
                    cond-true _ (length_writes w l u) _ (and_from _ _ arr key_is)
                    ∙ cond-true (may_be_length part) _ None (may_be_one part n has_it fits_);
                suits =
                    all_suit n m part has_it (subst (λ z. IsTrue (knows now_len m z))
                    (sym (length_same o n)) (put_known now_len length_name length_key length_is
                    (subst (λ j. IsFilled w.entries (demands_of w.state l j))
                    (same_key-true (key_of p (named t)) length_key key_is) filled)
                    (of_number_part part) (whole_number n) has_it)) t t_is;
              }

          length_by : (q : Primitive) (x : Result Num Stop)
              → Covers (to_num u) (to_primitive primitive.Number x)
              → LeavesBy (put_length c a o (unsigned_number x))
          length_by q (Err stop) covers = wrong_by (or_left _ _ covers)
          length_by q (Ok NaN) covers =
              wrong_by (or_right (to_num u).may_stop _ (or_left _ _ covers))
          length_by q (Ok (Whole (negsuc n))) covers = no_number (negsuc n) covers refl
          length_by q (Ok (Whole (pos n))) covers =
              either_way (λ z. LeavesBy (put_length c a o z)) (nat_lt n (2 ^ 32)) (Some n) None
              (λ fits_. a_number n covers fits_) (λ no_fit. no_number (pos n) covers no_fit)

          length_leaves : (x : Value) → IsTrue (has_value c u x)
              → LeavesBy (put_length_value c a o x)
          length_leaves (value.Object b) h = tt
          length_leaves (value.Primitive q) h =
              length_by q (to_number q) (unary-covers to_num_atom
              (λ y. to_primitive primitive.Number (to_number y)) (to_num-covers) u q h)

        -- ---- any put

        array_leaves : is_array_label p l ≡ true → LeavesBy (put_array c a o t v)
        array_leaves arr =
            either_way LeavesBy (same_text t length_name) (put_length_value c a o v)
            (written (with_object c a (with_element o t v (index_of t))) put_ends.Done)
            (λ s. length_leaves arr (text_same t length_name s) v has)
            (λ s. element_by arr (λ is. false≢true (sym s
            ∙ (ap (λ x. same_text x length_name) is ∙ same_text_refl length_name)))
            (index_of t) refl)

        pub own_leaves : LeavesBy (put_own c a o t v)
        own_leaves =
            either_way LeavesBy (is_array o.class) (put_array c a o t v)
            (written (with_object c a (object_with_value o t v)) put_ends.Done)
            (λ s. array_leaves (sym array_is ∙ s))
            (λ s. plain_leaves (no_array (sym array_is ∙ s)
            (same_key (key_of p (named t)) length_key))
            (no_array (sym array_is ∙ s) (is_index_key p (key_of p (named t)))))
