-- Each object that a node makes is told of by its properties by key; activations and arguments
-- objects stand in a file of their own.
use Rattle.std.specs.Prelude.{◌≡◌, ◌<◌, ℕ, pos, false, IsTrue, List, [], ◌∷◌, length, slice_get, Some}
use Rattle.std.proofs.Common.{refl, sym, subst, arith}
use Rattle.std.proofs.lemmas.Bool.{false≢true, cond-false, false_from_ne_true, and_from}
use Rattle.std.proofs.lemmas.Cmp.{int_eq_equiv}
use lib.Chars.{codes}
use Rattle.ja_base.specs.declared.ids.FnId.{FnId}
use Rattle.ja_base.specs.declared.ids.Label.{Label}
use Rattle.ja_base.specs.declared.ids.NameId.{NameId}
use Rattle.ja_base.specs.declared.ids.Site.{Site}
use Rattle.ja_prim.specs.declared.primitive.Primitive.{Primitive}
use Rattle.ja_prim.specs.declared.primitive.Primitive.TheVariants as primitive
use Rattle.ja_prim.specs.declared.primitive.Num.TheVariants.{Whole}
use Rattle.ja_prim.specs.Index.{is_index}
use Rattle.ja_graph.specs.declared.attrs.Attrs.{Attrs}
use Rattle.ja_graph.specs.declared.attrs.TheConstants.{ALL_ATTRS, DONT_DELETE, DONT_ENUM, KEPT_HIDDEN, NO_ATTRS}
use Rattle.ja_graph.specs.declared.builtins.TheConstants as builtins
use Rattle.ja_graph.specs.declared.node.Made.{Made}
use Rattle.ja_graph.specs.declared.node.Made.TheVariants as made_kinds
use Rattle.ja_graph.specs.declared.node.ErrorKind.{ErrorKind}
use Rattle.ja_graph.specs.declared.node.ErrorKind.TheVariants as error_kind
use Rattle.ja_graph.specs.declared.program.Class.{Class}
use Rattle.ja_graph.specs.declared.program.Class.TheVariants as class
use Rattle.ja_graph.specs.declared.program.Program.{Program}
use Rattle.ja_graph.specs.WellFormed.{IsWellFormed, builtin_names}
use Rattle.ja_machine.specs.declared.machine.Addr.{Addr}
use Rattle.ja_machine.specs.declared.machine.Value.{Value}
use Rattle.ja_machine.specs.declared.machine.Value.TheVariants as value
use Rattle.ja_machine.specs.declared.machine.Object.{Object}
use Rattle.ja_machine.specs.declared.machine.Heap.{Heap}
use Rattle.ja_machine.specs.Heap.{count}
use Rattle.ja_machine.specs.Frames.{parameters_of}
use Rattle.ja_machine.specs.Objects.{first_of, error_object, empty_object, wrapper, text_length, scope_object, function_object, prototype_object, prototype_of_error, property_with}
use Rattle.ja_machine.specs.Writes.{length_name, whole_number}
use Rattle.ja_machine.specs.State.{IsHeap}
use Rattle.ja_abstract.specs.declared.abstraction.Key.{Key}
use Rattle.ja_abstract.specs.declared.abstraction.Key.TheVariants as key
use Rattle.ja_abstract.specs.declared.abstraction.TextPart.{TextPart}
use Rattle.ja_abstract.specs.declared.abstraction.TextPart.TheVariants as text_part
use Rattle.ja_abstract.specs.declared.abstraction.Slot.{Slot}
use Rattle.ja_abstract.specs.declared.abstraction.Slot.TheVariants as slot
use Rattle.ja_abstract.specs.AbstractValue.{Labels, AbstractValue, AbstractProperty, of_label, of_labels, of_primitive, no_value}
use Rattle.ja_abstract.specs.AbstractState.{new, same_key}
use Rattle.ja_abstract.specs.Contents.{SpotContent, object_content, label_of}
use Rattle.ja_abstract.specs.Keys.{named, internal, key_of, text_key}
use Rattle.ja_abstract.specs.Parts.{has_primitive, text_has}
use Rattle.ja_abstract.specs.Made.{own_of, slot_of, property_of, length_key, whole_constant, error_own, empty_own, wrapper_own, text_own, length_of_text, scope_own, function_own, prototype_own}
use Rattle.ja_abstract.proofs.Labels
use Rattle.ja_abstract.proofs.Texts
use Rattle.ja_abstract.proofs.Parts.{of_primitive_has, of_attrs_allows}
use Rattle.ja_abstract.proofs.Keys.{no_slot_of_text, same_key-true}
use Rattle.ja_abstract.proofs.Labels.{same_label_from}
use Rattle.ja_meaning.specs.Meaning.{has_value, knows}
use Rattle.ja_meaning.proofs.Contents
use Rattle.ja_meaning.proofs.Allocated.{IsMade}
use Rattle.ja_meaning.proofs.MadeOf.{IsMadeAs, named_made}
use Rattle.ja_meaning.proofs.Puts.{builtin_key}

abbrev pub prototype_name : NameId
prototype_name = record { 0 = 30 }

abbrev pub constructor_name : NameId
constructor_name = record { 0 = 31 }

module _ (p : Program) (good : IsWellFormed p) (now : Heap) where
  -- a property of a built-in name
  pub named_as : (n : NameId) (t : List ℕ) (k : Key) → k ≡ key.Name n
      → key_of p (named t) ≡ key.Name n → (v : Value) (u : AbstractValue) (attrs : Attrs)
      → IsTrue (has_value now u v) → IsMadeAs p now (property_with t v attrs)
      (property_of k u attrs)
  named_as n t k k_is t_is v u attrs has =
      record {
        name = n;
        key_is = k_is;
        name_is = t_is;
        known = and_from _ _ has
            (of_attrs_allows attrs);
      }

  pub builtin_as : (n : NameId) (t : List ℕ) → slice_get builtin_names n.0 ≡ Some t
      → (v : Value) (u : AbstractValue) (attrs : Attrs) → IsTrue (has_value now u v)
      → IsMadeAs p now (property_with t v attrs) (property_of (key.Name n) u attrs)
  builtin_as n t is v u attrs has =
      named_as n t (key.Name n) refl (builtin_key p good n t is) v u attrs has

  -- .. whose key is that of its text
  pub text_as : (n : NameId) (t : List ℕ) → slice_get builtin_names n.0 ≡ Some t
      → (v : Value) (u : AbstractValue) (attrs : Attrs) → IsTrue (has_value now u v)
      → IsMadeAs p now (property_with t v attrs) (property_of (text_key p t) u attrs)
  text_as n t is v u attrs has =
      named_as n t (text_key p t) (builtin_key p good n t is)
      (builtin_key p good n t is) v u attrs has

  -- ---- slots

  -- a text isn't a slot's
  not_slot : (s : Slot) (t : List ℕ) → same_key (key.Slot s) (key_of p (named t)) ≡ false
  not_slot s t =
      false_from_ne_true (same_key (key.Slot s) (key_of p (named t)))
      (λ e. no_slot_of_text p t s (sym (same_key-true (key.Slot s) (key_of p (named t)) e)))

  -- .. and a slot isn't a text's
  not_text : (t : List ℕ) (s : Slot) → same_key (key_of p (named t)) (key.Slot s) ≡ false
  not_text t s =
      false_from_ne_true (same_key (key_of p (named t)) (key.Slot s))
      (λ e. no_slot_of_text p t s (same_key-true (key_of p (named t)) (key.Slot s) e))

  -- a slot is passed by
  pub past_slot : (s : Slot) (q : AbstractProperty) (ks : List (Key × AbstractProperty))
      (t : List ℕ) (u : SpotContent) → IsTrue (knows now (own_of ks (key_of p (named t))) u)
      → IsTrue (knows now (own_of ((key.Slot s, q) ∷ ks) (key_of p (named t))) u)
  past_slot s q ks t u e =
      subst (λ z. IsTrue (knows now z u)) (sym (cond-false
      (same_key (key.Slot s) (key_of p (named t))) q (own_of ks (key_of p (named t)))
      (not_slot s t))) e

  -- .. and a text
  pub past_text : (s : Slot) (t : List ℕ) (q : AbstractProperty)
      (ks : List (Key × AbstractProperty)) (u : SpotContent)
      → IsTrue (knows now (own_of ks (key.Slot s)) u)
      → IsTrue (knows now (own_of ((text_key p t, q) ∷ ks) (key.Slot s)) u)
  past_text s t q ks u e =
      subst (λ z. IsTrue (knows now z u)) (sym (cond-false
      (same_key (key_of p (named t)) (key.Slot s)) q (own_of ks (key.Slot s)) (not_text t s))) e

  module _ (known : IsHeap p now) where
    -- the one object of an opening site
    pub first_has : (t : Site) → t.0 < length p.opening
        → IsTrue (has_value now (of_label (new t)) (value.Object (first_of t)))
    first_has t l =
        let one : count now t ≡ 1 = known.opening t l in
        same_label_from (new t) (label_of now (first_of t))
        (sym (Labels.same_parts (label_of now (first_of t)) (new t) refl
        (Contents.label_is_new now (first_of t) (omega arith))))

    fits : (n : ℕ) (c : Class) → slice_get builtins.BUILTIN_CLASSES n ≡ Some c
        → n < length p.opening
    fits n c is = let (info, info_is, class_is, fits_) = good.builtins n c is in fits_

    -- ---- the objects

    pub error_made : (proto : Site) (text : List ℕ) → proto.0 < length p.opening
        → IsMade p now (error_object proto text) (error_own proto text)
    error_made proto text l (internal slot.Prototype) = first_has proto l
    error_made proto text l (internal slot.Outer) = refl
    error_made proto text l (internal slot.Scope) = refl
    error_made proto text l (internal slot.Value) = refl
    error_made proto text l (named t) =
        past_slot slot.Prototype _ (property_of (key.Name builtins.MESSAGE)
        (of_primitive (primitive.Text text)) NO_ATTRS ∷ []) t
        (object_content (error_object proto text) (named t))
        (named_made p now (error_object proto text).properties
        (property_of (key.Name builtins.MESSAGE) (of_primitive (primitive.Text text)) NO_ATTRS
        ∷ []) (
          builtin_as builtins.MESSAGE (codes "message") refl (value.Primitive (primitive.Text text))
              (of_primitive (primitive.Text text)) NO_ATTRS
              (of_primitive_has (primitive.Text text)),
          tt,
        )
        t)

    error_fits : (kind : ErrorKind) → (prototype_of_error kind).0 < length p.opening
    error_fits error_kind.Error = fits builtins.ERROR_PROTOTYPE.0 class.Error refl
    error_fits error_kind.EvalError = fits builtins.EVAL_ERROR_PROTOTYPE.0 class.Error refl
    error_fits error_kind.RangeError = fits builtins.RANGE_ERROR_PROTOTYPE.0 class.Error refl
    error_fits error_kind.ReferenceError =
        fits builtins.REFERENCE_ERROR_PROTOTYPE.0 class.Error refl
    error_fits error_kind.SyntaxError = fits builtins.SYNTAX_ERROR_PROTOTYPE.0 class.Error refl
    error_fits error_kind.TypeError = fits builtins.TYPE_ERROR_PROTOTYPE.0 class.Error refl
    error_fits error_kind.URIError = fits builtins.URI_ERROR_PROTOTYPE.0 class.Error refl

    pub an_error : (kind : ErrorKind) (text : List ℕ)
        → IsMade p now (error_object (prototype_of_error kind) text)
        (error_own (prototype_of_error kind) text)
    an_error kind text = error_made (prototype_of_error kind) text (error_fits kind)

    pub empty_made : (kind : Made) → IsMade p now (empty_object kind) (empty_own kind)
    empty_made made_kinds.Object (internal slot.Prototype) =
        first_has builtins.OBJECT_PROTOTYPE (fits builtins.OBJECT_PROTOTYPE.0 class.Object refl)
    empty_made made_kinds.Object (internal slot.Outer) = refl
    empty_made made_kinds.Object (internal slot.Scope) = refl
    empty_made made_kinds.Object (internal slot.Value) = refl
    empty_made made_kinds.Object (named t) =
        past_slot slot.Prototype _ [] t (object_content (empty_object made_kinds.Object) (named t))
        refl
    empty_made made_kinds.Array (internal slot.Prototype) =
        first_has builtins.ARRAY_PROTOTYPE (fits builtins.ARRAY_PROTOTYPE.0 class.Array refl)
    empty_made made_kinds.Array (internal slot.Outer) = refl
    empty_made made_kinds.Array (internal slot.Scope) = refl
    empty_made made_kinds.Array (internal slot.Value) = refl
    empty_made made_kinds.Array (named t) =
        let ks : List (Key × AbstractProperty) =
        property_of length_key (of_primitive (primitive.Number (Whole (pos 0)))) KEPT_HIDDEN ∷
        [] in
        past_slot slot.Prototype _ ks t (object_content (empty_object made_kinds.Array) (named t))
        (named_made p now (empty_object made_kinds.Array).properties ks
        (builtin_as builtins.LENGTH length_name refl (whole_number 0) _ KEPT_HIDDEN refl, tt) t)
    empty_made (made_kinds.Error kind) (internal slot.Prototype) =
        first_has (prototype_of_error kind) (error_fits kind)
    empty_made (made_kinds.Error kind) (internal slot.Outer) = refl
    empty_made (made_kinds.Error kind) (internal slot.Scope) = refl
    empty_made (made_kinds.Error kind) (internal slot.Value) = refl
    empty_made (made_kinds.Error kind) (named t) =
        past_slot slot.Prototype _ [] t (object_content (empty_object (made_kinds.Error kind))
        (named t)) refl

    pub wrapper_made : (kind : Class) (proto : Site) (n : ℕ) (k : Class) → proto.0 ≡ n
        → slice_get builtins.BUILTIN_CLASSES n ≡ Some k → (q : Primitive) (v : AbstractValue)
        → IsTrue (has_primitive v q) → IsMade p now (wrapper kind proto q []) (wrapper_own proto v)
    wrapper_made kind proto n k n_is is q v has (internal slot.Prototype) =
        first_has proto (subst (λ z. z < length p.opening) (sym n_is) (fits n k is))
    wrapper_made kind proto n k n_is is q v has (internal slot.Outer) = refl
    wrapper_made kind proto n k n_is is q v has (internal slot.Scope) = refl
    wrapper_made kind proto n k n_is is q v has (internal slot.Value) = has
    wrapper_made kind proto n k n_is is q v has (named t) =
        past_slot slot.Prototype _ (slot_of (key.Slot slot.Value) v ∷ []) t
        (object_content (wrapper kind proto q []) (named t))
        (past_slot slot.Value _ [] t (object_content (wrapper kind proto q []) (named t)) refl)

    -- the length of a text: a class counts as an index, so the text has to be short
    length_has : (part : TextPart) (units : List ℕ) → IsTrue (text_has part units)
        → IsTrue (is_index (pos (length units))) → IsTrue
        (has_value now (length_of_text part) (whole_number (length units)))
    length_has text_part.Nothing units h short = absurd (false≢true h)
    length_has (text_part.One t) units h short =
        subst (λ z. IsTrue (has_value now (length_of_text (text_part.One t))
        (whole_number (length z)))) (Texts.text_same t units h) (int_eq_equiv.refl (pos (length t)))
    length_has text_part.IndexText units h short = short
    length_has text_part.OtherText units h short = short
    length_has text_part.Text units h short = short

    pub text_made : (units : List ℕ) (part : TextPart) → IsTrue (text_has part units)
        → IsTrue (is_index (pos (length units))) → IsMade p now
        (wrapper class.String builtins.STRING_PROTOTYPE (primitive.Text units) (text_length units))
        (text_own part)
    text_made units part has short (internal slot.Prototype) =
        first_has builtins.STRING_PROTOTYPE (fits builtins.STRING_PROTOTYPE.0 class.String refl)
    text_made units part has short (internal slot.Outer) = refl
    text_made units part has short (internal slot.Scope) = refl
    text_made units part has short (internal slot.Value) = has
    text_made units part has short (named t) =
        let o : Object =
        wrapper class.String builtins.STRING_PROTOTYPE (primitive.Text units)
        (text_length units) in
        let ks : List (Key × AbstractProperty) =
        property_of length_key (length_of_text part) ALL_ATTRS ∷ [] in
        past_slot slot.Prototype _ (slot_of (key.Slot slot.Value)
        (record no_value { text = part }) ∷ ks) t (object_content o (named t))
        (past_slot slot.Value _ ks t (object_content o (named t))
        (named_made p now (text_length units) ks (
          builtin_as builtins.LENGTH length_name refl
              (whole_number (length units)) (length_of_text part) ALL_ATTRS
              (length_has part units has short),
          tt,
        ) t))

    pub scope_made : (outer : Addr) (chain : Labels) → IsTrue (chain (label_of now outer))
        → IsMade p now (scope_object outer) (scope_own chain)
    scope_made outer chain has (internal slot.Prototype) =
        first_has builtins.OBJECT_PROTOTYPE (fits builtins.OBJECT_PROTOTYPE.0 class.Object refl)
    scope_made outer chain has (internal slot.Outer) = has
    scope_made outer chain has (internal slot.Scope) = refl
    scope_made outer chain has (internal slot.Value) = refl
    scope_made outer chain has (named t) =
        past_slot slot.Prototype _ (slot_of (key.Slot slot.Outer) (of_labels chain) ∷ []) t
        (object_content (scope_object outer) (named t))
        (past_slot slot.Outer _ [] t (object_content (scope_object outer) (named t)) refl)

    pub function_made : (function : FnId) (chain proto : Addr) (chains : Labels)
        (proto_label : Label) → IsTrue (chains (label_of now chain))
        → proto_label ≡ label_of now proto → IsMade p now
        (function_object (parameters_of p function) chain proto)
        (function_own p function chains proto_label)
    function_made function chain proto chains l has is (internal slot.Prototype) =
        first_has builtins.FUNCTION_PROTOTYPE
        (fits builtins.FUNCTION_PROTOTYPE.0 class.Function refl)
    function_made function chain proto chains l has is (internal slot.Outer) =
        past_text slot.Outer (codes "prototype") _ []
        (object_content (function_object (parameters_of p function) chain proto)
        (internal slot.Outer)) refl
    function_made function chain proto chains l has is (internal slot.Scope) = has
    function_made function chain proto chains l has is (internal slot.Value) =
        past_text slot.Value (codes "prototype") _ []
        (object_content (function_object (parameters_of p function) chain proto)
        (internal slot.Value)) refl
    function_made function chain proto chains l has is (named t) =
        let o : Object = function_object (parameters_of p function) chain proto in
        let n : ℕ = parameters_of p function in
        let ks : List (Key × AbstractProperty) =
        property_of length_key (whole_constant n) ALL_ATTRS ∷ property_of
        (text_key p (codes "prototype")) (of_label l) DONT_DELETE ∷ [] in
        past_slot slot.Prototype _ (slot_of (key.Slot slot.Scope) (of_labels chains) ∷ ks) t
        (object_content o (named t)) (past_slot slot.Scope _ ks t (object_content o (named t))
        (named_made p now o.properties ks (
          builtin_as builtins.LENGTH length_name refl
              (whole_number n) (whole_constant n) ALL_ATTRS (int_eq_equiv.refl (pos n)),
          (
            text_as prototype_name (codes "prototype") refl (value.Object proto)
                (of_label l) DONT_DELETE (same_label_from l (label_of now proto) is),
            tt,
          ),
        ) t))

    pub prototype_made : (function : Addr) (l : Label) → l ≡ label_of now function
        → IsMade p now (prototype_object function) (prototype_own p l)
    prototype_made function l is (internal slot.Prototype) =
        first_has builtins.OBJECT_PROTOTYPE (fits builtins.OBJECT_PROTOTYPE.0 class.Object refl)
    prototype_made function l is (internal slot.Outer) =
        past_text slot.Outer (codes "constructor") _ []
        (object_content (prototype_object function) (internal slot.Outer)) refl
    prototype_made function l is (internal slot.Scope) =
        past_text slot.Scope (codes "constructor") _ []
        (object_content (prototype_object function) (internal slot.Scope)) refl
    prototype_made function l is (internal slot.Value) =
        past_text slot.Value (codes "constructor") _ []
        (object_content (prototype_object function) (internal slot.Value)) refl
    prototype_made function l is (named t) =
        let ks : List (Key × AbstractProperty) =
        property_of (text_key p (codes "constructor")) (of_label l) DONT_ENUM ∷ [] in
        past_slot slot.Prototype _ ks t (object_content (prototype_object function) (named t))
        (named_made p now (prototype_object function).properties ks (
          text_as constructor_name (codes "constructor") refl (value.Object function)
              (of_label l) DONT_ENUM (same_label_from l (label_of now function) is),
          tt,
        ) t)
