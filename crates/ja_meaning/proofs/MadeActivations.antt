-- Activations and arguments objects are told of by their properties by key.
use Rattle.std.specs.Prelude.{◌≡◌, ◌<◌, ◌≤◌, ◌+◌, ◌++◌, ℕ, ℤ, zero, suc, pos, nat_lt, Bool, true, false, if◌then◌else◌, IsTrue, List, [], ◌∷◌, map, drop, length, find, slice_get, Option, Some, None, unwrap_or, is_some, IsSome}
use Rattle.std.specs.List.{range_with_len}
use Rattle.std.specs.Option.{option_map, option_map_or}
use Rattle.std.proofs.Common.{refl, sym, subst, ap, ◌∙◌, inl, inr, arith, append_assoc, append-nil}
use Rattle.std.proofs.lemmas.Bool.{false≢true, cases_eq, cases_lt, cond-true, cond-false, false_from_ne_true, and_from, lt-ltb, le-ltb}
use Rattle.std.proofs.lemmas.Option.{none-some, same_Some}
use lib.Chars.{codes}
use Rattle.ja_base.specs.declared.ids.FnId.{FnId}
use Rattle.ja_base.specs.declared.ids.NameId.{NameId}
use Rattle.ja_base.specs.declared.ids.Site.{Site}
use Rattle.ja_base.proofs.Lists.{within_from_some}
use Rattle.ja_prim.specs.declared.primitive.Num.TheVariants.{Whole}
use Rattle.ja_prim.specs.declared.primitive.Primitive.TheVariants as primitive
use Rattle.ja_prim.specs.Conversions.{index_of}
use Rattle.ja_prim.specs.Texts.{same_text}
use Rattle.ja_graph.specs.declared.attrs.TheConstants.{DONT_DELETE, DONT_ENUM}
use Rattle.ja_graph.specs.declared.builtins.TheConstants as builtins
use Rattle.ja_graph.specs.declared.program.Class.TheVariants as class
use Rattle.ja_graph.specs.declared.program.Program.{Program}
use Rattle.ja_graph.specs.WellFormed.{IsWellFormed}
use Rattle.ja_machine.specs.declared.machine.Addr.{Addr}
use Rattle.ja_machine.specs.declared.machine.Value.{Value}
use Rattle.ja_machine.specs.declared.machine.Value.TheVariants as value
use Rattle.ja_machine.specs.declared.machine.Object.{Object}
use Rattle.ja_machine.specs.declared.machine.Property.{Property}
use Rattle.ja_machine.specs.declared.machine.Heap.{Heap}
use Rattle.ja_machine.specs.Frames.{argument, parameters_of}
use Rattle.ja_machine.specs.Nodes.{name_text}
use Rattle.ja_machine.specs.Objects.{activation, arguments_object, with_elements, argument_element, index_text, with_parameters, with_property, property_with}
use Rattle.ja_machine.specs.Writes.{length_name, whole_number}
use Rattle.ja_machine.specs.State.{IsHeap}
use Rattle.ja_abstract.specs.declared.abstraction.Key.{Key}
use Rattle.ja_abstract.specs.declared.abstraction.Key.TheVariants as key
use Rattle.ja_abstract.specs.declared.abstraction.Slot.{Slot}
use Rattle.ja_abstract.specs.declared.abstraction.Slot.TheVariants as slot
use Rattle.ja_abstract.specs.AbstractValue.{AbstractProperty, join_properties, of_label, of_attrs, absent_property}
use Rattle.ja_abstract.specs.AbstractState.{AbstractState, new, same_key}
use Rattle.ja_abstract.specs.Resolved.{join_all}
use Rattle.ja_abstract.specs.Contents.{SpotContent, missing, present, object_content, property_content, label_of}
use Rattle.ja_abstract.specs.Keys.{named, internal, key_of, is_index_key}
use Rattle.ja_abstract.specs.Made.{own_of, property_of, inherits, length_key, parameter_register, rest_register, count_register, parameter_properties, parameter_ids, activation_own, if_reached, argument_property, index_property, arguments_own, one_number}
use Rattle.ja_abstract.proofs.Texts.{text_same, same_text_refl}
use Rattle.ja_abstract.proofs.Parts.{of_attrs_allows}
use Rattle.ja_abstract.proofs.Keys.{text_of_key, no_slot_of_text, same_key-true}
use Rattle.ja_abstract.proofs.IndexTexts.{index_of_text, text_of_index}
use Rattle.ja_meaning.specs.Meaning.{has_value, knows}
use Rattle.ja_meaning.proofs.Values.{knows-join_left, knows-join_right}
use Rattle.ja_meaning.proofs.Allocated.{IsMade}
use Rattle.ja_meaning.proofs.Bound.{with_property-same, with_property-other, AreNames, AreHeld, Tell, bound_one, bound_all}
use Rattle.ja_meaning.proofs.Grown.{value_is}
use Rattle.ja_meaning.proofs.MadeObjects.{past_slot, builtin_as, first_has}
use Rattle.ja_meaning.proofs.MadeOf.{named_made}
use Rattle.ja_meaning.proofs.Puts.{builtin_key, index_key}

-- ---- the parameters

module _ (p : Program) (good : IsWellFormed p) (now : Heap) (a : AbstractState) where
  -- the registers hold the arguments, one by one
  pub held_all : (t : List ℕ) (ns : List NameId) (j : ℕ) (arguments : List Value)
      → ((n : ℕ) → n < length ns → IsTrue (has_value now (a.register (5 + (j + n)))
      (argument arguments n))) → AreHeld p good now a t j ns arguments
  held_all t [] j arguments each = tt
  held_all t (m ∷ ms) j arguments each = (
    subst (λ z. IsTrue (has_value now (a.register z) (argument arguments 0)))
        (let q : 5 + (j + 0) ≡ 5 + j = omega arith in q) (each 0 (omega arith)),
    held_all t ms (j + 1) (drop 1 arguments) (λ n l. subst
        (λ z. IsTrue (has_value now (a.register z) (argument (drop 1 arguments) n)))
        (let q : 5 + (j + suc n) ≡ 5 + (j + 1 + n) = omega arith in q)
        (subst (λ v. IsTrue (has_value now (a.register (5 + (j + suc n))) v)) (dropped arguments n)
        (each (suc n) (omega arith)))),
  )
    where
      dropped : (vs : List Value) (n : ℕ) → argument vs (suc n) ≡ argument (drop 1 vs) n
      dropped [] n = refl
      dropped (v ∷ vs) n = refl

  -- no parameter is a slot's
  slot_absent : (ns : List NameId) (j : ℕ) (s : Slot) (ys : List (Key × AbstractProperty))
      → IsTrue (knows now (own_of ys (key.Slot s)) missing)
      → IsTrue (knows now (own_of (parameter_properties a j ns ++ ys) (key.Slot s)) missing)
  slot_absent [] j s ys e = e
  slot_absent (n ∷ ns) j s ys e =
      let y : Key × AbstractProperty =
      property_of (key.Name n) (a.register (parameter_register j)) DONT_DELETE in
      let other : same_key (key.Name n) (key.Slot s) ≡ false =
      false_from_ne_true (same_key (key.Name n) (key.Slot s))
      (λ same. let is : key.Name n ≡ key.Slot s = same_key-true (key.Name n)
      (key.Slot s) same in cc) in
      subst (λ zs. IsTrue (knows now (own_of zs (key.Slot s)) missing))
      (sym (append_assoc (parameter_properties a (j + 1) ns) (y ∷ []) ys))
      (slot_absent ns (j + 1) s (y ∷ ys) (subst (λ z. IsTrue (knows now z missing))
      (sym (cond-false (same_key (key.Name n) (key.Slot s)) y.1 (own_of ys (key.Slot s)) other)) e))

  slots_absent : (ns : List NameId) (s : Slot)
      → IsTrue (knows now (own_of (parameter_properties a 0 ns) (key.Slot s)) missing)
  slots_absent ns s =
      subst (λ zs. IsTrue (knows now (own_of zs (key.Slot s)) missing))
      (append-nil (parameter_properties a 0 ns)) (slot_absent ns 0 s [] refl)

  module _ (f : FnId) (outer : Addr) (arguments : List Value) (flags : List Bool)
      (chain_has : IsTrue ((a.register 2).label (label_of now outer)))
      (names : (t : List ℕ) → AreNames p good now a t (parameter_ids p f))
      (each : (n : ℕ) → n < length (parameter_ids p f)
      → IsTrue (has_value now (a.register (5 + n)) (argument arguments n))) where
    abbrev ns : List NameId
    ns = parameter_ids p f

    abbrev bound : List Property
    bound = with_parameters [] (map (name_text p) ns) arguments flags

    bound_told : (t : List ℕ) → Tell p good now a t (parameter_properties a 0 ns) bound
    bound_told t =
        subst (λ zs. Tell p good now a t zs bound) (append-nil (parameter_properties a 0 ns))
        (bound_all p good now a t ns 0 arguments flags (names t)
        (held_all t ns 0 arguments (λ n l. subst (λ z. IsTrue
        (has_value now (a.register (5 + z)) (argument arguments n)))
        (let q : n ≡ 0 + n = omega arith in q) (each n l))) [] [] refl)

    pub activation_made : IsMade p now (activation outer bound) (activation_own p f None a)
    activation_made (internal slot.Prototype) = slots_absent ns slot.Prototype
    activation_made (internal slot.Outer) = chain_has
    activation_made (internal slot.Scope) = slots_absent ns slot.Scope
    activation_made (internal slot.Value) = slots_absent ns slot.Value
    activation_made (named t) =
        past_slot p good now slot.Outer _ (parameter_properties a 0 ns) t
        (object_content (activation outer bound) (named t)) (bound_told t)

    -- .. with an arguments object
    module _ (list : Site) (d : Addr) (is_new : IsTrue
        (has_value now (of_label (new list)) (value.Object d))) where
      abbrev with_list : List Property
      with_list =
          with_property bound (property_with (codes "arguments") (value.Object d) DONT_DELETE)

      arguments_text : name_text p builtins.ARGUMENTS ≡ codes "arguments"
      arguments_text =
          text_of_key p (codes "arguments") builtins.ARGUMENTS
          (builtin_key p good builtins.ARGUMENTS (codes "arguments") refl)

      list_told : (t : List ℕ) → builtins.ARGUMENTS.0 < length p.names
          → Tell p good now a t (property_of (key.Name builtins.ARGUMENTS)
          (of_label (new list)) DONT_DELETE ∷ parameter_properties a 0 ns) with_list
      list_told t l =
          subst (λ u. Tell p good now a t (property_of (key.Name builtins.ARGUMENTS)
          (of_label (new list)) DONT_DELETE ∷ parameter_properties a 0 ns)
          (with_property bound (property_with u (value.Object d) DONT_DELETE))) arguments_text
          (bound_one p good now a t builtins.ARGUMENTS l (of_label (new list))
          (value.Object d) false is_new (parameter_properties a 0 ns) bound (bound_told t))

      pub listed_activation_made : builtins.ARGUMENTS.0 < length p.names
          → IsMade p now (activation outer with_list) (activation_own p f (Some list) a)
      listed_activation_made l (internal slot.Prototype) = slots_absent ns slot.Prototype
      listed_activation_made l (internal slot.Outer) = chain_has
      listed_activation_made l (internal slot.Scope) = slots_absent ns slot.Scope
      listed_activation_made l (internal slot.Value) = slots_absent ns slot.Value
      listed_activation_made l (named t) =
          past_slot p good now slot.Outer _ (property_of (key.Name builtins.ARGUMENTS)
          (of_label (new list)) DONT_DELETE ∷ parameter_properties a 0 ns) t
          (object_content (activation outer with_list) (named t)) (list_told t l)

-- ---- the arguments object

-- the elements from an index on, at a text
abbrev found : List ℕ → List Property → Option Property
found t qs = find (λ (q : Property). same_text q.name t) qs

-- at a text that names none of the elements there is what was before
passed :
    (t : List ℕ) (qs : List Property) (i : ℕ) (vs : List Value) (flags : List Bool)
    → ((k : ℕ) → i ≤ k → k < i + length vs → same_text (index_text k) t ≡ false)
    → found t (with_elements qs i vs flags) ≡ found t qs
passed t qs i [] flags others = refl
passed t qs i (v ∷ vs) flags others =
    passed t (with_property qs (argument_element i v flags)) (i + 1) vs (drop 1 flags)
    (λ k low high. others k (omega arith) (omega arith))
    ∙ with_property-other qs (argument_element i v flags) t (others i (omega arith) (omega arith))

-- a text that is no index's names none
no_element :
    (t : List ℕ) → index_of t ≡ None → (k : ℕ) → k < 4294967295
    → same_text (index_text k) t ≡ false
no_element t none k few =
    false_from_ne_true (same_text (index_text k) t)
    (λ s. none-some k (sym none ∙ (ap index_of (sym (text_same (index_text k) t s))
    ∙ index_of_text k (lt-ltb k 4294967295 few))))

-- the text of an index names no other element
other_element :
    (t : List ℕ) (n : ℕ) → index_of t ≡ Some n → (k : ℕ) → k < 4294967295 → (k ≡ n → ⊥)
    → same_text (index_text k) t ≡ false
other_element t n is k few apart =
    false_from_ne_true (same_text (index_text k) t)
    (λ s. let q : Some k ≡ Some n = sym (index_of_text k (lt-ltb k 4294967295 few))
    ∙ (ap index_of (text_same (index_text k) t s) ∙ is) in apart (same_Some k n q))

-- the index of a text names the element at its place
element_at :
    (t : List ℕ) (n : ℕ) → index_of t ≡ Some n → (qs : List Property) (i j : ℕ) → n ≡ i + j
    → (vs : List Value) (flags : List Bool) → i + length vs ≤ 4294967295
    → property_content (found t (with_elements qs i vs flags))
    ≡ option_map_or (λ (v : Value). present v DONT_ENUM) (slice_get vs j)
    (property_content (found t qs))
element_at t n is qs i j at [] flags few = refl
element_at t n is qs i zero at (v ∷ vs) flags few =
    let e = argument_element i v flags in
    let same : same_text (index_text i) t ≡ true =
    subst (λ u. same_text (index_text i) u ≡ true)
    (ap index_text (let q : i ≡ n = omega arith in q) ∙ text_of_index t n is)
    (same_text_refl (index_text i)) in
    ap property_content (passed t (with_property qs e) (i + 1) vs (drop 1 flags)
    (λ k low high. other_element t n is k (omega arith) (λ q. omega arith))
    ∙ with_property-same qs e t same)
element_at t n is qs i (suc j) at (v ∷ vs) flags few =
    let e = argument_element i v flags in
    let differs : same_text (index_text i) t ≡ false =
    other_element t n is i (omega arith) (λ q. omega arith) in
    element_at t n is (with_property qs e) (i + 1) j (omega arith) vs (drop 1 flags) (omega arith)
    ∙ ap (λ o. option_map_or (λ (u : Value). present u DONT_ENUM) (slice_get vs j)
    (property_content o)) (with_property-other qs e t differs)

-- a join over a range knows what one of its members does
knows-range : (h : Heap) (f : ℕ → AbstractProperty) (x : SpotContent) (a n j : ℕ) → a ≤ j
    → j < a + n → IsTrue (knows h (f j) x) → IsTrue
    (knows h (join_all (map f (range_with_len a n))) x)
knows-range h f x a zero j l m e = absurd (omega arith)
knows-range h f x a (suc n) j l m e =
    elim (cases_eq a j) [
      | inl same ↦
          knows-join_left h (f a) (join_all (map f (range_with_len (a + 1) n))) x
          (subst (λ i. IsTrue (knows h (f i) x)) (sym same) e)
      | inr ne ↦
          knows-join_right h (f a) (join_all (map f (range_with_len (a + 1) n))) x
          (knows-range h f x (a + 1) n j (omega arith) (omega arith) e)
    ]

module _ (p : Program) (good : IsWellFormed p) (now : Heap) (known : IsHeap p now)
    (a : AbstractState) (f : FnId) (arguments : List Value) (flags : List Bool)
    (few : length arguments ≤ 4294967295) (callee : Value)
    (callee_has : IsTrue (has_value now (a.register 3) callee))
    (count_has : IsTrue (has_value now (a.register count_register)
    (whole_number (length arguments)))) (each : (n : ℕ) (v : Value) → slice_get arguments n ≡ Some v
    → IsTrue (has_value now (if nat_lt n (parameters_of p f) then a.register
    (parameter_register n) else a.register (rest_register (parameters_of p f))) v)) where
  abbrev params : ℕ
  params = parameters_of p f

  abbrev o : Object
  o = arguments_object callee arguments flags

  abbrev one : Option ℤ
  one = one_number p (a.register count_register)

  abbrev at_index : ℕ → SpotContent
  at_index i = option_map_or (λ (v : Value). present v DONT_ENUM) (slice_get arguments i) missing

  -- the count, where it is one number
  count_is : (z : ℤ) → one ≡ Some z → z ≡ pos (length arguments)
  count_is z is =
      let w : whole_number (length arguments) ≡ value.Primitive
      (primitive.Number (Whole z)) = value_is p now known (a.register count_register) z is
      (whole_number (length arguments)) tt count_has in cc

  -- at an index the property of its argument, or of the rest, knows what is there
  reached_some : (i j : ℕ) (v : Value) (c : Option ℤ) → one ≡ c → i < length arguments → j ≤ i
      → IsTrue (has_value now (if nat_lt j params then a.register
      (parameter_register j) else a.register (rest_register params)) v)
      → IsTrue (knows now (if_reached c j (record {
        value = if nat_lt j params then a.register
            (parameter_register j) else a.register (rest_register params);
        attrs = of_attrs DONT_ENUM;
      }))
      (present v DONT_ENUM))
  reached_some i j v None is below le has =
      knows-join_left now (record {
        value = if nat_lt j params then a.register
            (parameter_register j) else a.register (rest_register params);
        attrs = of_attrs DONT_ENUM;
      })
      absent_property (present v DONT_ENUM) (and_from _ _ has (of_attrs_allows DONT_ENUM))
  reached_some i j v (Some z) is below le has =
      subst (λ y. IsTrue (knows now (if_reached (Some y) j
      (record {
        value = if nat_lt j params then a.register (parameter_register j) else a.register
            (rest_register params);
        attrs = of_attrs DONT_ENUM;
      })) (present v DONT_ENUM)))
      (sym (count_is z is))
      (subst (λ q. IsTrue (knows now q (present v DONT_ENUM)))
      (sym (cond-true (nat_lt j (length arguments))
      (record {
        value = if nat_lt j params then a.register (parameter_register j) else a.register
            (rest_register params);
        attrs = of_attrs DONT_ENUM;
      }) absent_property
      (lt-ltb j (length arguments) (omega arith)))) (and_from _ _ has (of_attrs_allows DONT_ENUM)))

  reached_none : (j : ℕ) (q : AbstractProperty) (c : Option ℤ) → one ≡ c → length arguments ≤ j
      → IsTrue (knows now (if_reached c j q) missing)
  reached_none j q None is past = knows-join_right now q absent_property missing refl
  reached_none j q (Some z) is past =
      subst (λ y. IsTrue (knows now (if_reached (Some y) j q) missing)) (sym (count_is z is))
      (subst (λ q. IsTrue (knows now q missing))
      (sym (cond-false (nat_lt j (length arguments)) q absent_property
      (le-ltb j (length arguments) (omega arith)))) refl)

  within : (i : ℕ) (v : Value) → slice_get arguments i ≡ Some v → i < length arguments
  within i v is = within_from_some arguments i (subst (λ o. IsSome o) (sym is) refl)

  past : (vs : List Value) (i : ℕ) → slice_get vs i ≡ None → length vs ≤ i
  past [] i is = omega arith
  past (v ∷ vs) zero is = absurd (none-some v (sym is))
  past (v ∷ vs) (suc i) is = let k = past vs i is in omega (arith, k)

  one_index : (i : ℕ) (g : Option Value) → slice_get arguments i ≡ g
      → IsTrue (knows now (argument_property p f a i)
      (option_map_or (λ (v : Value). present v DONT_ENUM) g missing))
  one_index i (Some v) is = reached_some i i v one refl (within i v is) (omega arith) (each i v is)
  one_index i None is = reached_none i _ one refl (past arguments i is)

  -- of an index beyond the parameters the rest tells
  any_index : (i : ℕ) (g : Option Value) → slice_get arguments i ≡ g
      → IsTrue (knows now (join_properties absent_property
      (join_all (map (argument_property p f a) (range_with_len 0 (params + 1)))))
      (option_map_or (λ (v : Value). present v DONT_ENUM) g missing))
  any_index i None is =
      knows-join_left now absent_property (join_all
      (map (argument_property p f a) (range_with_len 0 (params + 1)))) missing refl
  any_index i (Some v) is =
      knows-join_right now absent_property (join_all
      (map (argument_property p f a) (range_with_len 0 (params + 1)))) (present v DONT_ENUM)
      (elim (cases_lt i params) [
        | inl less ↦
            knows-range now (argument_property p f a) (present v DONT_ENUM) 0 (params + 1) i
            (omega arith) (omega arith) (one_index i (Some v) is)
        | inr more ↦
            knows-range now (argument_property p f a) (present v DONT_ENUM) 0 (params + 1) params
            (omega arith) (omega arith)
            (reached_some i params v one refl (within i v is) (omega arith)
            (subst (λ u. IsTrue (has_value now u v))
            (cond-false (nat_lt i params) _ (a.register (rest_register params))
            (le-ltb i params (omega arith)) ∙ sym (cond-false (nat_lt params params) _
            (a.register (rest_register params)) (le-ltb params params (omega arith))))
            (each i v is)))
      ])

  -- by the key of an index's text
  by_key : (t : List ℕ) (i : ℕ) → index_of t ≡ Some i → (k : Key) → key_of p (named t) ≡ k
      → IsTrue (knows now (arguments_own p f a k) (at_index i))
  by_key t i is (key.Name n) k_is =
      subst (λ o. IsTrue (knows now (unwrap_or (option_map (argument_property p f a) o)
      (own_of (inherits builtins.OBJECT_PROTOTYPE ∷ property_of (key.Name builtins.CALLEE)
      (a.register 3) DONT_ENUM ∷ property_of length_key (a.register count_register) DONT_ENUM ∷ [])
      (key.Name n))) (at_index i))) (sym (ap index_of (text_of_key p t n k_is) ∙ is))
      (one_index i (slice_get arguments i) refl)
  by_key t i is key.OtherIndex k_is = any_index i (slice_get arguments i) refl
  by_key t i is key.OtherName k_is =
      absurd (false≢true (ap (is_index_key p) (sym k_is) ∙ (index_key p t ∙ ap is_some is)))
  by_key t i is (key.Slot s) k_is = absurd (no_slot_of_text p t s k_is)

  abbrev fixed : List (Key × AbstractProperty)
  fixed =
      property_of (key.Name builtins.CALLEE) (a.register 3) DONT_ENUM ∷ property_of length_key
      (a.register count_register) DONT_ENUM ∷ []

  abbrev first_two : List Property
  first_two =
      property_with (codes "callee") callee DONT_ENUM ∷ property_with length_name
      (whole_number (length arguments)) DONT_ENUM ∷ []

  other_key : (t : List ℕ) → index_of t ≡ None → (k : Key) → key_of p (named t) ≡ k
      → index_property p f a k ≡ None
  other_key t none (key.Name n) k_is =
      ap (option_map (argument_property p f a)) (ap index_of (text_of_key p t n k_is) ∙ none)
  other_key t none key.OtherIndex k_is =
      absurd (false≢true (sym (ap is_some none) ∙ (sym (index_key p t) ∙ ap (is_index_key p) k_is)))
  other_key t none key.OtherName k_is = refl
  other_key t none (key.Slot s) k_is = refl

  -- two properties are passed by
  two_passed : (x y : Property) (t : List ℕ) → same_text x.name t ≡ false
      → same_text y.name t ≡ false → found t (x ∷ y ∷ []) ≡ None
  two_passed x y t a_ b_ =
      cond-false (same_text x.name t) (Some x) _ a_ ∙ cond-false (same_text y.name t) (Some y) _ b_

  not_named : (u t : List ℕ) (i : ℕ) → index_of u ≡ None → index_of t ≡ Some i
      → same_text u t ≡ false
  not_named u t i none is =
      false_from_ne_true (same_text u t) (λ s. none-some i
      (sym none ∙ (ap index_of (text_same u t s) ∙ is)))

  by_index : (t : List ℕ) (g : Option ℕ) → index_of t ≡ g
      → IsTrue (knows now (arguments_own p f a (key_of p (named t)))
      (property_content (found t o.properties)))
  by_index t (Some i) is =
      let none : found t first_two ≡ None =
      two_passed (property_with (codes "callee") callee DONT_ENUM)
      (property_with length_name (whole_number (length arguments)) DONT_ENUM) t
      (not_named (codes "callee") t i refl is) (not_named length_name t i refl is) in
      subst (λ x. IsTrue (knows now (arguments_own p f a (key_of p (named t))) x))
      (sym (element_at t i is first_two 0 i (omega arith) arguments flags (omega arith)
      ∙ ap (λ o. option_map_or (λ (v : Value). present v DONT_ENUM) (slice_get arguments i)
      (property_content o)) none))
      (by_key t i is (key_of p (named t)) refl)
  by_index t None none =
      subst (λ q. IsTrue (knows now (unwrap_or q
      (own_of (inherits builtins.OBJECT_PROTOTYPE ∷ fixed) (key_of p (named t))))
      (property_content (found t o.properties)))) (sym (other_key t none (key_of p (named t)) refl))
      (past_slot p good now slot.Prototype _ fixed t (property_content (found t o.properties))
      (subst (λ x. IsTrue (knows now (own_of fixed (key_of p (named t))) (property_content x)))
      (sym (passed t first_two 0 arguments flags (λ k low high. no_element t none k (omega arith))))
      (named_made p now first_two fixed (
        builtin_as p good now builtins.CALLEE
            (codes "callee") refl callee (a.register 3) DONT_ENUM callee_has,
        (
          builtin_as p good now builtins.LENGTH length_name refl (whole_number (length arguments))
              (a.register count_register) DONT_ENUM count_has,
          tt,
        ),
      ) t)))

  pub arguments_made : IsMade p now o (arguments_own p f a)
  arguments_made (internal slot.Prototype) =
      first_has p good now known builtins.OBJECT_PROTOTYPE
      (let (info, info_is, class_is, fits_) =
      good.builtins builtins.OBJECT_PROTOTYPE.0 class.Object refl in
      fits_)
  arguments_made (internal slot.Outer) = refl
  arguments_made (internal slot.Scope) = refl
  arguments_made (internal slot.Value) = refl
  arguments_made (named t) = by_index t (index_of t) refl
