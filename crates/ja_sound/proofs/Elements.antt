-- Arguments that are the elements of an object, and those of the frame from the second on: what the
-- rows give has each of them (ES3 10.1.8, 15.3.4.3).
use Rattle.std.specs.Prelude.{◌≡◌, ◌<◌, ◌≤◌, ◌+◌, ◌-◌, ℕ, zero, suc, ℤ, pos, negsuc, Bool, IsTrue, List, [], ◌∷◌, map, drop, length, slice_get, unwrap_or, is_some, Option, Some, None, Result, Ok, Err}
use Rattle.std.specs.List.{range_with_len}
use Rattle.std.specs.Option.{option_map}
use Rattle.std.proofs.Common.{refl, sym, subst, ap, ◌∙◌, arith}
use Rattle.std.proofs.lemmas.Bool.{lt-ltb, or_left, or_right, and_parts, cond-true}
use Rattle.std.proofs.lemmas.Cmp.{int_eq_equiv}
use Rattle.std.proofs.lemmas.List.FromFn.{length-map-range_with_len}
use Rattle.std.proofs.lemmas.Option.{none-some, same_Some, slice_get_within}
use Rattle.ja_base.specs.declared.ids.ScopeKind.{ScopeKind}
use Rattle.ja_base.specs.declared.ids.ScopeKind.TheVariants.{Register}
use Rattle.ja_prim.specs.declared.primitive.Num.{Num}
use Rattle.ja_prim.specs.declared.primitive.Num.TheVariants.{Whole}
use Rattle.ja_prim.specs.declared.primitive.Primitive.{Primitive}
use Rattle.ja_prim.specs.declared.primitive.Primitive.TheVariants as primitive
use Rattle.ja_prim.specs.declared.stop.Stop.{Stop}
use Rattle.ja_prim.specs.Bits.{to_uint32}
use Rattle.ja_prim.specs.Conversions.{to_number}
use Rattle.ja_prim.proofs.Bitwise.{uint32_below}
use Rattle.ja_graph.specs.declared.attrs.Attrs.{Attrs}
use Rattle.ja_graph.specs.declared.program.Program.{Program}
use Rattle.ja_graph.specs.WellFormed.{IsWellFormed}
use Rattle.ja_machine.specs.declared.machine.Addr.{Addr}
use Rattle.ja_machine.specs.declared.machine.Value.{Value}
use Rattle.ja_machine.specs.declared.machine.Value.TheVariants as value
use Rattle.ja_machine.specs.declared.machine.Content.{Content}
use Rattle.ja_machine.specs.declared.machine.Content.TheVariants as contents
use Rattle.ja_machine.specs.declared.machine.Property.{Property}
use Rattle.ja_machine.specs.declared.machine.Heap.{Heap}
use Rattle.ja_machine.specs.declared.machine.Frame.{Frame}
use Rattle.ja_machine.specs.Calls as machine
use Rattle.ja_machine.specs.Calls.{ArgumentsRead, element, with_first, all_given, unsigned_count, elements_up_to, has_elements_at}
use Rattle.ja_machine.specs.Frames.{undefined, argument, parameters_of}
use Rattle.ja_machine.specs.Heap as heap
use Rattle.ja_machine.specs.Heap.{content_at}
use Rattle.ja_machine.specs.Objects.{index_text}
use Rattle.ja_machine.specs.State.{IsHeap, IsFrame, IsObjectOf, IsContentOf}
use Rattle.ja_machine.specs.Writes.{length_name, whole_number}
use Rattle.ja_machine.proofs.Lists.{either_way, slice_get-map_range}
use Rattle.ja_machine.proofs.Reading.{content_found}
use Rattle.ja_abstract.specs.declared.abstraction.Key.{Key}
use Rattle.ja_abstract.specs.AbstractState.{keys_of}
use Rattle.ja_abstract.specs.AbstractValue.{AbstractValue, AbstractProperty, join, no_value, undefined_value}
use Rattle.ja_abstract.specs.Contents.{label_of, property_content, content_of}
use Rattle.ja_abstract.specs.Keys.{named, key_of, is_index_key, index_keys, is_among_keys}
use Rattle.ja_abstract.specs.Made.{whole_constant, length_key, one_number, rest_register, count_register}
use Rattle.ja_abstract.specs.Primitives as primitives
use Rattle.ja_abstract.specs.Primitives.{whole_value}
use Rattle.ja_abstract.specs.Reading.{View, get, demands_of_get}
use Rattle.ja_abstract.specs.Resolved.{IsFilled}
use Rattle.ja_abstract.specs.Values.{has_labels, value_if, primitives_of, as_read}
use Rattle.ja_abstract.specs.Writes.{has_some_part}
use Rattle.ja_abstract.proofs.Among.{among-filter, text_among}
use Rattle.ja_abstract.proofs.Converted.{count-has}
use Rattle.ja_abstract.proofs.IndexTexts.{index_of_text}
use Rattle.ja_abstract.proofs.Keys.{same_key_from}
use Rattle.ja_meaning.specs.Meaning.{has_value, knows}
use Rattle.ja_meaning.proofs.Held.{HoldsOfFrame}
use Rattle.ja_meaning.proofs.Gets.{get_known, some_label-object}
use Rattle.ja_meaning.proofs.Grown.{value_is}
use Rattle.ja_meaning.proofs.Moments.{Reads}
use Rattle.ja_meaning.proofs.Parts.{has_as_read, has_part-has_value}
use Rattle.ja_meaning.proofs.Puts.{index_key, length_is}
use Rattle.ja_meaning.proofs.Values.{has_value-join_left, has_value-join_right}
use Rattle.ja_rows.specs.Calls.{length_keys, element_count}
use Rattle.ja_rows.specs.Calls as calls
use Rattle.ja_sound.proofs.ControlNodes.{primitives-have}
use Rattle.ja_sound.proofs.Entered.{AreGiven}
use Rattle.ja_sound.proofs.Registers.{parameters_are}

-- ---- values that are given together

-- all of them are given where the first is and the others are
first_given : (v : Value) (r : ArgumentsRead) (vs : List Value) → with_first v r ≡ Ok vs
    → (us : List Value) × (r ≡ Ok us) × (v ∷ us ≡ vs)
first_given v (Ok us) vs e = (us, refl, cc)
first_given v (Err kind) vs e = absurd (cc)

-- each is given at its place
given_at : (xs : List (Result Value ScopeKind)) (vs : List Value) (j : ℕ) (v : Value)
    → all_given xs ≡ Ok vs → slice_get vs j ≡ Some v → slice_get xs j ≡ Some (Ok v)
given_at [] vs j v e at =
    let none : [] ≡ vs = cc in
    absurd (none-some v (ap (λ (us : List Value). slice_get us j) none ∙ at))
given_at (Ok u ∷ xs) vs zero v e at =
    let (us, more, is) = first_given u (all_given xs) vs e in
    let same : u ≡ v =
    same_Some u v (ap (λ (ws : List Value). slice_get ws 0) is ∙ at) in
    ap (λ (w : Value). Some (Ok w)) same
given_at (Ok u ∷ xs) vs (suc j) v e at =
    let (us, more, is) = first_given u (all_given xs) vs e in
    given_at xs us j v more (ap (λ (ws : List Value). slice_get ws (suc j)) is ∙ at)
given_at (Err kind ∷ xs) vs j v e at = absurd (cc)

-- .. and there are as many
given_many : (xs : List (Result Value ScopeKind)) (vs : List Value) → all_given xs ≡ Ok vs
    → length vs ≡ length xs
given_many [] vs e = let none : [] ≡ vs = cc in sym (ap length none)
given_many (Ok u ∷ xs) vs e =
    let (us, more, is) = first_given u (all_given xs) vs e in
    sym (ap length is) ∙ ap suc (given_many xs us more)
given_many (Err kind ∷ xs) vs e = absurd (cc)

-- ---- what all arguments are in

-- each argument is in one value, and so is undefined, and the count is there
pub all_given_in : (h : Heap) (parameters : ℕ) (arguments : List Value) (g : calls.Arguments)
    (v : AbstractValue) → ((j : ℕ) → g.parameter j ≡ v) → g.rest ≡ v
    → IsTrue (has_value h v undefined)
    → ((j : ℕ) (u : Value) → slice_get arguments j ≡ Some u → IsTrue (has_value h v u))
    → IsTrue (has_value h g.count (whole_number (length arguments)))
    → AreGiven h parameters arguments g
all_given_in h parameters arguments g v parameter_is rest_is none each count = record {
  parameter =
      λ j l. subst (λ z. IsTrue (has_value h z (argument arguments j))) (sym (parameter_is j))
      (or_undefined j (slice_get arguments j) refl);
  rest = λ i u l at. subst (λ z. IsTrue (has_value h z u)) (sym rest_is) (each i u at);
  no_rest = subst (λ z. IsTrue (has_value h z undefined)) (sym rest_is) none;
  count = count;
}
  where
    or_undefined : (j : ℕ) (o : Option Value) → slice_get arguments j ≡ o
        → IsTrue (has_value h v (unwrap_or o undefined))
    or_undefined j None at = none
    or_undefined j (Some u) at = each j u at

-- ---- the frame's arguments from the second on

module _ (h : Heap) (w : View) (heap_known : IsHeap w.program h) (f : Frame)
    (known : IsFrame w.program h f) (holds : HoldsOfFrame w.program h f w.state)
    (few : parameters_of w.program f.function ≤ 1) where
  abbrev counts : AbstractValue
  counts = w.state.register count_register

  abbrev rests : AbstractValue
  rests = w.state.register (rest_register (parameters_of w.program f.function))

  count_has : IsTrue (has_value h counts (whole_number (length f.arguments)))
  count_has =
      holds.registers count_register (whole_number (length f.arguments)) known.count_is

  rest_undefined : IsTrue (has_value h rests undefined)
  rest_undefined =
      holds.registers (rest_register (parameters_of w.program f.function)) undefined
      (ap (λ n. slice_get f.registers (5 + n)) (parameters_are w.program h f known)
      ∙ known.rest_is)

  dropped : (vs : List Value) (j : ℕ) → slice_get (drop 1 vs) j ≡ slice_get vs (suc j)
  dropped [] j = refl
  dropped (v ∷ vs) j = refl

  fewer : (vs : List Value) → length (drop 1 vs) ≡ length vs - 1
  fewer [] = refl
  fewer (v ∷ vs) = omega arith

  -- one less than the count, where it is one number
  one_less : (o : Option ℤ) → one_number w.program counts ≡ o
      → IsTrue (has_value h (calls.count_below w counts o)
      (whole_number (length f.arguments - 1)))
  one_less None is =
      subst (λ v. IsTrue (has_value h v (whole_number (length f.arguments - 1))))
      (sym (cond-true (has_some_part w counts) whole_value no_value
      (has_part-has_value w.program h heap_known counts (whole_number (length f.arguments)) tt
      count_has))) refl
  one_less (Some z) is = by z (same z is)
    where
      same : (y : ℤ) → one_number w.program counts ≡ Some y → y ≡ pos (length f.arguments)
      same y e =
          let u : whole_number (length f.arguments) ≡ value.Primitive
          (primitive.Number (Whole y)) = value_is w.program h heap_known counts y e
          (whole_number (length f.arguments)) tt count_has in cc

      by : (y : ℤ) → y ≡ pos (length f.arguments)
          → IsTrue (has_value h (calls.count_below w counts (Some y))
          (whole_number (length f.arguments - 1)))
      by (pos n) e =
          let k : n ≡ length f.arguments = cc in
          subst (λ m. IsTrue (has_value h (whole_constant (n - 1)) (whole_number (m - 1)))) k
          (int_eq_equiv.refl (pos (n - 1)))
      by (negsuc n) e = absurd (cc)

  -- the arguments from the second on are given
  pub tail_given : (parameters : ℕ)
      → AreGiven h parameters (drop 1 f.arguments) (calls.tail w f.function)
  tail_given parameters =
      all_given_in h parameters (drop 1 f.arguments) (calls.tail w f.function) rests (λ j. refl)
      refl rest_undefined (λ j u at. holds.rest (suc j) u (omega (arith, few))
      (sym (dropped f.arguments j) ∙ at))
      (subst (λ n. IsTrue (has_value h (calls.tail w f.function).count (whole_number n)))
      (sym (fewer f.arguments)) (one_less (one_number w.program counts) refl))

-- ---- elements

module _ (e h : Heap) (w : View) (read : Reads e h w) (good : IsWellFormed w.program) where
  abbrev p : Program
  p = w.program

  -- the key of an index is among those of indices
  index_among : (i : ℕ) → i < 4294967295
      → IsTrue (is_among_keys (index_keys p) (key_of p (named (index_text i))))
  index_among i small =
      let t : List ℕ = index_text i in
      among-filter (is_index_key p) (keys_of p) (key_of p (named t)) (text_among p t)
      (index_key p t ∙ ap is_some (index_of_text i (lt-ltb i 4294967295 small)))

  -- .. and that of `length` is the one of its name
  length_among : IsTrue (is_among_keys length_keys (key_of p (named length_name)))
  length_among =
      or_left _ _ (same_key_from length_key (key_of p (named length_name))
      (sym (length_is e h w read good)))

  -- an element that is no row is in what is read, as undefined where it is missing
  of_content : (q : AbstractProperty) (c : Content) (attrs : Attrs) (v : Value)
      → IsTrue (knows h q (content_of c attrs)) → element (Some c) ≡ Ok v
      → IsTrue (has_value h (as_read q.value) v)
  of_content q (contents.Value u) attrs v known is =
      let same : u ≡ v = cc in
      subst (λ z. IsTrue (has_value h (as_read q.value) z)) same
      (has_as_read h q.value u (and_parts (has_value h q.value u) _ known).0)
  of_content q contents.Row attrs v known is = absurd (cc)

  element_in : (q : AbstractProperty) (g : Option Property) (v : Value)
      → IsTrue (knows h q (property_content g))
      → element (option_map (λ (r : Property). r.content) g) ≡ Ok v
      → IsTrue (has_value h (as_read q.value) v)
  element_in q None v known is =
      let same : undefined ≡ v = cc in
      subst (λ z. IsTrue (has_value h (as_read q.value) z)) same
      (or_right q.value.flags.undefined q.value.flags.absent known)
  element_in q (Some r) v known is = of_content q r.content r.attrs v known is

  module _ (array : AbstractValue) (filled : IsFilled w.entries (calls.elements w array).demands)
      (a : Addr) (there : IsObjectOf h a) (has : IsTrue (array.label (label_of h a))) where
    abbrev indices : List Key
    indices = index_keys p

    abbrev g : calls.Arguments
    g = calls.elements w array

    abbrev element_value : AbstractValue
    element_value = as_read (get w array.label indices).value

    abbrev lengths : AbstractProperty
    lengths = get w array.label length_keys

    each_in : (i : ℕ) (v : Value) → i < 4294967295
        → element (content_at h a (index_text i)) ≡ Ok v → IsTrue (has_value h element_value v)
    each_in i v small is =
        element_in (get w array.label indices) (heap.get h a (index_text i)) v
        (get_known e h w read array.label indices
        (λ l k d. filled l k (or_left _ _ d)) (index_text i) (index_among i small) a there has) is

    length_known : IsTrue (knows h lengths (property_content (heap.get h a length_name)))
    length_known =
        get_known e h w read array.label length_keys
        (λ l k d. filled l k (or_right (demands_of_get w array.label indices l k) _ d))
        length_name length_among a there has

    -- the number of elements is in the count
    abbrev HasCount : ℕ → Type 0
    HasCount n = IsTrue (has_value h g.count (whole_number n))

    by_part : (n : ℕ) → IsTrue (has_value h (element_count lengths.value) (whole_number n))
        → HasCount n
    by_part n k =
        has_value-join_right h (value_if (has_labels w lengths.value) (whole_constant 0))
        (element_count lengths.value) (whole_number n) k

    none_counted : (b : Bool) → IsTrue b
        → IsTrue (has_value h (value_if b (whole_constant 0)) (whole_number 0))
    none_counted b k =
        subst (λ z. IsTrue (has_value h z (whole_number 0)))
        (sym (cond-true b (whole_constant 0) no_value k)) (int_eq_equiv.refl (pos 0))

    number_counted : (q : Primitive) (r : Result Num Stop) (n : ℕ)
        → IsTrue (has_value h lengths.value (value.Primitive q)) → to_number q ≡ r
        → unsigned_count r ≡ Ok n → HasCount n
    number_counted q (Ok m) n known is counted =
        let same : to_uint32 m ≡ n = cc in
        by_part n (has_value-join_right h
        (value_if lengths.value.flags.absent (whole_constant 0))
        (primitives.to_uint32 (primitives.to_num (primitives_of lengths.value)).value).value
        (whole_number n) (subst (λ k. IsTrue (has_value h (primitives.to_uint32
        (primitives.to_num (primitives_of lengths.value)).value).value (whole_number k))) same
        (count-has (primitives_of lengths.value) q m (primitives-have lengths.value q known) is)))
    number_counted q (Err stop) n known is counted = absurd (cc)

    content_counted : (c : Content) (attrs : Attrs) (n : ℕ) → IsContentOf h c
        → IsTrue (knows h lengths (content_of c attrs)) → machine.element_count (Some c) ≡ Ok n
        → HasCount n
    content_counted (contents.Value (value.Primitive q)) attrs n of_heap known is =
        number_counted q (to_number q) n (and_parts _ _ known).0 refl is
    content_counted (contents.Value (value.Object b)) attrs n of_heap known is =
        let same : 0 ≡ n = cc in
        subst HasCount same (has_value-join_left h
        (value_if (has_labels w lengths.value) (whole_constant 0)) (element_count lengths.value)
        (whole_number 0) (none_counted (has_labels w lengths.value)
        (some_label-object e h w read lengths.value.label b of_heap (and_parts _ _ known).0)))
    content_counted contents.Row attrs n of_heap known is = absurd (cc)

    counted : (o : Option Property) (n : ℕ) → heap.get h a length_name ≡ o
        → machine.element_count (option_map (λ (r : Property). r.content) o) ≡ Ok n → HasCount n
    counted None n at is =
        let same : 0 ≡ n = cc in
        let absent : IsTrue lengths.value.flags.absent =
        subst (λ r. IsTrue (knows h lengths (property_content r))) at length_known in
        subst HasCount same (by_part 0 (has_value-join_left h
        (value_if lengths.value.flags.absent (whole_constant 0))
        (primitives.to_uint32 (primitives.to_num (primitives_of lengths.value)).value).value
        (whole_number 0) (none_counted lengths.value.flags.absent absent)))
    counted (Some r) n at is =
        content_counted r.content r.attrs n
        (content_found p h read.heap_now a length_name r.content
        (ap (option_map (λ (s : Property). s.content)) at))
        (subst (λ s. IsTrue (knows h lengths (property_content s))) at length_known) is

    -- there are no more elements than indices
    few : (r : Result Num Stop) (n : ℕ) → unsigned_count r ≡ Ok n → n ≤ 4294967295
    few (Ok m) n is =
        let same : to_uint32 m ≡ n = cc in
        let below = uint32_below m in omega arith
    few (Err stop) n is = absurd (cc)

    few_counted : (c : Option Content) (n : ℕ) → machine.element_count c ≡ Ok n → n ≤ 4294967295
    few_counted None n is = let same : 0 ≡ n = cc in omega arith
    few_counted (Some contents.Row) n is = absurd (cc)
    few_counted (Some (contents.Value (value.Object b))) n is =
        let same : 0 ≡ n = cc in omega arith
    few_counted (Some (contents.Value (value.Primitive q))) n is = few (to_number q) n is

    up_to_given : (parameters : ℕ) (arguments : List Value) (c : Result ℕ ScopeKind)
        → machine.element_count (content_at h a length_name) ≡ c
        → elements_up_to h a c ≡ Ok arguments → AreGiven h parameters arguments g
    up_to_given parameters arguments (Ok n) c_is is =
        let f : ℕ → Result Value ScopeKind = λ i. element (content_at h a (index_text i)) in
        let many : length arguments ≡ n =
        given_many (map f (range_with_len 0 n)) arguments is ∙ length-map-range_with_len f 0 n in
        let small : n ≤ 4294967295 = few_counted (content_at h a length_name) n c_is in
        let v : AbstractValue = join undefined_value element_value in
        all_given_in h parameters arguments g v (λ j. refl) refl
        (has_value-join_left h undefined_value element_value undefined refl)
        (λ j u at.
        let below : j < length arguments = slice_get_within arguments j u at in
        let here : slice_get (map f (range_with_len 0 n)) j ≡ Some (Ok u) =
        given_at (map f (range_with_len 0 n)) arguments j u is at in
        has_value-join_right h undefined_value element_value u
        (each_in j u (omega arith) (same_Some (f j) (Ok u)
        (ap (λ k. Some (f k)) (let z : j ≡ 0 + j = omega arith in z)
        ∙ (sym (slice_get-map_range f 0 n j (omega arith)) ∙ here)))))
        (subst HasCount (sym many) (counted (heap.get h a length_name) n refl c_is))
    up_to_given parameters arguments (Err kind) c_is is = absurd (cc)

    -- the elements of the object are given
    pub elements_given : (parameters : ℕ) (arguments : List Value)
        → machine.elements h (value.Object a) ≡ Ok arguments → AreGiven h parameters arguments g
    elements_given parameters arguments =
        either_way (λ r. r ≡ Ok arguments → AreGiven h parameters arguments g)
        (has_elements_at h a)
        (elements_up_to h a (machine.element_count (content_at h a length_name)))
        (Err Register)
        (λ k is. up_to_given parameters arguments
        (machine.element_count (content_at h a length_name)) refl is) (λ k is. absurd (cc))
