-- An array's length after an element was put: what the abstract put says of it, in the machine's
-- words.
use Rattle.std.specs.Prelude.{◌≡◌, ◌⊎◌, ◌+◌, ◌||◌, ℕ, ℤ, pos, int_lt, Bool, true, false, if◌then◌else◌, IsTrue, Option, Some, None}
use Rattle.std.proofs.Common.{refl, sym, subst, ap, ◌∙◌, inl, inr, arith}
use Rattle.std.proofs.lemmas.Bool.{or_left, or_right, and_parts, and_from, false≢true, cases_Bool, cond_both, cond-true, cond-false}
use Rattle.std.proofs.lemmas.Bool.Decides.{Decides-int_eq}
use Rattle.std.proofs.lemmas.Cmp.{int_eq_equiv}
use Rattle.std.proofs.lemmas.Option.{none-some, same_Some}
use Rattle.ja_prim.specs.declared.primitive.Num.TheVariants.{NaN, Whole}
use Rattle.ja_prim.specs.declared.primitive.Primitive.{Primitive}
use Rattle.ja_prim.specs.declared.primitive.Primitive.TheVariants as primitive
use Rattle.ja_graph.specs.declared.attrs.Attrs.{Attrs}
use Rattle.ja_graph.specs.declared.program.Program.{Program}
use Rattle.ja_machine.specs.declared.machine.Value.{Value}
use Rattle.ja_machine.specs.declared.machine.Value.TheVariants as value
use Rattle.ja_machine.specs.declared.machine.Content.{Content}
use Rattle.ja_machine.specs.declared.machine.Content.TheVariants as contents
use Rattle.ja_machine.specs.declared.machine.Property.{Property}
use Rattle.ja_machine.specs.declared.machine.Heap.{Heap}
use Rattle.ja_machine.specs.Writes.{whole_number, number_held}
use Rattle.ja_machine.specs.State.{IsHeap, IsValueOf}
use Rattle.ja_abstract.specs.declared.abstraction.NumberPart.{NumberPart}
use Rattle.ja_abstract.specs.declared.abstraction.NumberPart.TheVariants as number_part
use Rattle.ja_abstract.specs.AbstractValue.{AbstractValue, AbstractProperty, join, has_part, is_present, of_primitive}
use Rattle.ja_abstract.specs.AbstractState.{labels_of}
use Rattle.ja_abstract.specs.Contents.{SpotContent, missing, held, present, present_row, content_of}
use Rattle.ja_abstract.specs.Parts.{has_primitive, number_has, allows_attrs}
use Rattle.ja_abstract.specs.Made.{number_alone, one_number, whole_constant}
use Rattle.ja_abstract.specs.Primitives.{whole_value}
use Rattle.ja_abstract.specs.Writes.{grown_length}
use Rattle.ja_abstract.proofs.Parts.{has_part_from_present}
use Rattle.ja_meaning.specs.Meaning.{has_value, knows, IsOfHeap}
use Rattle.ja_meaning.proofs.Parts.{is_present-has_value}
use Rattle.ja_meaning.proofs.Values.{has_value-join_left, has_value-join_right}

-- a value with more parts knows what it knew
widened : (h : Heap) (q : AbstractProperty) (u : AbstractValue) (x : SpotContent)
    → IsTrue (knows h q x) → IsTrue (knows h (record q { value = join q.value u }) x)
widened h q u missing e = or_left _ _ e
widened h q u (held v) e = has_value-join_left h q.value u v e
widened h q u (present v attrs) e =
    let (a, b) = and_parts _ _ e in and_from _ _ (has_value-join_left h q.value u v a) b
widened h q u (present_row attrs) e =
    let (a, b) = and_parts q.value.flags.row (allows_attrs q.attrs attrs) e in
    and_from (q.value.flags.row || u.flags.row) (allows_attrs q.attrs attrs)
    (or_left q.value.flags.row u.flags.row a) b

-- ---- one number and nothing else

alone_is : (n : NumberPart) (m : ℤ) → number_alone n ≡ Some m → n ≡ number_part.One m
alone_is (number_part.One z) m e = ap number_part.One (same_Some z m e)
alone_is number_part.Nothing m e = absurd (none-some m e)
alone_is number_part.Index m e = absurd (none-some m e)
alone_is number_part.OtherWhole m e = absurd (none-some m e)
alone_is number_part.Whole m e = absurd (none-some m e)

-- a primitive that is no whole number
abbrev is_other : Primitive → Bool
is_other (primitive.Number (Whole z)) = false
is_other q = true

other_has : (v : AbstractValue) (q : Primitive) → is_other q ≡ true → IsTrue (has_primitive v q)
    → IsTrue (has_primitive (record v { number = number_part.Nothing }) q)
other_has v primitive.Undefined o e = e
other_has v primitive.Null o e = e
other_has v (primitive.Bool true) o e = e
other_has v (primitive.Bool false) o e = e
other_has v (primitive.Number NaN) o e = e
other_has v (primitive.Number (Whole z)) o e = absurd (false≢true o)
other_has v (primitive.Text t) o e = e

module _ (p : Program) (c : Heap) (known : IsHeap p c) (v : AbstractValue) (m : ℤ)
    (one : one_number p v ≡ Some m) where
  abbrev rest : AbstractValue
  rest = record v { number = number_part.Nothing }

  no_rest : IsTrue (has_part (labels_of p) rest) → ⊥
  no_rest e =
      none-some m (sym (cond-true (has_part (labels_of p) rest) None (number_alone v.number) e)
      ∙ one)

  number_is : v.number ≡ number_part.One m
  number_is =
      elim (cases_Bool (has_part (labels_of p) rest)) [
        | inl e ↦ absurd (no_rest e)
        | inr e ↦
            alone_is v.number m (sym (cond-false (has_part (labels_of p) rest) None
            (number_alone v.number) e) ∙ one)
      ]

  no_value : (u : Value) → IsValueOf c u → IsTrue (has_value c rest u) → ⊥
  no_value u there e =
      no_rest (has_part_from_present (labels_of p) rest
      (is_present-has_value p c known rest u there e))

  -- a value that it has is that number
  pub value_is : (u : Value) → IsValueOf c u → IsTrue (has_value c v u)
      → u ≡ value.Primitive (primitive.Number (Whole m))
  value_is (value.Object b) there e = absurd (no_value (value.Object b) there e)
  value_is (value.Primitive (primitive.Number (Whole z))) there e =
      ap (λ n. value.Primitive (primitive.Number (Whole n)))
      (sym ((Decides-int_eq m z).0 (subst (λ n. IsTrue (number_has n z)) number_is e)))
  value_is (value.Primitive primitive.Undefined) there e =
      absurd (no_value (value.Primitive primitive.Undefined) tt e)
  value_is (value.Primitive primitive.Null) there e =
      absurd (no_value (value.Primitive primitive.Null) tt e)
  value_is (value.Primitive (primitive.Bool b)) there e =
      absurd (no_value (value.Primitive (primitive.Bool b)) tt
      (other_has v (primitive.Bool b) refl e))
  value_is (value.Primitive (primitive.Number NaN)) there e =
      absurd (no_value (value.Primitive (primitive.Number NaN)) tt e)
  value_is (value.Primitive (primitive.Text t)) there e =
      absurd (no_value (value.Primitive (primitive.Text t)) tt e)

-- ---- the length after an element

-- what `length` has after the element of an index was set: a number that isn't above the index
-- becomes one more
abbrev attrs_of : Option Property → Attrs → Attrs
attrs_of None a = a
attrs_of (Some q) a = q.attrs

abbrev grown_from : ℕ → Option ℤ → SpotContent → SpotContent → SpotContent
grown_from i None unchanged more = unchanged
grown_from i (Some n) unchanged more = if int_lt (pos i) n then unchanged else more

abbrev pub after_element : Option Property → ℕ → SpotContent
after_element None i = missing
after_element (Some q) i =
    grown_from i (number_held q.content) (content_of q.content q.attrs)
    (present (whole_number (i + 1)) q.attrs)

module _ (p : Program) (c : Heap) (known : IsHeap p c) (q : AbstractProperty) where
  abbrev Knows : AbstractValue → SpotContent → Type 0
  Knows v x = IsTrue (knows c (record q { value = v }) x)

  attrs_known : (x : Content) (attrs : Attrs) → IsTrue (knows c q (content_of x attrs))
      → IsTrue (allows_attrs q.attrs attrs)
  attrs_known (contents.Value v) attrs e = (and_parts _ _ e).1
  attrs_known contents.Row attrs e = (and_parts _ _ e).1

  -- a value that is joined to the length's covers one more than the index
  by_join : (u : AbstractValue) (i : ℕ) → IsTrue (has_value c u (whole_number (i + 1)))
      → (r : Property) → IsTrue (knows c q (content_of r.content r.attrs)) → (n : Option ℤ)
      → Knows (join q.value u) (grown_from i n (content_of r.content r.attrs)
      (present (whole_number (i + 1)) r.attrs))
  by_join u i covers r e None = widened c q u (content_of r.content r.attrs) e
  by_join u i covers r e (Some n) =
      cond_both (int_lt (pos i) n) (content_of r.content r.attrs)
      (present (whole_number (i + 1)) r.attrs) (Knows (join q.value u))
      (λ _. widened c q u (content_of r.content r.attrs) e)
      (λ _. and_from _ _ (has_value-join_right c q.value u (whole_number (i + 1)) covers)
      (attrs_known r.content r.attrs e))

  -- where the length is one number, so is the object's
  by_number : (i : ℕ) (m : ℤ) → one_number p q.value ≡ Some m → (x : Content) (attrs : Attrs)
      → IsOfHeap c (content_of x attrs) → IsTrue (knows c q (content_of x attrs))
      → Knows (grown_length q.value (Some i) (Some m))
      (grown_from i (number_held x) (content_of x attrs) (present (whole_number (i + 1)) attrs))
  by_number i m one contents.Row attrs there e =
      let row : IsTrue q.value.flags.row = (and_parts q.value.flags.row
      (allows_attrs q.attrs attrs) e).0 in absurd
      (no_rest p c known q.value m one (grind (arith, row, or_left, or_right)))
  by_number i m one (contents.Value u) attrs there e =
      let (has, allowed) = and_parts _ _ e in
      let is : u ≡ value.Primitive (primitive.Number (Whole m)) =
      value_is p c known q.value m one u there has in
      subst (λ y. Knows (grown_length q.value (Some i) (Some m))
      (grown_from i (number_held (contents.Value y)) (present y attrs)
      (present (whole_number (i + 1)) attrs))) (sym is)
      (elim (cases_Bool (int_lt (pos i) m)) [
        | inl less ↦
            subst (λ b. Knows (if b then of_primitive
            (primitive.Number (Whole m)) else whole_constant (i + 1))
            (if b then present (value.Primitive (primitive.Number (Whole m))) attrs else present
            (whole_number (i + 1)) attrs)) (sym less) (and_from _ _ (int_eq_equiv.refl m) allowed)
        | inr more ↦
            subst (λ b. Knows (if b then of_primitive
            (primitive.Number (Whole m)) else whole_constant (i + 1))
            (if b then present (value.Primitive (primitive.Number (Whole m))) attrs else present
            (whole_number (i + 1)) attrs)) (sym more)
            (and_from _ _ (int_eq_equiv.refl (pos (i + 1))) allowed)
      ])

  pub by_reading : (i : ℕ) (known_index : Option ℕ) → (known_index ≡ None) ⊎ (known_index ≡ Some i)
      → (n : Option ℤ) → one_number p q.value ≡ n → (r : Property)
      → IsOfHeap c (content_of r.content r.attrs)
      → IsTrue (knows c q (content_of r.content r.attrs))
      → Knows (grown_length q.value known_index n) (after_element (Some r) i)
  by_reading i None which n one r there e = by_join whole_value i refl r e (number_held r.content)
  by_reading i (Some j) (inl no_index) n one r there e = absurd (none-some j (sym no_index))
  by_reading i (Some j) (inr is) None one r there e =
      subst (λ k. Knows (grown_length q.value (Some k) None) (after_element (Some r) i))
      (sym (same_Some j i is)) (by_join (whole_constant (i + 1)) i
      (int_eq_equiv.refl (pos (i + 1))) r e (number_held r.content))
  by_reading i (Some j) (inr is) (Some m) one r there e =
      subst (λ k. Knows (grown_length q.value (Some k) (Some m)) (after_element (Some r) i))
      (sym (same_Some j i is)) (by_number i m one r.content r.attrs there e)

  -- .. and where there is no length there is none
  pub by_missing : (known_index : Option ℕ) (n : Option ℤ) → one_number p q.value ≡ n
      → IsTrue (knows c q missing) → Knows (grown_length q.value known_index n) missing
  by_missing None n one e = or_left _ _ e
  by_missing (Some j) None one e = or_left _ _ e
  by_missing (Some j) (Some m) one e =
      absurd (no_rest p c known q.value m one (or_left (q.value.flags.absent || q.value.flags.entry)
      (is_present (labels_of p) (record q.value { number = number_part.Nothing }))
      (or_left q.value.flags.absent q.value.flags.entry e)))
