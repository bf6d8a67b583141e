-- A value whose key is one text: a program has no other key of the value, so a reading at its key
-- demands nothing that one at its keys doesn't.
use Rattle.std.specs.Prelude.{◌≡◌, ◌&&◌, ◌||◌, ℕ, Bool, true, false, IsTrue, List, [], ◌∷◌, map, filter, Option, None, Some}
use Rattle.std.specs.List.{AllByRecursion}
use Rattle.std.specs.Option.{option_map}
use Rattle.std.proofs.Common.{refl, sym, subst, ap, ◌∙◌, arith, inl, inr}
use Rattle.std.proofs.lemmas.Bool.{or_left, or_right, or_cases, and_parts, and_from, false≢true, cases_Bool, both_ways, ltb-true}
use Rattle.std.proofs.lemmas.Option.{none-some, same_Some}
use Rattle.ja_base.specs.declared.ids.Label.{Label}
use Rattle.ja_prim.specs.declared.primitive.Num.TheVariants.{NaN, Whole}
use Rattle.ja_prim.specs.declared.primitive.Primitive.TheVariants as primitive
use Rattle.ja_graph.specs.declared.program.Program.{Program}
use Rattle.ja_graph.specs.WellFormed.{IsWellFormed}
use Rattle.ja_machine.specs.declared.machine.Heap.{Heap}
use Rattle.ja_machine.specs.declared.machine.Value.{Value}
use Rattle.ja_machine.specs.declared.machine.Value.TheVariants as value
use Rattle.ja_machine.specs.Nodes.{name_text}
use Rattle.ja_machine.specs.State.{IsHeap, IsValueOf}
use Rattle.ja_machine.specs.Values.{key_of as key_text}
use Rattle.ja_machine.proofs.Lists.{either_way}
use Rattle.ja_abstract.specs.declared.abstraction.Key.{Key}
use Rattle.ja_abstract.specs.declared.abstraction.Key.TheVariants as key
use Rattle.ja_abstract.specs.declared.abstraction.NumberPart.{NumberPart}
use Rattle.ja_abstract.specs.declared.abstraction.NumberPart.TheVariants as number_part
use Rattle.ja_abstract.specs.declared.abstraction.TextPart.{TextPart}
use Rattle.ja_abstract.specs.declared.abstraction.TextPart.TheVariants as text_part
use Rattle.ja_abstract.specs.AbstractState.{labels_of, keys_of, is_key}
use Rattle.ja_abstract.specs.AbstractValue.{Labels, AbstractValue, AbstractProperty, has_number, has_part, join_properties}
use Rattle.ja_abstract.specs.InProgram.{AreKeys}
use Rattle.ja_abstract.specs.Keys.{named, key_of, text_key, number_text_has, text_has_rest, number_has_rest, has_rest, has_key, is_among_keys, keys_of_value}
use Rattle.ja_abstract.specs.Parts.{text_has}
use Rattle.ja_abstract.specs.Reading.{View, some_label, both, demands_if, own, demands_of_own, slot, demands_of_get}
use Rattle.ja_abstract.specs.Resolved.{Demands, IsFilled, join_all, demands_of, prototype, reached, resolved}
use Rattle.ja_abstract.proofs.Among.{some_key}
use Rattle.ja_abstract.proofs.Keys.{same_key-true, same_key_from, key_of-name}
use Rattle.ja_abstract.proofs.Labels.{some_among, among_some}
use Rattle.ja_abstract.proofs.Least.{property_least, with_nothing, property_twice}
use Rattle.ja_abstract.proofs.Order.{property-join, property_same, property_equal, same_text}
use Rattle.ja_abstract.proofs.WritesInProgram.{keys_are_keys}
use Rattle.ja_meaning.specs.Meaning.{has_value}
use Rattle.ja_meaning.proofs.Parts.{has_part-has_value}
use Rattle.ja_rows.specs.Warning.{one_text, one_key}

-- ---- tests

first_alone : (a b n e : Bool) → IsTrue (a || (b || (n && e))) → b ≡ false → n ≡ false → IsTrue a
first_alone true b n e h f g = refl
first_alone false b n e h f g =
    elim (or_cases b (n && e) h) [
      | inl x ↦ absurd (both_ways b f x)
      | inr y ↦ absurd (both_ways n g (and_parts n e y).0)
    ]

number_text_none : (n : NumberPart) → has_number n ≡ false → (t : List ℕ)
    → number_text_has n t ≡ false
number_text_none number_part.Nothing none t = refl
number_text_none n none t = absurd (false≢true (sym none))

number_rest_none : (p : Program) (n : NumberPart) → has_number n ≡ false → (k : Key)
    → number_has_rest p n k ≡ false
number_rest_none p number_part.Nothing none k = refl
number_rest_none p n none k = absurd (false≢true (sym none))

-- ---- the joins of one property

join_same : (f : Key → AbstractProperty) (k : Key) (js : List Key)
    → AllByRecursion (λ (j : Key). j ≡ k) js → IsTrue (is_among_keys js k)
    → join_all (map f js) ≡ f k
join_same f k [] all among = absurd (false≢true among)
join_same f k (j ∷ []) all among = with_nothing (f j) ∙ ap f all.0
join_same f k (j ∷ i ∷ js) all among =
    let rest : join_all (map f (i ∷ js)) ≡ f k =
    join_same f k (i ∷ js) all.1 (or_left _ _ (same_key_from i k all.1.0)) in
    ap (join_properties (f j)) rest ∙ ap (λ x. join_properties (f x) (f k)) all.0 ∙ property_twice (f k)

module _ (w : View) (good : IsWellFormed w.program) (v : AbstractValue) (k : Key)
    (one : one_key w v ≡ Some k) where
  abbrev p : Program
  p = w.program

  -- the value without its texts
  abbrev others : AbstractValue
  others = record v { text = text_part.Nothing }

  parts : (has_part (labels_of p) others ≡ false)
      × (option_map (text_key p) (one_text v.text) ≡ Some k)
  parts =
      either_way (λ (o : Option Key). o ≡ Some k → (has_part (labels_of p) others ≡ false)
      × (option_map (text_key p) (one_text v.text) ≡ Some k)) (has_part (labels_of p) others) None
      (option_map (text_key p) (one_text v.text)) (λ some none. absurd (none-some k none))
      (λ none is. (none, is)) one

  text_by : (s : TextPart) → option_map (text_key p) (one_text s) ≡ Some k
      → (t : List ℕ) × (s ≡ text_part.One t) × (text_key p t ≡ k)
  text_by (text_part.One t) is = (t, refl, same_Some (text_key p t) k is)
  text_by s is = absurd (none-some k is)

  abbrev t : List ℕ
  t = (text_by v.text parts.1).0

  text_is : v.text ≡ text_part.One t
  text_is = (text_by v.text parts.1).1

  key_is : text_key p t ≡ k
  key_is = (text_by v.text parts.1).2

  no_other : IsTrue (has_part (labels_of p) others) → ⊥
  no_other h = both_ways (has_part (labels_of p) others) parts.0 h

  no_number : has_number v.number ≡ false
  no_number =
      elim (cases_Bool (has_number v.number)) [
        | inl some ↦ absurd (no_other (grind (arith, some, or_left, or_right)))
        | inr none ↦ none
      ]

  no_nan : v.flags.nan ≡ false
  no_nan =
      elim (cases_Bool v.flags.nan) [
        | inl some ↦ absurd (no_other (grind (arith, some, or_left, or_right)))
        | inr none ↦ none
      ]

  -- ---- what the register holds

  module _ (h : Heap) (known : IsHeap p h) where
    abbrev IsTextOf : Value → Type 0
    IsTextOf u = (s : List ℕ) × (key_text u ≡ Some s) × (key_of p (named s) ≡ k)

    other_by : (u : Value) → IsValueOf h u → IsTrue (has_value h others u) → IsTextOf u
    other_by u there told = absurd (no_other (has_part-has_value p h known others u there told))

    pub text_held : (u : Value) → IsValueOf h u → IsTrue (has_value h v u) → IsTextOf u
    text_held (value.Primitive (primitive.Text s)) there told =
        let is : t ≡ s = same_text t s (subst (λ x. IsTrue (text_has x s)) text_is told) in
        (s, refl, sym (ap (text_key p) is) ∙ key_is)
    text_held (value.Primitive primitive.Undefined) there told =
        other_by (value.Primitive primitive.Undefined) there told
    text_held (value.Primitive primitive.Null) there told =
        other_by (value.Primitive primitive.Null) there told
    text_held (value.Primitive (primitive.Bool true)) there told =
        other_by (value.Primitive (primitive.Bool true)) there told
    text_held (value.Primitive (primitive.Bool false)) there told =
        other_by (value.Primitive (primitive.Bool false)) there told
    text_held (value.Primitive (primitive.Number NaN)) there told =
        other_by (value.Primitive (primitive.Number NaN)) there told
    text_held (value.Primitive (primitive.Number (Whole n))) there told =
        other_by (value.Primitive (primitive.Number (Whole n))) there told
    text_held (value.Object a) there told =
        other_by (value.Object a) there told

  -- ---- the value's keys

  rest_alone : (j : Key) → IsTrue (has_rest p v j) → j ≡ k
  rest_alone j h =
      let has : IsTrue (text_has_rest p v.text j) =
      first_alone (text_has_rest p v.text j) (number_has_rest p v.number j) v.flags.nan _ h
      (number_rest_none p v.number no_number j) no_nan in
      sym (same_key-true (text_key p t) j
      (subst (λ x. IsTrue (text_has_rest p x j)) text_is has)) ∙ key_is

  key_alone : (j : Key) → IsTrue (is_key p j) → IsTrue (has_key p v j) → j ≡ k
  key_alone (key.Name n) of_program h =
      let u : List ℕ = name_text p n in
      let has : IsTrue (text_has v.text u) =
      first_alone (text_has v.text u) (number_text_has v.number u) v.flags.nan _ h
      (number_text_none v.number no_number u) no_nan in
      let is : t ≡ u = same_text t u (subst (λ x. IsTrue (text_has x u)) text_is has) in
      sym (key_of-name p good n (ltb-true _ _ of_program)) ∙ sym (ap (text_key p) is) ∙ key_is
  key_alone key.OtherIndex of_program h = rest_alone key.OtherIndex h
  key_alone key.OtherName of_program h = rest_alone key.OtherName h
  key_alone (key.Slot s) of_program h = absurd (false≢true h)

  kept_same : (js : List Key) → AreKeys p js
      → AllByRecursion (λ (j : Key). j ≡ k) (filter (has_key p v) js)
  kept_same [] all = tt
  kept_same (j ∷ js) all =
      either_way (AllByRecursion (λ (i : Key). i ≡ k)) (has_key p v j)
      (j ∷ filter (has_key p v) js) (filter (has_key p v) js)
      (λ h. (key_alone j all.0 h, kept_same js all.1)) (λ h. kept_same js all.1)

  -- ---- what a reading at them demands

  abbrev keys : List Key
  keys = keys_of_value p v

  module _ (among : IsTrue (is_among_keys keys k)) where
    own_at : (l : Label) → own w l keys ≡ own w l (k ∷ [])
    own_at l =
        join_same (resolved w.state w.entries l) k keys (kept_same (keys_of p) (keys_are_keys p))
        among ∙ sym (with_nothing (resolved w.state w.entries l k))

    abbrev all_own : Label → AbstractProperty
    all_own l = own w l keys

    abbrev one_own : Label → AbstractProperty
    one_own l = own w l (k ∷ [])

    own_same : all_own ≡ one_own
    own_same = λ i l. own_at l i

    -- what is demanded of the objects on a walk, by what they have of their own and what is
    -- demanded for that
    abbrev walk_by : (Label → AbstractProperty) → Labels → Labels
    walk_by has start =
        reached (λ l m. (has l).value.flags.absent && (slot w l prototype).label m)
        (labels_of p) start

    abbrev at_walk : (Label → AbstractProperty) → (Label → Demands) → Labels → Label → Key → Label
        → Bool
    at_walk has own_demands start m j l =
        walk_by has start l && both (own_demands l)
        (demands_if (has l).value.flags.absent (demands_of w.state l prototype)) m j

    abbrev demanded_by : (Label → AbstractProperty) → (Label → Demands) → Labels → Demands
    demanded_by has own_demands start m j =
        some_label w (λ l. at_walk has own_demands start m j l)

    own_demanded : (l m : Label) (j : Key) → IsTrue (demands_of_own w l (k ∷ []) m j)
        → IsTrue (demands_of_own w l keys m j)
    own_demanded l m j h =
        some_key (λ (i : Key). demands_of w.state l i m j) keys k among
        (elim (or_cases (demands_of w.state l k m j) false h) [
          | inl here ↦ here
          | inr never ↦ absurd (false≢true never)
        ])

    more_demanded : (start : Labels) (m : Label) (j : Key)
        → IsTrue (demands_of_get w start (k ∷ []) m j) → IsTrue (demands_of_get w start keys m j)
    more_demanded start m j h =
        let at_one : Label → Demands = λ l. demands_of_own w l (k ∷ []) in
        let moved : IsTrue (demanded_by all_own at_one start m j) =
        subst (λ has. IsTrue (demanded_by has at_one start m j)) (sym own_same) h in
        let (l, a, at) = among_some (at_walk all_own at_one start m j) (labels_of p) moved in
        let (on, needs) = and_parts _ _ at in
        some_among (at_walk all_own (λ l. demands_of_own w l keys) start m j)
        (labels_of p) l a (and_from _ _ on (elim (or_cases (at_one l m j) _ needs) [
          | inl mine ↦ or_left _ _ (own_demanded l m j mine)
          | inr next ↦ or_right _ _ next
        ]))

    pub filled_at_key : (start : Labels) → IsFilled w.entries (demands_of_get w start keys)
        → IsFilled w.entries (demands_of_get w start (k ∷ []))
    filled_at_key start filled m j h = filled m j (more_demanded start m j h)
