-- A key register's text has a key among those of its value: a number's by the text that is read
-- back, since a number past the profile is no key.
use Rattle.std.specs.Prelude.{◌≡◌, ◌≤◌, ◌<◌, ◌+◌, ◌&&◌, ◌≤ℤ◌, neg_ℤ, not, ℕ, zero, suc, ℤ, pos, negsuc, IsTrue, List, [], ◌∷◌, map, length, Some, None}
use Rattle.std.specs.List.{list_any, range_with_len}
use Rattle.std.proofs.Common.{refl, sym, subst, ap, ◌∙◌, inl, inr, arith}
use Rattle.std.proofs.lemmas.Bool.{or_left, or_right, and_from, ltb-true, leb-true, cases_eq}
use Rattle.std.proofs.lemmas.Int.{ints}
use Rattle.std.proofs.lemmas.Bool.Decides.{Decides-int_eq}
use Rattle.std.proofs.lemmas.List.Folds.{list_any-append}
use Rattle.std.proofs.lemmas.Option.{none-some, same_Some}
use lib.Chars.{codes}
use Rattle.ja_prim.specs.declared.primitive.Num.TheVariants.{NaN, Whole}
use Rattle.ja_prim.specs.declared.primitive.Primitive.TheVariants as primitive
use Rattle.ja_prim.specs.Judged.{max_magnitude}
use Rattle.ja_prim.proofs.ReadingBack.{read_back}
use Rattle.ja_graph.specs.declared.program.Program.{Program}
use Rattle.ja_machine.specs.declared.machine.Value.{Value}
use Rattle.ja_machine.specs.declared.machine.Value.TheVariants as value
use Rattle.ja_machine.specs.declared.machine.Heap.{Heap}
use Rattle.ja_machine.specs.Values.{key_of, is_in_profile}
use Rattle.ja_machine.proofs.Lists.{either_way}
use Rattle.ja_abstract.specs.declared.abstraction.NumberPart.{NumberPart}
use Rattle.ja_abstract.specs.declared.abstraction.NumberPart.TheVariants as number_part
use Rattle.ja_abstract.specs.declared.abstraction.Key.{Key}
use Rattle.ja_abstract.specs.declared.abstraction.Key.TheVariants as key
use Rattle.ja_abstract.specs.declared.abstraction.Slot.TheVariants as slot
use Rattle.ja_abstract.specs.AbstractValue.{AbstractValue}
use Rattle.ja_abstract.specs.AbstractState.{same_key, name_key, keys_of, is_key}
use Rattle.ja_abstract.specs.Keys.{named, whole_text, is_written_so, is_whole_text, number_text_has, has_key_text, has_key, keys_of_value, is_among_keys}
use Rattle.ja_abstract.specs.Parts.{number_has}
use Rattle.ja_abstract.specs.Keys as meaning
use Rattle.ja_abstract.proofs.Texts.{same_text_refl}
use Rattle.ja_abstract.proofs.Keys.{same_key-self}
use Rattle.ja_abstract.proofs.Lists.{list_any-filter}
use Rattle.ja_abstract.proofs.AtKeys.{is_key_of}
use Rattle.ja_abstract.proofs.IndexTexts.{number_index_text}
use Rattle.ja_abstract.proofs.Among.{some_key}
use Rattle.ja_meaning.specs.Meaning.{has_value}
use Rattle.ja_meaning.proofs.MadeOf.{has_key_of}

-- ---- numbers

-- a whole number of the profile is at most 2^53 - 1 from 0
abbrev IsWithin : ℤ → Type 0
IsWithin z = (neg_ℤ (pos max_magnitude) ≤ℤ z) × (z ≤ℤ pos max_magnitude)

within : (z : ℤ) → IsTrue (is_in_profile (Whole z)) → IsWithin z
within (pos n) e =
    let small : n ≤ max_magnitude = leb-true n max_magnitude e in
    (omega (arith, ints, small), omega (arith, ints, small))
within (negsuc n) e =
    let small : suc n ≤ max_magnitude = leb-true (suc n) max_magnitude e in
    (omega (arith, ints, small), omega (arith, ints, small))

-- the text of a number of the profile says that number
whole_text_is : (z : ℤ) → IsWithin z
    → IsTrue (is_whole_text (whole_text z))
whole_text_is z fits =
    subst (λ r. IsTrue (is_written_so r (whole_text z))) (sym (read_back (Whole z) fits.0 fits.1))
    (same_text_refl (whole_text z))

number_text : (n : NumberPart) (z : ℤ) → IsWithin z
    → IsTrue (number_has n z) → IsTrue (number_text_has n (whole_text z))
number_text number_part.Nothing z fits h = h
number_text (number_part.One m) z fits h =
    subst (λ k. IsTrue (number_text_has (number_part.One m) (whole_text k)))
    ((Decides-int_eq m z).0 h) (same_text_refl (whole_text m))
number_text number_part.Index z fits h = number_index_text z ∙ h
number_text number_part.OtherWhole z fits h =
    and_from _ _ (whole_text_is z fits) (ap not (number_index_text z) ∙ h)
number_text number_part.Whole z fits h = whole_text_is z fits

-- ---- the text of a key register

key_text_by : (h : Heap) (v : AbstractValue) (u : Value) (t : List ℕ) → IsTrue (has_value h v u)
    → key_of u ≡ Some t → IsTrue (has_key_text v t)
key_text_by h v (value.Primitive (primitive.Text s)) t has is =
    subst (λ r. IsTrue (has_key_text v r)) (same_Some s t is) (or_left _ _ has)
key_text_by h v (value.Primitive (primitive.Number NaN)) t has is =
    subst (λ r. IsTrue (has_key_text v r)) (same_Some _ t is)
    (or_right _ _ (or_right _ _ (and_from _ _ has (same_text_refl (codes "NaN")))))
key_text_by h v (value.Primitive (primitive.Number (Whole z))) t has is =
    either_way (λ o. o ≡ Some t → IsTrue (has_key_text v t)) (is_in_profile (Whole z))
    (Some (whole_text z)) None
    (λ fits some. subst (λ r. IsTrue (has_key_text v r)) (same_Some (whole_text z) t some)
    (or_right _ _ (or_left _ _ (number_text v.number z (within z fits) has))))
    (λ past none. absurd (none-some t none)) is
key_text_by h v (value.Primitive primitive.Undefined) t has is = absurd (none-some t is)
key_text_by h v (value.Primitive primitive.Null) t has is = absurd (none-some t is)
key_text_by h v (value.Primitive (primitive.Bool b)) t has is = absurd (none-some t is)
key_text_by h v (value.Object a) t has is = absurd (none-some t is)

-- ---- among the program's keys

among_names : (a n i : ℕ) → a ≤ i → i < a + n
    → IsTrue (list_any (λ j. same_key j (name_key i)) (map name_key (range_with_len a n)))
among_names a zero i low high = absurd (omega arith)
among_names a (suc n) i low high =
    elim (cases_eq i a) [
      | inl e ↦
          or_left _ _ (subst (λ b. IsTrue (same_key (name_key b) (name_key i))) e
          (same_key-self (name_key i)))
      | inr ne ↦ or_right _ _ (among_names (a + 1) n i (omega arith) (omega arith))
    ]

module _ (p : Program) where
  behind_names : (k : Key) → IsTrue (list_any (λ j. same_key j k)
      (key.OtherIndex ∷ key.OtherName ∷ key.Slot slot.Prototype ∷ key.Slot slot.Outer ∷ key.Slot
      slot.Scope ∷ key.Slot slot.Value ∷ [])) → IsTrue (is_among_keys (keys_of p) k)
  behind_names k h =
      list_any-append (λ j. same_key j k) (map name_key (range_with_len 0 (length p.names))) _
      ∙ or_right _ _ h

  among_program : (k : Key) → IsTrue (is_key p k) → IsTrue (is_among_keys (keys_of p) k)
  among_program (key.Name n) h =
      list_any-append (λ j. same_key j (key.Name n))
      (map name_key (range_with_len 0 (length p.names))) _
      ∙ or_left _ _ (among_names 0 (length p.names) n.0 (omega arith)
      (let f : n.0 < length p.names = ltb-true n.0 (length p.names) h in omega arith))
  among_program key.OtherIndex h = behind_names key.OtherIndex refl
  among_program key.OtherName h = behind_names key.OtherName refl
  among_program (key.Slot slot.Prototype) h = behind_names (key.Slot slot.Prototype) refl
  among_program (key.Slot slot.Outer) h = behind_names (key.Slot slot.Outer) refl
  among_program (key.Slot slot.Scope) h = behind_names (key.Slot slot.Scope) refl
  among_program (key.Slot slot.Value) h = behind_names (key.Slot slot.Value) refl

  among_value : (v : AbstractValue) (k : Key) → IsTrue (has_key p v k) → IsTrue (is_key p k)
      → IsTrue (is_among_keys (keys_of_value p v) k)
  among_value v k has fits =
      list_any-filter (λ j. same_key j k) (has_key p v) (keys_of p)
      (some_key (λ j. has_key p v j && same_key j k) (keys_of p) k (among_program k fits)
      (and_from _ _ has (same_key-self k)))

-- the key of a computed name is among the keys of the register's value
pub key-among : (p : Program) (h : Heap) (v : AbstractValue) (u : Value) (t : List ℕ)
    → IsTrue (has_value h v u) → key_of u ≡ Some t
    → IsTrue (is_among_keys (keys_of_value p v) (meaning.key_of p (named t)))
key-among p h v u t has is =
    among_value p v (meaning.key_of p (named t)) (has_key_of p t v (key_text_by h v u t has is))
    (is_key_of p (named t))
