-- The objects that nodes make are told of by their lists of keys with properties; and a computed
-- key is among the keys of its value.
use Rattle.std.specs.Prelude.{◌≡◌, ℕ, Bool, true, false, not, if◌then◌else◌, IsTrue, List, [], ◌∷◌, find, Option, Some, None}
use Rattle.std.proofs.Common.{refl, sym, subst, ap, ◌∙◌, inl, inr}
use Rattle.std.proofs.lemmas.Bool.{false≢true, cases_Bool, cond-true, cond-false, or_left, or_right, or_cases, and_parts, and_from, false_from_ne_true}
use Rattle.std.specs.Option.{option_map_or}
use lib.Chars.{codes}
use lib.Pointwise.{bytes_decides}
use Rattle.ja_base.specs.declared.ids.NameId.{NameId}
use Rattle.ja_prim.specs.Index.{is_index_text}
use Rattle.ja_prim.specs.Texts.{same_text}
use Rattle.ja_graph.specs.declared.program.Program.{Program}
use Rattle.ja_machine.specs.declared.machine.Heap.{Heap}
use Rattle.ja_machine.specs.declared.machine.Property.{Property}
use Rattle.ja_abstract.specs.declared.abstraction.NumberPart.{NumberPart}
use Rattle.ja_abstract.specs.declared.abstraction.NumberPart.TheVariants as number_part
use Rattle.ja_abstract.specs.declared.abstraction.TextPart.{TextPart}
use Rattle.ja_abstract.specs.declared.abstraction.TextPart.TheVariants as text_part
use Rattle.ja_abstract.specs.declared.abstraction.Key.{Key}
use Rattle.ja_abstract.specs.declared.abstraction.Key.TheVariants as key
use Rattle.ja_abstract.specs.AbstractValue.{AbstractValue, AbstractProperty}
use Rattle.ja_abstract.specs.AbstractState.{same_key, name_key}
use Rattle.ja_abstract.specs.Keys.{named, key_of, name_of, rest_key, text_key, whole_text, number_text_has, text_has_rest, number_has_rest, has_key_text, has_rest, has_key}
use Rattle.ja_abstract.specs.Contents.{content_of, property_content}
use Rattle.ja_abstract.specs.Parts.{text_has}
use Rattle.ja_abstract.specs.Made.{own_of}
use Rattle.ja_abstract.proofs.Texts.{text_same, same_text_refl}
use Rattle.ja_abstract.proofs.Keys.{text_of_key, same_key-true, same_key_from}
use Rattle.ja_meaning.specs.Meaning.{knows}

-- ---- objects

pub record IsMadeAs (p : Program) (now : Heap) (q : Property)
    (k : Key × AbstractProperty) : Type 0 where
  pub name : NameId
  pub key_is : k.0 ≡ key.Name name
  pub name_is : key_of p (named q.name) ≡ key.Name name
  pub known : IsTrue (knows now k.1 (content_of q.content q.attrs))

-- properties and keys with properties, one by one: the key is the name's, and the content is known
abbrev pub AreMade : Program → Heap → List Property → List (Key × AbstractProperty) → Type 0
AreMade p now [] [] = Unit {0}
AreMade p now (q ∷ qs) (k ∷ ks) = IsMadeAs p now q k × AreMade p now qs ks
AreMade p now qs ks = ⊥

-- two texts of one name are one
one_text_of : (p : Program) (t u : List ℕ) (n : NameId) → key_of p (named t) ≡ key.Name n
    → key_of p (named u) ≡ key.Name n → t ≡ u
one_text_of p t u n a b = sym (text_of_key p t n a) ∙ text_of_key p u n b

module _ (p : Program) (now : Heap) where
  pub named_made : (qs : List Property) (ks : List (Key × AbstractProperty)) → AreMade p now qs ks
      → (t : List ℕ) → IsTrue (knows now (own_of ks (key_of p (named t)))
      (property_content (find (λ (q : Property). same_text q.name t) qs)))
  named_made [] [] made t = refl
  named_made [] (k ∷ ks) made t = elim made [ ]
  named_made (q ∷ qs) [] made t = elim made [ ]
  named_made (q ∷ qs) (k ∷ ks) made t =
      let m = made.0 in
      let j = key_of p (named t) in
      elim (cases_Bool (same_text q.name t)) [
        | inl same ↦
            let here : IsTrue (same_key k.0 j) =
            same_key_from k.0 j (m.key_is ∙ (sym m.name_is
            ∙ ap (λ u. key_of p (named u)) (text_same q.name t same))) in
            subst (λ r. IsTrue (knows now r (property_content
            (find (λ (r : Property). same_text r.name t) (q ∷ qs)))))
            (sym (cond-true (same_key k.0 j) k.1 (own_of ks j) here))
            (subst (λ o. IsTrue (knows now k.1 (property_content o)))
            (sym (cond-true (same_text q.name t) (Some q)
            (find (λ (r : Property). same_text r.name t) qs) same)) m.known)
        | inr other ↦
            let apart : same_key k.0 j ≡ false = false_from_ne_true (same_key k.0 j) (λ s.
            let is : key_of p (named t) ≡ key.Name m.name =
            sym (same_key-true k.0 j s) ∙ m.key_is in
            false≢true (sym other ∙ subst (λ u. same_text q.name u ≡ true)
            (one_text_of p q.name t m.name m.name_is is) (same_text_refl q.name))) in
            subst (λ r. IsTrue (knows now r (property_content
            (find (λ (r : Property). same_text r.name t) (q ∷ qs)))))
            (sym (cond-false (same_key k.0 j) k.1 (own_of ks j) apart))
            (subst (λ o. IsTrue (knows now (own_of ks j) (property_content o)))
            (sym (cond-false (same_text q.name t) (Some q)
            (find (λ (r : Property). same_text r.name t) qs) other)) (named_made qs ks made.1 t))
      ]

-- ---- computed keys

module _ (p : Program) (t : List ℕ) where
  abbrev kt : Key
  kt = key_of p (named t)

  -- of a rest key: by the class of the text
  text_rest : (s : TextPart) (index : Bool) → is_index_text t ≡ index
      → kt ≡ (if index then key.OtherIndex else key.OtherName) → IsTrue (text_has s t)
      → IsTrue (text_has_rest p s kt)
  text_rest text_part.Nothing index is k e = e
  text_rest (text_part.One u) index is k e =
      same_key_from (text_key p u) kt (ap (λ x. key_of p (named x)) ((bytes_decides u t).0 e))
  text_rest text_part.IndexText true is k e = same_key_from key.OtherIndex kt (sym k)
  text_rest text_part.IndexText false is k e = absurd (false≢true (sym is ∙ e))
  text_rest text_part.OtherText true is k e = absurd (false≢true (sym (ap not is) ∙ e))
  text_rest text_part.OtherText false is k e = same_key_from key.OtherName kt (sym k)
  text_rest text_part.Text index is k e = refl

  number_rest : (n : NumberPart) (index : Bool) → is_index_text t ≡ index
      → kt ≡ (if index then key.OtherIndex else key.OtherName) → IsTrue (number_text_has n t)
      → IsTrue (number_has_rest p n kt)
  number_rest number_part.Nothing index is k e = e
  number_rest (number_part.One z) index is k e =
      same_key_from (text_key p (whole_text z)) kt
      (ap (λ x. key_of p (named x)) (text_same (whole_text z) t e))
  number_rest number_part.Index true is k e = same_key_from key.OtherIndex kt (sym k)
  number_rest number_part.Index false is k e = absurd (false≢true (sym is ∙ e))
  number_rest number_part.OtherWhole true is k e =
      absurd (false≢true (sym (ap not is) ∙ (and_parts _ _ e).1))
  number_rest number_part.OtherWhole false is k e = same_key_from key.OtherName kt (sym k)
  number_rest number_part.Whole index is k e = refl

  rest_has : (v : AbstractValue) (index : Bool) → is_index_text t ≡ index
      → kt ≡ (if index then key.OtherIndex else key.OtherName) → IsTrue (has_key_text v t)
      → IsTrue (has_rest p v kt)
  rest_has v index is k e =
      elim (or_cases (text_has v.text t) _ e) [
        | inl a ↦ or_left _ _ (text_rest v.text index is k a)
        | inr b ↦
            or_right (text_has_rest p v.text kt) _ (elim
            (or_cases (number_text_has v.number t) _ b) [
              | inl a ↦ or_left _ _ (number_rest v.number index is k a)
              | inr d ↦
                  or_right (number_has_rest p v.number kt) _
                  (let (a, f) = and_parts _ _ d in and_from _ _ a
                  (same_key_from (text_key p (codes "NaN")) kt
                  (ap (λ x. key_of p (named x)) (text_same (codes "NaN") t f))))
            ])
      ]

  -- the key of a text that the value may have as a key is one of the value's
  key_by : (v : AbstractValue) → IsTrue (has_key_text v t) → (o : Option ℕ) → name_of p t ≡ o
      → IsTrue (has_key p v kt)
  key_by v e (Some n) is =
      let k : kt ≡ name_key n = ap (λ o. option_map_or name_key o (rest_key t)) is in
      subst (λ j. IsTrue (has_key p v j)) (sym k)
      (subst (λ u. IsTrue (has_key_text v u)) (sym (text_of_key p t (record { 0 = n }) k)) e)
  key_by v e None is =
      let k : kt ≡ rest_key t = ap (λ o. option_map_or name_key o (rest_key t)) is in
      elim (cases_Bool (is_index_text t)) [
        | inl index ↦
            let at : kt ≡ key.OtherIndex = k ∙ cond-true
            (is_index_text t) key.OtherIndex key.OtherName index in
            subst (λ j. IsTrue (has_key p v j)) (sym at)
            (subst (λ j. IsTrue (has_rest p v j)) at (rest_has v true index at e))
        | inr other ↦
            let at : kt ≡ key.OtherName = k ∙ cond-false
            (is_index_text t) key.OtherIndex key.OtherName other in
            subst (λ j. IsTrue (has_key p v j)) (sym at)
            (subst (λ j. IsTrue (has_rest p v j)) at (rest_has v false other at e))
      ]

  pub has_key_of : (v : AbstractValue) → IsTrue (has_key_text v t) → IsTrue (has_key p v kt)
  has_key_of v e = key_by v e (name_of p t) refl
