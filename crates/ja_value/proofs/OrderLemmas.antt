-- The order of values and properties, by tests of their parts.
use Rattle.std.specs.Prelude.{◌≡◌, ◌↔◌, Bool, true, false, ◌&&◌, ◌||◌, IsTrue}
use Rattle.std.proofs.Common.{refl, sym, ap, ◌∙◌}
use Rattle.std.proofs.lemmas.Bool.{and_parts, and_from}
use Rattle.ja_base.specs.declared.ids.Label.{Label}
use Rattle.ja_abstract.specs.AbstractValue.{Labels, AbstractValue, AbstractProperty, join, join_flags, join_numbers, join_texts, join_properties, join_attrs}

-- what says the same as one fact says the same as another that does
pub by_way_of : {A B C : Type 0} → A ↔ B → C ↔ B → A ↔ C
by_way_of h k = ((λ a. k.1 (h.0 a)), (λ c. h.1 (k.0 c)))

-- one fact after another
pub through : {A B C : Type 0} → A ↔ B → B ↔ C → A ↔ C
through h k = ((λ a. k.0 (h.0 a)), (λ c. h.1 (k.1 c)))

or_within : (x y : Bool) → (IsTrue y → IsTrue x) → (x || y) ≡ x
or_within true y h = refl
or_within false true h = sym (h refl)
or_within false false h = refl

or_has : (x y : Bool) → (x || y) ≡ x → IsTrue y → IsTrue x
or_has true y e t = refl
or_has false y e t = sym e ∙ t

-- a set of labels is within another exactly if the other has them already
pub labels_by_join : (a b : Labels)
    → ((l : Label) → IsTrue (a l) → IsTrue (b l)) ↔ ((λ l. b l || a l) ≡ b)
labels_by_join a b = (
  (λ h. λ i l. or_within (b l) (a l) (h l) i),
  (λ e. λ l. or_has (b l) (a l) (ap (λ (f : Labels). f l) e)),
)

-- a value holds another exactly if each part holds the other's
pub joined_by_parts : (a b : AbstractValue) (flags number text label : Bool)
    → IsTrue flags ↔ (join_flags b.flags a.flags ≡ b.flags)
    → IsTrue number ↔ (join_numbers b.number a.number ≡ b.number)
    → IsTrue text ↔ (join_texts b.text a.text ≡ b.text)
    → IsTrue label ↔ ((l : Label) → IsTrue (a.label l) → IsTrue (b.label l))
    → IsTrue (((flags && number) && text) && label) ↔ (join b a ≡ b)
joined_by_parts a b flags number text label f n t l = (
  (λ h.
      let three = and_parts ((flags && number) && text) label h in
      let two = and_parts (flags && number) text three.0 in
      let one = and_parts flags number two.0 in
      let flag = f.0 one.0 in
      let whole = n.0 one.1 in
      let written = t.0 two.1 in
      let labels = (labels_by_join a.label b.label).0 (l.0 three.1) in
      λ i. record { flags = flag i; number = whole i; text = written i; label = labels i }),
  (λ e.
      and_from ((flags && number) && text) label
      (and_from (flags && number) text
      (and_from flags number (f.1 (ap (λ (v : AbstractValue). v.flags) e))
      (n.1 (ap (λ (v : AbstractValue). v.number) e)))
      (t.1 (ap (λ (v : AbstractValue). v.text) e)))
      (l.1 ((labels_by_join a.label b.label).1 (ap (λ (v : AbstractValue). v.label) e)))),
)

pub property_joined_by_parts : (a b : AbstractProperty) (value attrs : Bool)
    → IsTrue value ↔ (join b.value a.value ≡ b.value)
    → IsTrue attrs ↔ (join_attrs b.attrs a.attrs ≡ b.attrs)
    → IsTrue (value && attrs) ↔ (join_properties b a ≡ b)
property_joined_by_parts a b value attrs v s = (
  (λ h.
      let parts = and_parts value attrs h in
      let values = v.0 parts.0 in
      let known = s.0 parts.1 in
      λ i. record { value = values i; attrs = known i }),
  (λ e.
      and_from value attrs (v.1 (ap (λ (q : AbstractProperty). q.value) e))
      (s.1 (ap (λ (q : AbstractProperty). q.attrs) e))),
)
