-- A join is below each value that is above both: so it is the least one, and the order of joins is
-- nothing.
use Rattle.std.specs.Prelude.{◌≡◌, ℕ, ℤ, pos, negsuc, Bool, true, false, not, nat_eq, ◌||◌, ◌↔◌, IsTrue, List, [], ◌∷◌}
use Rattle.std.specs.Ordering.{int_eq}
use Rattle.std.proofs.Common.{refl, sym, ◌∙◌, ap, subst}
use Rattle.std.proofs.lemmas.Bool.{or_right, false≢true, cond_both, cond-true, cond-false}
use lib.Pointwise.{pointwise}
use Rattle.ja_prim.specs.Index.{is_index, is_index_text}
use Rattle.ja_abstract.specs.declared.abstraction.Flags.{Flags}
use Rattle.ja_abstract.specs.declared.abstraction.Mask.{Mask}
use Rattle.ja_abstract.specs.declared.abstraction.May.{May}
use Rattle.ja_abstract.specs.declared.abstraction.AAttrs.{AAttrs}
use Rattle.ja_abstract.specs.declared.abstraction.NumberPart.{NumberPart}
use Rattle.ja_abstract.specs.declared.abstraction.NumberPart.TheVariants as number_part
use Rattle.ja_abstract.specs.declared.abstraction.TextPart.{TextPart}
use Rattle.ja_abstract.specs.declared.abstraction.TextPart.TheVariants as text_part
use Rattle.ja_abstract.specs.AbstractValue.{AbstractValue, AbstractProperty, join, join_properties, join_flags, join_may, join_attrs, join_numbers, join_classes, number_class, join_texts, join_text_classes, text_class, no_property}
use Rattle.ja_abstract.specs.AbstractState.{AbstractState, join_states, join_masks}
use Rattle.ja_abstract.specs.Order.{LeqValue, LeqProperty, LeqState}
use Rattle.ja_abstract.specs.Parts.{number_has, text_has}
use Rattle.ja_abstract.proofs.Joins.{number_has-join_right, text_has-join_right}
use Rattle.ja_abstract.proofs.Order.{Below, HasNumbers, HasTexts, same_number, number_itself, same_text, text_itself, value-join, value_same, value_equal, property-join, property_same, property_both, property_equal, state-join, state_same, state_both, state_equal}

-- ---- tests

below-or_right : (x y : Bool) → Below y (x || y)
below-or_right true true = refl
below-or_right true false = refl
below-or_right false true = refl
below-or_right false false = refl

below_least : (x y z : Bool) → Below x z → Below y z → Below (x || y) z
below_least true y z h k = h
below_least false y z h k = k

-- ---- flags, attributes, masks

flags-join_right : (a b : Flags) → join_flags b (join_flags a b) ≡ join_flags a b
flags-join_right a b = λ i. record {
  absent = below-or_right a.absent b.absent i;
  entry = below-or_right a.entry b.entry i;
  row = below-or_right a.row b.row i;
  undefined = below-or_right a.undefined b.undefined i;
  null = below-or_right a.null b.null i;
  is_true = below-or_right a.is_true b.is_true i;
  is_false = below-or_right a.is_false b.is_false i;
  nan = below-or_right a.nan b.nan i;
}

abbrev LeqFlags : Flags → Flags → Type 0
LeqFlags a b = join_flags a b ≡ b

-- of one flag
flag_least : (see : Flags → Bool) (a b c : Flags)
    → ((f g : Flags) → see (join_flags f g) ≡ (see f || see g)) → LeqFlags a c → LeqFlags b c
    → Below (see a || see b) (see c)
flag_least see a b c is h k =
    below_least (see a) (see b) (see c) (sym (is a c) ∙ ap see h) (sym (is b c) ∙ ap see k)

flags_least : (a b c : Flags) → LeqFlags a c → LeqFlags b c → LeqFlags (join_flags a b) c
flags_least a b c h k = λ i. record {
  absent = flag_least (λ (f : Flags). f.absent) a b c (λ f g. refl) h k i;
  entry = flag_least (λ (f : Flags). f.entry) a b c (λ f g. refl) h k i;
  row = flag_least (λ (f : Flags). f.row) a b c (λ f g. refl) h k i;
  undefined = flag_least (λ (f : Flags). f.undefined) a b c (λ f g. refl) h k i;
  null = flag_least (λ (f : Flags). f.null) a b c (λ f g. refl) h k i;
  is_true = flag_least (λ (f : Flags). f.is_true) a b c (λ f g. refl) h k i;
  is_false = flag_least (λ (f : Flags). f.is_false) a b c (λ f g. refl) h k i;
  nan = flag_least (λ (f : Flags). f.nan) a b c (λ f g. refl) h k i;
}

may-join_right : (a b : May) → join_may b (join_may a b) ≡ join_may a b
may-join_right a b =
    λ i. record { set = below-or_right a.set b.set i; unset = below-or_right a.unset b.unset i }

may_least : (a b c : May) → join_may a c ≡ c → join_may b c ≡ c → join_may (join_may a b) c ≡ c
may_least a b c h k = λ i. record {
  set =
      below_least a.set b.set c.set (ap (λ (m : May). m.set) h) (ap (λ (m : May). m.set) k) i;
  unset =
      below_least a.unset b.unset c.unset (ap (λ (m : May). m.unset) h)
      (ap (λ (m : May). m.unset) k) i;
}

attrs-join_right : (a b : AAttrs) → join_attrs b (join_attrs a b) ≡ join_attrs a b
attrs-join_right a b = λ i. record {
  read_only = may-join_right a.read_only b.read_only i;
  dont_enum = may-join_right a.dont_enum b.dont_enum i;
  dont_delete = may-join_right a.dont_delete b.dont_delete i;
}

attrs_least : (a b c : AAttrs) → join_attrs a c ≡ c → join_attrs b c ≡ c
    → join_attrs (join_attrs a b) c ≡ c
attrs_least a b c h k = λ i. record {
  read_only =
      may_least a.read_only b.read_only c.read_only (ap (λ (m : AAttrs). m.read_only) h)
      (ap (λ (m : AAttrs). m.read_only) k) i;
  dont_enum =
      may_least a.dont_enum b.dont_enum c.dont_enum (ap (λ (m : AAttrs). m.dont_enum) h)
      (ap (λ (m : AAttrs). m.dont_enum) k) i;
  dont_delete =
      may_least a.dont_delete b.dont_delete c.dont_delete (ap (λ (m : AAttrs). m.dont_delete) h)
      (ap (λ (m : AAttrs). m.dont_delete) k) i;
}

masks-join_right : (a b : Mask) → join_masks b (join_masks a b) ≡ join_masks a b
masks-join_right a b =
    λ i. record { none = below-or_right a.none b.none i; some = below-or_right a.some b.some i }

masks_least : (a b c : Mask) → join_masks a c ≡ c → join_masks b c ≡ c
    → join_masks (join_masks a b) c ≡ c
masks_least a b c h k = λ i. record {
  none =
      below_least a.none b.none c.none (ap (λ (m : Mask). m.none) h) (ap (λ (m : Mask). m.none) k)
      i;
  some =
      below_least a.some b.some c.some (ap (λ (m : Mask). m.some) h) (ap (λ (m : Mask). m.some) k)
      i;
}

-- ---- what isn't so

not_true : (b : Bool) → IsTrue (not b) → b ≡ false
not_true true h = absurd (false≢true h)
not_true false h = refl

-- ---- numbers

-- a part that has one of an index and another one has all
all_numbers : (c : NumberPart) (x y : ℤ) → is_index x ≡ true → is_index y ≡ false
    → IsTrue (number_has c x) → IsTrue (number_has c y) → (z : ℤ) → IsTrue (number_has c z)
all_numbers number_part.Nothing x y e f h k z = absurd (false≢true h)
all_numbers (number_part.One n) x y e f h k z =
    absurd (false≢true (sym f ∙ ap is_index (sym (same_number n y k)) ∙ ap is_index
    (same_number n x h) ∙ e))
all_numbers number_part.Index x y e f h k z = absurd (false≢true (sym f ∙ k))
all_numbers number_part.OtherWhole x y e f h k z =
    absurd (false≢true (subst (λ b. IsTrue (not b)) e h))
all_numbers number_part.Whole x y e f h k z = refl

-- two different members are in the join of their classes
numbers_apart : (c : NumberPart) (m n : ℤ) → (m ≡ n → ⊥) → IsTrue (number_has c m) → IsTrue
    (number_has c n)
    → HasNumbers (join_classes (number_class (number_part.One m)) (number_class (number_part.One
    n))) c
numbers_apart number_part.Nothing m n apart h k = absurd (false≢true h)
numbers_apart (number_part.One x) m n apart h k =
    absurd (apart (sym (same_number x m h) ∙ same_number x n k))
numbers_apart number_part.Index m n apart h k =
    subst (λ d. HasNumbers (join_classes d (number_class (number_part.One n))) number_part.Index)
    (sym (cond-true (is_index m) number_part.Index number_part.OtherWhole h))
    (subst (λ d. HasNumbers (join_classes number_part.Index d) number_part.Index)
    (sym (cond-true (is_index n) number_part.Index number_part.OtherWhole k)) (λ z e. e))
numbers_apart number_part.OtherWhole m n apart h k =
    subst (λ d. HasNumbers (join_classes d (number_class (number_part.One n)))
    number_part.OtherWhole)
    (sym (cond-false (is_index m) number_part.Index number_part.OtherWhole (not_true (is_index m)
    h)))
    (subst (λ d. HasNumbers (join_classes number_part.OtherWhole d) number_part.OtherWhole)
    (sym (cond-false (is_index n) number_part.Index number_part.OtherWhole (not_true (is_index n)
    k)))
    (λ z e. e))
numbers_apart number_part.Whole m n apart h k = λ z e. refl

-- a constant beside a class
module _ (c : NumberPart) (n : ℤ) (k : IsTrue (number_has c n)) where
  numbers_index_left : HasNumbers number_part.Index c → HasNumbers (join_classes number_part.Index
      (number_class (number_part.One n))) c
  numbers_index_left h =
      cond_both (is_index n) number_part.Index number_part.OtherWhole (λ d. HasNumbers (join_classes
      number_part.Index d) c)
      (λ e. h) (λ e z _. all_numbers c (pos 0) n refl e (h (pos 0) refl) k z)

  numbers_index_right : HasNumbers number_part.Index c → HasNumbers (join_classes (number_class
      (number_part.One n)) number_part.Index) c
  numbers_index_right h =
      cond_both (is_index n) number_part.Index number_part.OtherWhole (λ d. HasNumbers (join_classes
      d number_part.Index) c)
      (λ e. h) (λ e z _. all_numbers c (pos 0) n refl e (h (pos 0) refl) k z)

  numbers_other_left : HasNumbers number_part.OtherWhole c → HasNumbers (join_classes
      number_part.OtherWhole (number_class (number_part.One n))) c
  numbers_other_left h =
      cond_both (is_index n) number_part.Index number_part.OtherWhole (λ d. HasNumbers (join_classes
      number_part.OtherWhole d) c)
      (λ e z _. all_numbers c n (negsuc 0) e refl k (h (negsuc 0) refl) z) (λ e. h)

  numbers_other_right : HasNumbers number_part.OtherWhole c → HasNumbers (join_classes (number_class
      (number_part.One n)) number_part.OtherWhole) c
  numbers_other_right h =
      cond_both (is_index n) number_part.Index number_part.OtherWhole (λ d. HasNumbers (join_classes
      d number_part.OtherWhole) c)
      (λ e z _. all_numbers c n (negsuc 0) e refl k (h (negsuc 0) refl) z) (λ e. h)

  numbers_all_right : HasNumbers number_part.Whole c → HasNumbers (join_classes (number_class
      (number_part.One n)) number_part.Whole) c
  numbers_all_right h =
      cond_both (is_index n) number_part.Index number_part.OtherWhole (λ d. HasNumbers (join_classes
      d number_part.Whole) c)
      (λ e z _. h z refl) (λ e z _. h z refl)

numbers_least : (a b c : NumberPart) → HasNumbers a c → HasNumbers b c → HasNumbers (join_numbers a
    b) c
numbers_least number_part.Nothing b c h k = k
numbers_least (number_part.One m) number_part.Nothing c h k = h
numbers_least (number_part.One m) (number_part.One n) c h k =
    cond_both (int_eq m n) (number_part.One m)
    (join_classes (number_class (number_part.One m)) (number_class (number_part.One n)))
    (λ d. HasNumbers d c) (λ e. h)
    (λ e. numbers_apart c m n (λ is. absurd (false≢true (sym e ∙ subst (λ x. IsTrue (number_has
    (number_part.One m) x))
    is (number_itself m)))) (h m (number_itself m)) (k n (number_itself n)))
numbers_least (number_part.One m) number_part.Index c h k = numbers_index_right c m (h m
    (number_itself m)) k
numbers_least (number_part.One m) number_part.OtherWhole c h k = numbers_other_right c m (h m
    (number_itself m)) k
numbers_least (number_part.One m) number_part.Whole c h k = numbers_all_right c m (h m
    (number_itself m)) k
numbers_least number_part.Index number_part.Nothing c h k = h
numbers_least number_part.Index (number_part.One n) c h k = numbers_index_left c n (k n
    (number_itself n)) h
numbers_least number_part.Index number_part.Index c h k = h
numbers_least number_part.Index number_part.OtherWhole c h k =
    λ z _. all_numbers c (pos 0) (negsuc 0) refl refl (h (pos 0) refl) (k (negsuc 0) refl) z
numbers_least number_part.Index number_part.Whole c h k = λ z _. k z refl
numbers_least number_part.OtherWhole number_part.Nothing c h k = h
numbers_least number_part.OtherWhole (number_part.One n) c h k = numbers_other_left c n (k n
    (number_itself n)) h
numbers_least number_part.OtherWhole number_part.Index c h k =
    λ z _. all_numbers c (pos 0) (negsuc 0) refl refl (k (pos 0) refl) (h (negsuc 0) refl) z
numbers_least number_part.OtherWhole number_part.OtherWhole c h k = h
numbers_least number_part.OtherWhole number_part.Whole c h k = λ z _. k z refl
numbers_least number_part.Whole number_part.Nothing c h k = h
numbers_least number_part.Whole (number_part.One n) c h k = λ z _. h z refl
numbers_least number_part.Whole number_part.Index c h k = λ z _. h z refl
numbers_least number_part.Whole number_part.OtherWhole c h k = λ z _. h z refl
numbers_least number_part.Whole number_part.Whole c h k = h

-- ---- texts

-- a part that has one of an index and another one has all
all_texts : (c : TextPart) (x y : List ℕ) → is_index_text x ≡ true → is_index_text y ≡ false
    → IsTrue (text_has c x) → IsTrue (text_has c y) → (z : List ℕ) → IsTrue (text_has c z)
all_texts text_part.Nothing x y e f h k z = absurd (false≢true h)
all_texts (text_part.One n) x y e f h k z =
    absurd (false≢true (sym f ∙ ap is_index_text (sym (same_text n y k)) ∙ ap is_index_text
    (same_text n x h) ∙ e))
all_texts text_part.IndexText x y e f h k z = absurd (false≢true (sym f ∙ k))
all_texts text_part.OtherText x y e f h k z =
    absurd (false≢true (subst (λ b. IsTrue (not b)) e h))
all_texts text_part.Text x y e f h k z = refl

-- two different members are in the join of their classes
texts_apart : (c : TextPart) (m n : List ℕ) → (m ≡ n → ⊥) → IsTrue (text_has c m) → IsTrue (text_has
    c n)
    → HasTexts (join_text_classes (text_class (text_part.One m)) (text_class (text_part.One n))) c
texts_apart text_part.Nothing m n apart h k = absurd (false≢true h)
texts_apart (text_part.One x) m n apart h k =
    absurd (apart (sym (same_text x m h) ∙ same_text x n k))
texts_apart text_part.IndexText m n apart h k =
    subst (λ d. HasTexts (join_text_classes d (text_class (text_part.One n))) text_part.IndexText)
    (sym (cond-true (is_index_text m) text_part.IndexText text_part.OtherText h))
    (subst (λ d. HasTexts (join_text_classes text_part.IndexText d) text_part.IndexText)
    (sym (cond-true (is_index_text n) text_part.IndexText text_part.OtherText k)) (λ z e. e))
texts_apart text_part.OtherText m n apart h k =
    subst (λ d. HasTexts (join_text_classes d (text_class (text_part.One n))) text_part.OtherText)
    (sym (cond-false (is_index_text m) text_part.IndexText text_part.OtherText (not_true
    (is_index_text m) h)))
    (subst (λ d. HasTexts (join_text_classes text_part.OtherText d) text_part.OtherText)
    (sym (cond-false (is_index_text n) text_part.IndexText text_part.OtherText (not_true
    (is_index_text n) k)))
    (λ z e. e))
texts_apart text_part.Text m n apart h k = λ z e. refl

-- a constant beside a class
module _ (c : TextPart) (n : List ℕ) (k : IsTrue (text_has c n)) where
  texts_index_left : HasTexts text_part.IndexText c → HasTexts (join_text_classes
      text_part.IndexText (text_class (text_part.One n))) c
  texts_index_left h =
      cond_both (is_index_text n) text_part.IndexText text_part.OtherText (λ d. HasTexts
      (join_text_classes text_part.IndexText d) c)
      (λ e. h) (λ e z _. all_texts c (48 ∷ []) n refl e (h (48 ∷ []) refl) k z)

  texts_index_right : HasTexts text_part.IndexText c → HasTexts (join_text_classes (text_class
      (text_part.One n)) text_part.IndexText) c
  texts_index_right h =
      cond_both (is_index_text n) text_part.IndexText text_part.OtherText (λ d. HasTexts
      (join_text_classes d text_part.IndexText) c)
      (λ e. h) (λ e z _. all_texts c (48 ∷ []) n refl e (h (48 ∷ []) refl) k z)

  texts_other_left : HasTexts text_part.OtherText c → HasTexts (join_text_classes
      text_part.OtherText (text_class (text_part.One n))) c
  texts_other_left h =
      cond_both (is_index_text n) text_part.IndexText text_part.OtherText (λ d. HasTexts
      (join_text_classes text_part.OtherText d) c)
      (λ e z _. all_texts c n ([]) e refl k (h ([]) refl) z) (λ e. h)

  texts_other_right : HasTexts text_part.OtherText c → HasTexts (join_text_classes (text_class
      (text_part.One n)) text_part.OtherText) c
  texts_other_right h =
      cond_both (is_index_text n) text_part.IndexText text_part.OtherText (λ d. HasTexts
      (join_text_classes d text_part.OtherText) c)
      (λ e z _. all_texts c n ([]) e refl k (h ([]) refl) z) (λ e. h)

  texts_all_right : HasTexts text_part.Text c → HasTexts (join_text_classes (text_class
      (text_part.One n)) text_part.Text) c
  texts_all_right h =
      cond_both (is_index_text n) text_part.IndexText text_part.OtherText (λ d. HasTexts
      (join_text_classes d text_part.Text) c)
      (λ e z _. h z refl) (λ e z _. h z refl)

texts_least : (a b c : TextPart) → HasTexts a c → HasTexts b c → HasTexts (join_texts a b) c
texts_least text_part.Nothing b c h k = k
texts_least (text_part.One m) text_part.Nothing c h k = h
texts_least (text_part.One m) (text_part.One n) c h k =
    cond_both (pointwise nat_eq m n) (text_part.One m)
    (join_text_classes (text_class (text_part.One m)) (text_class (text_part.One n)))
    (λ d. HasTexts d c) (λ e. h)
    (λ e. texts_apart c m n (λ is. absurd (false≢true (sym e ∙ subst (λ x. IsTrue (text_has
    (text_part.One m) x))
    is (text_itself m)))) (h m (text_itself m)) (k n (text_itself n)))
texts_least (text_part.One m) text_part.IndexText c h k = texts_index_right c m (h m (text_itself
    m)) k
texts_least (text_part.One m) text_part.OtherText c h k = texts_other_right c m (h m (text_itself
    m)) k
texts_least (text_part.One m) text_part.Text c h k = texts_all_right c m (h m (text_itself m)) k
texts_least text_part.IndexText text_part.Nothing c h k = h
texts_least text_part.IndexText (text_part.One n) c h k = texts_index_left c n (k n (text_itself n))
    h
texts_least text_part.IndexText text_part.IndexText c h k = h
texts_least text_part.IndexText text_part.OtherText c h k =
    λ z _. all_texts c (48 ∷ []) ([]) refl refl (h (48 ∷ []) refl) (k ([]) refl) z
texts_least text_part.IndexText text_part.Text c h k = λ z _. k z refl
texts_least text_part.OtherText text_part.Nothing c h k = h
texts_least text_part.OtherText (text_part.One n) c h k = texts_other_left c n (k n (text_itself n))
    h
texts_least text_part.OtherText text_part.IndexText c h k =
    λ z _. all_texts c (48 ∷ []) ([]) refl refl (k (48 ∷ []) refl) (h ([]) refl) z
texts_least text_part.OtherText text_part.OtherText c h k = h
texts_least text_part.OtherText text_part.Text c h k = λ z _. k z refl
texts_least text_part.Text text_part.Nothing c h k = h
texts_least text_part.Text (text_part.One n) c h k = λ z _. h z refl
texts_least text_part.Text text_part.IndexText c h k = λ z _. h z refl
texts_least text_part.Text text_part.OtherText c h k = λ z _. h z refl
texts_least text_part.Text text_part.Text c h k = h

-- ---- values, properties, states

pub value-join_right : (a b : AbstractValue) → LeqValue b (join a b)
value-join_right a b = record {
  flags = flags-join_right a.flags b.flags;
  number = λ n. number_has-join_right a.number b.number n;
  text = λ t. text_has-join_right a.text b.text t;
  label = λ l. or_right (a.label l) (b.label l);
}

or_elim : (x y z : Bool) → (IsTrue x → IsTrue z) → (IsTrue y → IsTrue z) → IsTrue (x || y)
    → IsTrue z
or_elim true y z h k e = h refl
or_elim false y z h k e = k e

pub value_least : (a b c : AbstractValue) → LeqValue a c → LeqValue b c → LeqValue (join a b) c
value_least a b c h k = record {
  flags = flags_least a.flags b.flags c.flags h.flags k.flags;
  number = numbers_least a.number b.number c.number h.number k.number;
  text = texts_least a.text b.text c.text h.text k.text;
  label = λ l e. or_elim (a.label l) (b.label l) (c.label l) (h.label l) (k.label l) e;
}

pub property-join_right : (a b : AbstractProperty) → LeqProperty b (join_properties a b)
property-join_right a b = record {
  value = value-join_right a.value b.value;
  attrs = attrs-join_right a.attrs b.attrs;
}

pub property_least : (a b c : AbstractProperty) → LeqProperty a c → LeqProperty b c
    → LeqProperty (join_properties a b) c
property_least a b c h k = record {
  value = value_least a.value b.value c.value h.value k.value;
  attrs = attrs_least a.attrs b.attrs c.attrs h.attrs k.attrs;
}

pub state-join_right : (a b : AbstractState) → LeqState b (join_states a b)
state-join_right a b = record {
  register = λ r. value-join_right (a.register r) (b.register r);
  property = λ l k. property-join_right (a.property l k) (b.property l k);
  mask = λ t. masks-join_right (a.mask t) (b.mask t);
}

pub state_least : (a b c : AbstractState) → LeqState a c → LeqState b c
    → LeqState (join_states a b) c
state_least a b c h k = record {
  register =
      λ r. value_least (a.register r) (b.register r) (c.register r) (h.register r) (k.register r);
  property =
      λ l j. property_least (a.property l j) (b.property l j) (c.property l j) (h.property l j)
      (k.property l j);
  mask = λ t. masks_least (a.mask t) (b.mask t) (c.mask t) (h.mask t) (k.mask t);
}

-- ---- the order by joins

-- what is below another is what a join into it doesn't change
pub value_by_join : (a b : AbstractValue) → LeqValue a b ↔ (join b a ≡ b)
value_by_join a b = (
  (λ h. value_equal (join b a) b (value_least b a b (value_same b) h)
      (value-join b a)),
  (λ e. subst (LeqValue a) e (value-join_right b a)),
)

pub property_by_join : (a b : AbstractProperty) → LeqProperty a b ↔ (join_properties b a ≡ b)
property_by_join a b = (
  (λ h. property_equal (join_properties b a) b
      (property_least b a b (property_same b) h) (property-join b a)),
  (λ e. subst (LeqProperty a) e (property-join_right b a)),
)

-- ---- in any order

pub states_turned : (a b : AbstractState) → join_states a b ≡ join_states b a
states_turned a b =
    let below : (c d : AbstractState) → LeqState (join_states c d) (join_states d c) =
    λ c d. state_least c d (join_states d c) (state-join_right d c) (state-join d c) in
    state_equal (join_states a b) (join_states b a) (below a b) (below b a)

pub states_grouped : (a b c : AbstractState)
    → join_states (join_states a b) c ≡ join_states a (join_states b c)
states_grouped a b c =
    let left = join_states (join_states a b) c in
    let right = join_states a (join_states b c) in
    let in_left : LeqState (join_states a b) left = state-join (join_states a b) c in
    let in_right : LeqState (join_states b c) right = state-join_right a (join_states b c) in
    state_equal left right
    (state_least (join_states a b) c right (state_least a b right
    (state-join a (join_states b c)) (state_both b (join_states b c) right (state-join b c)
    in_right))
    (state_both c (join_states b c) right (state-join_right b c) in_right))
    (state_least a (join_states b c) left
    (state_both a (join_states a b) left (state-join a b) in_left)
    (state_least b c left (state_both b (join_states a b) left (state-join_right a b) in_left)
    (state-join_right (join_states a b) c)))

pub state_twice : (a : AbstractState) → join_states a a ≡ a
state_twice a =
    state_equal (join_states a a) a (state_least a a a (state_same a) (state_same a))
    (state-join a a)

-- ---- properties: in any groups, twice, and with nothing

pub properties_grouped : (a b c : AbstractProperty)
    → join_properties (join_properties a b) c ≡ join_properties a (join_properties b c)
properties_grouped a b c =
    let left = join_properties (join_properties a b) c in
    let right = join_properties a (join_properties b c) in
    let in_left : LeqProperty (join_properties a b) left = property-join (join_properties a b) c in
    let in_right : LeqProperty (join_properties b c) right =
    property-join_right a (join_properties b c) in
    property_equal left right
    (property_least (join_properties a b) c right (property_least a b right
    (property-join a (join_properties b c))
    (property_both b (join_properties b c) right (property-join b c) in_right))
    (property_both c (join_properties b c) right (property-join_right b c) in_right))
    (property_least a (join_properties b c) left
    (property_both a (join_properties a b) left (property-join a b) in_left)
    (property_least b c left
    (property_both b (join_properties a b) left (property-join_right a b) in_left)
    (property-join_right (join_properties a b) c)))

pub property_twice : (q : AbstractProperty) → join_properties q q ≡ q
property_twice q =
    property_equal (join_properties q q) q (property_least q q q (property_same q) (property_same
    q))
    (property-join q q)

pub no_property-least : (q : AbstractProperty) → LeqProperty no_property q
no_property-least q = record {
  value =
      record {
        flags = refl;
        number = λ n h. absurd (false≢true h);
        text = λ t h. absurd (false≢true h);
        label = λ l h. absurd (false≢true h);
      };
  attrs = refl;
}

pub with_nothing : (q : AbstractProperty) → join_properties q no_property ≡ q
with_nothing q =
    property_equal (join_properties q no_property) q
    (property_least q no_property q (property_same q) (no_property-least q))
    (property-join q no_property)
