-- The order of abstract values and states: joins are above what they join, and what is below each
-- other is equal.
use Rattle.std.specs.Prelude.{◌≡◌, ℕ, ℤ, pos, negsuc, Bool, true, false, ◌||◌, IsTrue, List, [], ◌∷◌, Option, Some, None}
use Rattle.std.specs.Ordering.{int_eq}
use Rattle.std.proofs.Common.{refl, sym, ◌∙◌, ap, subst}
use Rattle.std.proofs.lemmas.Bool.{or_left, false≢true, true≢false}
use Rattle.std.proofs.lemmas.Bool.Decides.{Decides-int_eq}
use lib.Pointwise.{bytes_decides}
use Rattle.ja_base.specs.declared.ids.Label.{Label}
use Rattle.ja_abstract.specs.declared.abstraction.Flags.{Flags}
use Rattle.ja_abstract.specs.declared.abstraction.Key.{Key}
use Rattle.ja_abstract.specs.declared.abstraction.Mask.{Mask}
use Rattle.ja_abstract.specs.declared.abstraction.May.{May}
use Rattle.ja_abstract.specs.declared.abstraction.AAttrs.{AAttrs}
use Rattle.ja_abstract.specs.declared.abstraction.NumberPart.{NumberPart}
use Rattle.ja_abstract.specs.declared.abstraction.NumberPart.TheVariants as number_part
use Rattle.ja_abstract.specs.declared.abstraction.TextPart.{TextPart}
use Rattle.ja_abstract.specs.declared.abstraction.TextPart.TheVariants as text_part
use Rattle.ja_abstract.specs.AbstractValue.{AbstractValue, AbstractProperty, join, join_properties, join_flags, join_may, join_attrs}
use Rattle.ja_abstract.specs.AbstractState.{AbstractState, join_states, join_masks}
use Rattle.ja_abstract.specs.Order.{LeqValue, LeqProperty, LeqState}
use Rattle.ja_abstract.specs.Parts.{number_has, text_has}
use Rattle.ja_abstract.specs.Resolved.{Entries}
use Rattle.ja_abstract.proofs.Joins.{number_has-join_left, text_has-join_left}

-- ---- one test

-- x is set where y is
abbrev pub Below : Bool → Bool → Type 0
Below x y = x || y ≡ y

below-or : (x y : Bool) → Below x (x || y)
below-or true y = refl
below-or false y = refl

below_same : (x : Bool) → Below x x
below_same true = refl
below_same false = refl

below_both : (x y z : Bool) → Below x y → Below y z → Below x z
below_both true true z h k = k
below_both true false z h k = absurd (true≢false h)
below_both false y z h k = refl

below_equal : (x y : Bool) → Below x y → Below y x → x ≡ y
below_equal true true h k = refl
below_equal true false h k = h
below_equal false true h k = sym k
below_equal false false h k = refl

-- a set of labels as tests
pub below_label : (x y : Bool) → (IsTrue x → IsTrue y) → (IsTrue y → IsTrue x) → x ≡ y
below_label true true h k = refl
below_label true false h k = sym (h refl)
below_label false true h k = k refl
below_label false false h k = refl

-- ---- flags, attributes and masks

flags-join : (a b : Flags) → join_flags a (join_flags a b) ≡ join_flags a b
flags-join a b = λ i. record {
  absent = below-or a.absent b.absent i;
  entry = below-or a.entry b.entry i;
  row = below-or a.row b.row i;
  undefined = below-or a.undefined b.undefined i;
  null = below-or a.null b.null i;
  is_true = below-or a.is_true b.is_true i;
  is_false = below-or a.is_false b.is_false i;
  nan = below-or a.nan b.nan i;
}

pub flags_same : (a : Flags) → join_flags a a ≡ a
flags_same a = λ i. record {
  absent = below_same a.absent i;
  entry = below_same a.entry i;
  row = below_same a.row i;
  undefined = below_same a.undefined i;
  null = below_same a.null i;
  is_true = below_same a.is_true i;
  is_false = below_same a.is_false i;
  nan = below_same a.nan i;
}

flags_both : (a b c : Flags) → join_flags a b ≡ b → join_flags b c ≡ c → join_flags a c ≡ c
flags_both a b c h k = λ i. record {
  absent =
      below_both a.absent b.absent c.absent (ap (λ (f : Flags). f.absent) h)
      (ap (λ (f : Flags). f.absent) k) i;
  entry =
      below_both a.entry b.entry c.entry (ap (λ (f : Flags). f.entry) h)
      (ap (λ (f : Flags). f.entry) k) i;
  row = below_both a.row b.row c.row (ap (λ (f : Flags). f.row) h) (ap (λ (f : Flags). f.row) k) i;
  undefined =
      below_both a.undefined b.undefined c.undefined (ap (λ (f : Flags). f.undefined) h)
      (ap (λ (f : Flags). f.undefined) k) i;
  null =
      below_both a.null b.null c.null (ap (λ (f : Flags). f.null) h) (ap (λ (f : Flags). f.null) k)
      i;
  is_true =
      below_both a.is_true b.is_true c.is_true (ap (λ (f : Flags). f.is_true) h)
      (ap (λ (f : Flags). f.is_true) k) i;
  is_false =
      below_both a.is_false b.is_false c.is_false (ap (λ (f : Flags). f.is_false) h)
      (ap (λ (f : Flags). f.is_false) k) i;
  nan = below_both a.nan b.nan c.nan (ap (λ (f : Flags). f.nan) h) (ap (λ (f : Flags). f.nan) k) i;
}

flags_equal : (a b : Flags) → join_flags a b ≡ b → join_flags b a ≡ a → a ≡ b
flags_equal a b h k = λ i. record {
  absent =
      below_equal a.absent b.absent (ap (λ (f : Flags). f.absent) h)
      (ap (λ (f : Flags). f.absent) k) i;
  entry =
      below_equal a.entry b.entry (ap (λ (f : Flags). f.entry) h) (ap (λ (f : Flags). f.entry) k) i;
  row = below_equal a.row b.row (ap (λ (f : Flags). f.row) h) (ap (λ (f : Flags). f.row) k) i;
  undefined =
      below_equal a.undefined b.undefined (ap (λ (f : Flags). f.undefined) h)
      (ap (λ (f : Flags). f.undefined) k) i;
  null = below_equal a.null b.null (ap (λ (f : Flags). f.null) h) (ap (λ (f : Flags). f.null) k) i;
  is_true =
      below_equal a.is_true b.is_true (ap (λ (f : Flags). f.is_true) h)
      (ap (λ (f : Flags). f.is_true) k) i;
  is_false =
      below_equal a.is_false b.is_false (ap (λ (f : Flags). f.is_false) h)
      (ap (λ (f : Flags). f.is_false) k) i;
  nan = below_equal a.nan b.nan (ap (λ (f : Flags). f.nan) h) (ap (λ (f : Flags). f.nan) k) i;
}

may-join : (a b : May) → join_may a (join_may a b) ≡ join_may a b
may-join a b = λ i. record { set = below-or a.set b.set i; unset = below-or a.unset b.unset i }

may_same : (a : May) → join_may a a ≡ a
may_same a = λ i. record { set = below_same a.set i; unset = below_same a.unset i }

may_both : (a b c : May) → join_may a b ≡ b → join_may b c ≡ c → join_may a c ≡ c
may_both a b c h k = λ i. record {
  set = below_both a.set b.set c.set (ap (λ (m : May). m.set) h) (ap (λ (m : May). m.set) k) i;
  unset =
      below_both a.unset b.unset c.unset (ap (λ (m : May). m.unset) h) (ap (λ (m : May). m.unset) k)
      i;
}

may_equal : (a b : May) → join_may a b ≡ b → join_may b a ≡ a → a ≡ b
may_equal a b h k = λ i. record {
  set = below_equal a.set b.set (ap (λ (m : May). m.set) h) (ap (λ (m : May). m.set) k) i;
  unset = below_equal a.unset b.unset (ap (λ (m : May). m.unset) h) (ap (λ (m : May). m.unset) k) i;
}

attrs-join : (a b : AAttrs) → join_attrs a (join_attrs a b) ≡ join_attrs a b
attrs-join a b =
    λ i. record {
      read_only = may-join a.read_only b.read_only i;
      dont_enum = may-join a.dont_enum b.dont_enum i;
      dont_delete = may-join a.dont_delete b.dont_delete i;
    }

attrs_same : (a : AAttrs) → join_attrs a a ≡ a
attrs_same a =
    λ i. record {
      read_only = may_same a.read_only i;
      dont_enum = may_same a.dont_enum i;
      dont_delete = may_same a.dont_delete i;
    }

attrs_both : (a b c : AAttrs) → join_attrs a b ≡ b → join_attrs b c ≡ c → join_attrs a c ≡ c
attrs_both a b c h k = λ i. record {
  read_only =
      may_both a.read_only b.read_only c.read_only (ap (λ (m : AAttrs). m.read_only) h)
      (ap (λ (m : AAttrs). m.read_only) k) i;
  dont_enum =
      may_both a.dont_enum b.dont_enum c.dont_enum (ap (λ (m : AAttrs). m.dont_enum) h)
      (ap (λ (m : AAttrs). m.dont_enum) k) i;
  dont_delete =
      may_both a.dont_delete b.dont_delete c.dont_delete (ap (λ (m : AAttrs). m.dont_delete) h)
      (ap (λ (m : AAttrs). m.dont_delete) k) i;
}

pub attrs_equal : (a b : AAttrs) → join_attrs a b ≡ b → join_attrs b a ≡ a → a ≡ b
attrs_equal a b h k = λ i. record {
  read_only =
      may_equal a.read_only b.read_only (ap (λ (m : AAttrs). m.read_only) h)
      (ap (λ (m : AAttrs). m.read_only) k) i;
  dont_enum =
      may_equal a.dont_enum b.dont_enum (ap (λ (m : AAttrs). m.dont_enum) h)
      (ap (λ (m : AAttrs). m.dont_enum) k) i;
  dont_delete =
      may_equal a.dont_delete b.dont_delete (ap (λ (m : AAttrs). m.dont_delete) h)
      (ap (λ (m : AAttrs). m.dont_delete) k) i;
}

pub masks-join : (a b : Mask) → join_masks a (join_masks a b) ≡ join_masks a b
masks-join a b = λ i. record { none = below-or a.none b.none i; some = below-or a.some b.some i }

masks_same : (a : Mask) → join_masks a a ≡ a
masks_same a = λ i. record { none = below_same a.none i; some = below_same a.some i }

masks_both : (a b c : Mask) → join_masks a b ≡ b → join_masks b c ≡ c → join_masks a c ≡ c
masks_both a b c h k = λ i. record {
  none =
      below_both a.none b.none c.none (ap (λ (m : Mask). m.none) h) (ap (λ (m : Mask). m.none) k) i;
  some =
      below_both a.some b.some c.some (ap (λ (m : Mask). m.some) h) (ap (λ (m : Mask). m.some) k) i;
}

pub masks_equal : (a b : Mask) → join_masks a b ≡ b → join_masks b a ≡ a → a ≡ b
masks_equal a b h k = λ i. record {
  none = below_equal a.none b.none (ap (λ (m : Mask). m.none) h) (ap (λ (m : Mask). m.none) k) i;
  some = below_equal a.some b.some (ap (λ (m : Mask). m.some) h) (ap (λ (m : Mask). m.some) k) i;
}

-- ---- numbers and texts: parts that have the same are equal

abbrev pub HasNumbers : NumberPart → NumberPart → Type 0
HasNumbers a b = (n : ℤ) → IsTrue (number_has a n) → IsTrue (number_has b n)

pub same_number : (m n : ℤ) → IsTrue (int_eq m n) → m ≡ n
same_number m n h = (Decides-int_eq m n).0 h

pub number_itself : (m : ℤ) → IsTrue (int_eq m m)
number_itself m = (Decides-int_eq m m).1 refl

-- a constant has no two numbers
pub one_alone : (m : ℤ) → (number_has (number_part.One m) (pos 0) ≡ true)
    → (number_has (number_part.One m) (pos 1) ≡ true) → ⊥
one_alone m h k = let e : pos 0 ≡ pos 1 = sym (same_number m (pos 0) h) ∙ same_number m (pos 1) k in
    absurd (cc)

pub one_alone_below : (m : ℤ) → (number_has (number_part.One m) (negsuc 0) ≡ true)
    → (number_has (number_part.One m) (negsuc 1) ≡ true) → ⊥
one_alone_below m h k =
    let e : negsuc 0 ≡ negsuc 1 = sym (same_number m (negsuc 0) h) ∙ same_number m (negsuc 1) k in
    absurd (cc)

numbers_equal : (a b : NumberPart) → HasNumbers a b → HasNumbers b a → a ≡ b
numbers_equal number_part.Nothing number_part.Nothing h k = refl
numbers_equal number_part.Nothing (number_part.One n) h k =
    absurd (false≢true (k n (number_itself n)))
numbers_equal number_part.Nothing number_part.Index h k = absurd (false≢true (k (pos 0) refl))
numbers_equal number_part.Nothing number_part.OtherWhole h k =
    absurd (false≢true (k (negsuc 0) refl))
numbers_equal number_part.Nothing number_part.Whole h k = absurd (false≢true (k (pos 0) refl))
numbers_equal (number_part.One m) number_part.Nothing h k =
    absurd (false≢true (h m (number_itself m)))
numbers_equal (number_part.One m) (number_part.One n) h k =
    ap number_part.One (sym (same_number n m (h m (number_itself m))))
numbers_equal (number_part.One m) number_part.Index h k =
    absurd (one_alone m (k (pos 0) refl) (k (pos 1) refl))
numbers_equal (number_part.One m) number_part.OtherWhole h k =
    absurd (one_alone_below m (k (negsuc 0) refl) (k (negsuc 1) refl))
numbers_equal (number_part.One m) number_part.Whole h k =
    absurd (one_alone m (k (pos 0) refl) (k (pos 1) refl))
numbers_equal number_part.Index number_part.Nothing h k = absurd (false≢true (h (pos 0) refl))
numbers_equal number_part.Index (number_part.One n) h k =
    absurd (one_alone n (h (pos 0) refl) (h (pos 1) refl))
numbers_equal number_part.Index number_part.Index h k = refl
numbers_equal number_part.Index number_part.OtherWhole h k = absurd (false≢true (h (pos 0) refl))
numbers_equal number_part.Index number_part.Whole h k = absurd (false≢true (k (negsuc 0) refl))
numbers_equal number_part.OtherWhole number_part.Nothing h k =
    absurd (false≢true (h (negsuc 0) refl))
numbers_equal number_part.OtherWhole (number_part.One n) h k =
    absurd (one_alone_below n (h (negsuc 0) refl) (h (negsuc 1) refl))
numbers_equal number_part.OtherWhole number_part.Index h k = absurd (false≢true (h (negsuc 0) refl))
numbers_equal number_part.OtherWhole number_part.OtherWhole h k = refl
numbers_equal number_part.OtherWhole number_part.Whole h k = absurd (false≢true (k (pos 0) refl))
numbers_equal number_part.Whole number_part.Nothing h k = absurd (false≢true (h (pos 0) refl))
numbers_equal number_part.Whole (number_part.One n) h k =
    absurd (one_alone n (h (pos 0) refl) (h (pos 1) refl))
numbers_equal number_part.Whole number_part.Index h k = absurd (false≢true (h (negsuc 0) refl))
numbers_equal number_part.Whole number_part.OtherWhole h k = absurd (false≢true (h (pos 0) refl))
numbers_equal number_part.Whole number_part.Whole h k = refl

abbrev pub HasTexts : TextPart → TextPart → Type 0
HasTexts a b = (t : List ℕ) → IsTrue (text_has a t) → IsTrue (text_has b t)

pub same_text : (s t : List ℕ) → IsTrue (text_has (text_part.One s) t) → s ≡ t
same_text s t h = (bytes_decides s t).0 h

pub text_itself : (t : List ℕ) → IsTrue (text_has (text_part.One t) t)
text_itself t = (bytes_decides t t).1 refl

-- the texts 0 and 1 are those of indices, the empty one and "a" aren't
pub one_text_alone : (s : List ℕ) → IsTrue (text_has (text_part.One s) (48 ∷ []))
    → IsTrue (text_has (text_part.One s) (49 ∷ [])) → ⊥
one_text_alone s h k =
    absurd (false≢true (subst (λ u. IsTrue (text_has (text_part.One u) (49 ∷ [])))
    (same_text s (48 ∷ []) h) k))

pub one_text_alone_other : (s : List ℕ) → IsTrue (text_has (text_part.One s) [])
    → IsTrue (text_has (text_part.One s) (97 ∷ [])) → ⊥
one_text_alone_other s h k =
    absurd (false≢true (subst (λ u. IsTrue (text_has (text_part.One u) (97 ∷ [])))
    (same_text s [] h) k))

texts_equal : (a b : TextPart) → HasTexts a b → HasTexts b a → a ≡ b
texts_equal text_part.Nothing text_part.Nothing h k = refl
texts_equal text_part.Nothing (text_part.One t) h k = absurd (false≢true (k t (text_itself t)))
texts_equal text_part.Nothing text_part.IndexText h k = absurd (false≢true (k (48 ∷ []) refl))
texts_equal text_part.Nothing text_part.OtherText h k = absurd (false≢true (k [] refl))
texts_equal text_part.Nothing text_part.Text h k = absurd (false≢true (k [] refl))
texts_equal (text_part.One s) text_part.Nothing h k = absurd (false≢true (h s (text_itself s)))
texts_equal (text_part.One s) (text_part.One t) h k =
    ap text_part.One (sym (same_text t s (h s (text_itself s))))
texts_equal (text_part.One s) text_part.IndexText h k =
    absurd (one_text_alone s (k (48 ∷ []) refl) (k (49 ∷ []) refl))
texts_equal (text_part.One s) text_part.OtherText h k =
    absurd (one_text_alone_other s (k [] refl) (k (97 ∷ []) refl))
texts_equal (text_part.One s) text_part.Text h k =
    absurd (one_text_alone s (k (48 ∷ []) refl) (k (49 ∷ []) refl))
texts_equal text_part.IndexText text_part.Nothing h k = absurd (false≢true (h (48 ∷ []) refl))
texts_equal text_part.IndexText (text_part.One t) h k =
    absurd (one_text_alone t (h (48 ∷ []) refl) (h (49 ∷ []) refl))
texts_equal text_part.IndexText text_part.IndexText h k = refl
texts_equal text_part.IndexText text_part.OtherText h k = absurd (false≢true (h (48 ∷ []) refl))
texts_equal text_part.IndexText text_part.Text h k = absurd (false≢true (k [] refl))
texts_equal text_part.OtherText text_part.Nothing h k = absurd (false≢true (h [] refl))
texts_equal text_part.OtherText (text_part.One t) h k =
    absurd (one_text_alone_other t (h [] refl) (h (97 ∷ []) refl))
texts_equal text_part.OtherText text_part.IndexText h k = absurd (false≢true (h [] refl))
texts_equal text_part.OtherText text_part.OtherText h k = refl
texts_equal text_part.OtherText text_part.Text h k = absurd (false≢true (k (48 ∷ []) refl))
texts_equal text_part.Text text_part.Nothing h k = absurd (false≢true (h [] refl))
texts_equal text_part.Text (text_part.One t) h k =
    absurd (one_text_alone t (h (48 ∷ []) refl) (h (49 ∷ []) refl))
texts_equal text_part.Text text_part.IndexText h k = absurd (false≢true (h [] refl))
texts_equal text_part.Text text_part.OtherText h k = absurd (false≢true (h (48 ∷ []) refl))
texts_equal text_part.Text text_part.Text h k = refl

-- ---- values

pub value-join : (a b : AbstractValue) → LeqValue a (join a b)
value-join a b = record {
  flags = flags-join a.flags b.flags;
  number = λ n. number_has-join_left a.number b.number n;
  text = λ t. text_has-join_left a.text b.text t;
  label = λ l. or_left (a.label l) (b.label l);
}

pub value_same : (a : AbstractValue) → LeqValue a a
value_same a =
    record { flags = flags_same a.flags; number = λ n h. h; text = λ t h. h; label = λ l h. h }

pub value_both : (a b c : AbstractValue) → LeqValue a b → LeqValue b c → LeqValue a c
value_both a b c h k = record {
  flags = flags_both a.flags b.flags c.flags h.flags k.flags;
  number = λ n e. k.number n (h.number n e);
  text = λ t e. k.text t (h.text t e);
  label = λ l e. k.label l (h.label l e);
}

pub value_equal : (a b : AbstractValue) → LeqValue a b → LeqValue b a → a ≡ b
value_equal a b h k = λ i. record {
  flags = flags_equal a.flags b.flags h.flags k.flags i;
  number = numbers_equal a.number b.number h.number k.number i;
  text = texts_equal a.text b.text h.text k.text i;
  label = λ l. below_label (a.label l) (b.label l) (h.label l) (k.label l) i;
}

-- ---- properties

pub property-join : (a b : AbstractProperty) → LeqProperty a (join_properties a b)
property-join a b =
    record { value = value-join a.value b.value; attrs = attrs-join a.attrs b.attrs }

pub property_same : (a : AbstractProperty) → LeqProperty a a
property_same a = record { value = value_same a.value; attrs = attrs_same a.attrs }

pub property_both : (a b c : AbstractProperty) → LeqProperty a b → LeqProperty b c → LeqProperty a c
property_both a b c h k = record {
  value = value_both a.value b.value c.value h.value k.value;
  attrs = attrs_both a.attrs b.attrs c.attrs h.attrs k.attrs;
}

pub property_equal : (a b : AbstractProperty) → LeqProperty a b → LeqProperty b a → a ≡ b
property_equal a b h k = λ i. record {
  value = value_equal a.value b.value h.value k.value i;
  attrs = attrs_equal a.attrs b.attrs h.attrs k.attrs i;
}

-- ---- states

pub state-join : (a b : AbstractState) → LeqState a (join_states a b)
state-join a b = record {
  register = λ r. value-join (a.register r) (b.register r);
  property = λ l k. property-join (a.property l k) (b.property l k);
  mask = λ t. masks-join (a.mask t) (b.mask t);
}

pub state_same : (a : AbstractState) → LeqState a a
state_same a =
    record {
      register = λ r. value_same (a.register r);
      property = λ l k. property_same (a.property l k);
      mask = λ t. masks_same (a.mask t);
    }

pub state_both : (a b c : AbstractState) → LeqState a b → LeqState b c → LeqState a c
state_both a b c h k = record {
  register =
      λ r. value_both (a.register r) (b.register r) (c.register r) (h.register r) (k.register r);
  property =
      λ l j. property_both (a.property l j) (b.property l j) (c.property l j) (h.property l j)
      (k.property l j);
  mask = λ t. masks_both (a.mask t) (b.mask t) (c.mask t) (h.mask t) (k.mask t);
}

pub state_equal : (a b : AbstractState) → LeqState a b → LeqState b a → a ≡ b
state_equal a b h k = λ i. record {
  register = λ r. value_equal (a.register r) (b.register r) (h.register r) (k.register r) i;
  property =
      λ l j. property_equal (a.property l j) (b.property l j) (h.property l j) (k.property l j) i;
  mask = λ t. masks_equal (a.mask t) (b.mask t) (h.mask t) (k.mask t) i;
}

-- ---- what may not be there

abbrev pub LeqOptionState : Option AbstractState → Option AbstractState → Type 0
LeqOptionState None b = Unit {0}
LeqOptionState (Some a) None = ⊥
LeqOptionState (Some a) (Some b) = LeqState a b

pub option_state_same : (a : Option AbstractState) → LeqOptionState a a
option_state_same None = tt
option_state_same (Some a) = state_same a

pub option_state_both : (a b c : Option AbstractState) → LeqOptionState a b → LeqOptionState b c
    → LeqOptionState a c
option_state_both None b c h k = tt
option_state_both (Some a) None c h k = absurd h
option_state_both (Some a) (Some b) None h k = absurd k
option_state_both (Some a) (Some b) (Some c) h k = state_both a b c h k

pub option_state_equal : (a b : Option AbstractState) → LeqOptionState a b → LeqOptionState b a
    → a ≡ b
option_state_equal None None h k = refl
option_state_equal None (Some b) h k = absurd k
option_state_equal (Some a) None h k = absurd h
option_state_equal (Some a) (Some b) h k = ap Some (state_equal a b h k)

abbrev pub LeqOptionProperty : Option AbstractProperty → Option AbstractProperty → Type 0
LeqOptionProperty None b = Unit {0}
LeqOptionProperty (Some a) None = ⊥
LeqOptionProperty (Some a) (Some b) = LeqProperty a b

pub option_property_same : (a : Option AbstractProperty) → LeqOptionProperty a a
option_property_same None = tt
option_property_same (Some a) = property_same a

pub option_property_both : (a b c : Option AbstractProperty) → LeqOptionProperty a b
    → LeqOptionProperty b c → LeqOptionProperty a c
option_property_both None b c h k = tt
option_property_both (Some a) None c h k = absurd h
option_property_both (Some a) (Some b) None h k = absurd k
option_property_both (Some a) (Some b) (Some c) h k = property_both a b c h k

pub option_property_equal : (a b : Option AbstractProperty) → LeqOptionProperty a b
    → LeqOptionProperty b a → a ≡ b
option_property_equal None None h k = refl
option_property_equal None (Some b) h k = absurd k
option_property_equal (Some a) None h k = absurd h
option_property_equal (Some a) (Some b) h k = ap Some (property_equal a b h k)

-- ---- values at entry

pub record LeqEntries (e f : Entries) : Type 0 where
  pub each : (l : Label) (k : Key) → LeqOptionProperty (e l k) (f l k)

pub entries_same : (e : Entries) → LeqEntries e e
entries_same e = record { each = λ l k. option_property_same (e l k) }

pub entries_both : (e f g : Entries) → LeqEntries e f → LeqEntries f g → LeqEntries e g
entries_both e f g h k =
    record { each = λ l j. option_property_both (e l j) (f l j) (g l j) (h.each l j) (k.each l j) }

pub entries_equal : (e f : Entries) → LeqEntries e f → LeqEntries f e → e ≡ f
entries_equal e f h k = λ i l j. option_property_equal (e l j) (f l j) (h.each l j) (k.each l j) i
