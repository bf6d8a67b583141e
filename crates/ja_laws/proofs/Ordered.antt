-- What the order of abstract values, properties and states comes to.
use Rattle.std.specs.Prelude.{◌≡◌, ◌⊎◌, ℕ, ℤ, pos, negsuc, Bool, true, false, IsTrue, List, [], ◌∷◌}
use Rattle.std.proofs.Common.{refl, sym, subst, ap, inl, inr}
use Rattle.std.proofs.lemmas.Bool.{false≢true, cond-true, cond-false, not-true}
use Rattle.ja_prim.specs.declared.primitive.Num.TheVariants.{NaN, Whole}
use Rattle.ja_prim.specs.declared.primitive.Primitive.{Primitive}
use Rattle.ja_prim.specs.declared.primitive.Primitive.TheVariants as primitive
use Rattle.ja_prim.specs.Index.{is_index, is_index_text}
use Rattle.ja_abstract.specs.declared.abstraction.Flags.{Flags}
use Rattle.ja_abstract.specs.declared.abstraction.NumberPart.{NumberPart}
use Rattle.ja_abstract.specs.declared.abstraction.NumberPart.TheVariants as number_part
use Rattle.ja_abstract.specs.declared.abstraction.TextPart.{TextPart}
use Rattle.ja_abstract.specs.declared.abstraction.TextPart.TheVariants as text_part
use Rattle.ja_abstract.specs.AbstractValue.{AbstractValue, number_class, text_class}
use Rattle.ja_abstract.specs.Order.{LeqValue, LeqProperty, LeqState}
use Rattle.ja_laws.specs.OrderLaws.{IsOrder, HasNumbersOf, HasTextsOf, IsNumberBelow, IsTextBelow, HasAllOf}
use Rattle.ja_abstract.specs.Parts.{text_has, has_primitive}
use Rattle.ja_abstract.proofs.Joins.{number_class_has, text_class_has}
use Rattle.ja_abstract.proofs.Order.{Below, same_number, number_itself, one_alone, one_alone_below, same_text, text_itself, value_same, value_both, value_equal, property_same, property_both, property_equal, state_same, state_both, state_equal}

-- ---- one test

-- x is set where y is, as a fact
below_from : (x y : Bool) → (IsTrue x → IsTrue y) → Below x y
below_from true y h = sym (h refl)
below_from false y h = refl

below_to : (x y : Bool) → Below x y → IsTrue x → IsTrue y
below_to true y h e = sym h
below_to false y h e = absurd (false≢true e)

-- ---- numbers

-- what has no number is nothing
none_below : (a : NumberPart) → HasNumbersOf number_part.Nothing a → a ≡ number_part.Nothing
none_below number_part.Nothing h = refl
none_below (number_part.One m) h = absurd (false≢true (h m (number_itself m)))
none_below number_part.Index h = absurd (false≢true (h (pos 0) refl))
none_below number_part.OtherWhole h = absurd (false≢true (h (negsuc 0) refl))
none_below number_part.Whole h = absurd (false≢true (h (pos 0) refl))

-- what has one number at most is nothing or that one
one_below : (z : ℤ) (a : NumberPart) → HasNumbersOf (number_part.One z) a
    → (a ≡ number_part.Nothing) ⊎ (a ≡ number_part.One z)
one_below z number_part.Nothing h = inl refl
one_below z (number_part.One m) h =
    inr (ap number_part.One (sym (same_number z m (h m (number_itself m)))))
one_below z number_part.Index h = absurd (one_alone z (h (pos 0) refl) (h (pos 1) refl))
one_below z number_part.OtherWhole h =
    absurd (one_alone_below z (h (negsuc 0) refl) (h (negsuc 1) refl))
one_below z number_part.Whole h = absurd (one_alone z (h (pos 0) refl) (h (pos 1) refl))

-- what has indices alone is nothing or of their class, and what has others alone of theirs
index_below : (a : NumberPart) → HasNumbersOf number_part.Index a
    → (a ≡ number_part.Nothing) ⊎ (number_class a ≡ number_part.Index)
index_below number_part.Nothing h = inl refl
index_below (number_part.One m) h =
    inr (cond-true (is_index m) number_part.Index number_part.OtherWhole (h m (number_itself m)))
index_below number_part.Index h = inr refl
index_below number_part.OtherWhole h = absurd (false≢true (h (negsuc 0) refl))
index_below number_part.Whole h = absurd (false≢true (h (negsuc 0) refl))

other_below : (a : NumberPart) → HasNumbersOf number_part.OtherWhole a
    → (a ≡ number_part.Nothing) ⊎ (number_class a ≡ number_part.OtherWhole)
other_below number_part.Nothing h = inl refl
other_below (number_part.One m) h =
    inr (cond-false (is_index m) number_part.Index number_part.OtherWhole
    (not-true (is_index m) (h m (number_itself m))))
other_below number_part.Index h = absurd (false≢true (h (pos 0) refl))
other_below number_part.OtherWhole h = inr refl
other_below number_part.Whole h = absurd (false≢true (h (pos 0) refl))

-- ---- texts

-- a constant that has two texts makes the one a constant that has the other
one_text : (s t : List ℕ) → (u : List ℕ) → IsTrue (text_has (text_part.One s) t)
    → IsTrue (text_has (text_part.One s) u) → IsTrue (text_has (text_part.One t) u)
one_text s t u h k = subst (λ r. IsTrue (text_has (text_part.One r) u)) (same_text s t h) k

no_text_below : (a : TextPart) → HasTextsOf text_part.Nothing a → a ≡ text_part.Nothing
no_text_below text_part.Nothing h = refl
no_text_below (text_part.One t) h = absurd (false≢true (h t (text_itself t)))
no_text_below text_part.IndexText h = absurd (false≢true (h (48 ∷ []) refl))
no_text_below text_part.OtherText h = absurd (false≢true (h [] refl))
no_text_below text_part.Text h = absurd (false≢true (h [] refl))

one_text_below : (s : List ℕ) (a : TextPart) → HasTextsOf (text_part.One s) a
    → (a ≡ text_part.Nothing) ⊎ (a ≡ text_part.One s)
one_text_below s text_part.Nothing h = inl refl
one_text_below s (text_part.One t) h =
    inr (ap text_part.One (sym (same_text s t (h t (text_itself t)))))
one_text_below s text_part.IndexText h =
    absurd (false≢true (one_text s (48 ∷ []) (49 ∷ []) (h (48 ∷ []) refl) (h (49 ∷ []) refl)))
one_text_below s text_part.OtherText h =
    absurd (false≢true (one_text s [] (97 ∷ []) (h [] refl) (h (97 ∷ []) refl)))
one_text_below s text_part.Text h =
    absurd (false≢true (one_text s [] (97 ∷ []) (h [] refl) (h (97 ∷ []) refl)))

index_text_below : (a : TextPart) → HasTextsOf text_part.IndexText a
    → (a ≡ text_part.Nothing) ⊎ (text_class a ≡ text_part.IndexText)
index_text_below text_part.Nothing h = inl refl
index_text_below (text_part.One t) h =
    inr (cond-true (is_index_text t) text_part.IndexText text_part.OtherText (h t (text_itself t)))
index_text_below text_part.IndexText h = inr refl
index_text_below text_part.OtherText h = absurd (false≢true (h [] refl))
index_text_below text_part.Text h = absurd (false≢true (h [] refl))

other_text_below : (a : TextPart) → HasTextsOf text_part.OtherText a
    → (a ≡ text_part.Nothing) ⊎ (text_class a ≡ text_part.OtherText)
other_text_below text_part.Nothing h = inl refl
other_text_below (text_part.One t) h =
    inr (cond-false (is_index_text t) text_part.IndexText text_part.OtherText
    (not-true (is_index_text t) (h t (text_itself t))))
other_text_below text_part.IndexText h = absurd (false≢true (h (48 ∷ []) refl))
other_text_below text_part.OtherText h = inr refl
other_text_below text_part.Text h = absurd (false≢true (h (48 ∷ []) refl))

-- ---- values, properties and states

pub value_order : IsOrder LeqValue
value_order =
    record { reflexive = value_same; transitive = value_both; antisymmetric = value_equal }

pub property_order : IsOrder LeqProperty
property_order =
    record { reflexive = property_same; transitive = property_both; antisymmetric = property_equal }

pub state_order : IsOrder LeqState
state_order =
    record { reflexive = state_same; transitive = state_both; antisymmetric = state_equal }

-- ---- what the order comes to

pub has_all : (a b : AbstractValue) → LeqValue a b → HasAllOf b a
has_all a b h = record {
  primitive = each;
  label = h.label;
  absent = below_to _ _ (ap (λ (f : Flags). f.absent) h.flags);
  entry = below_to _ _ (ap (λ (f : Flags). f.entry) h.flags);
  row = below_to _ _ (ap (λ (f : Flags). f.row) h.flags);
}
  where
    each : (q : Primitive) → IsTrue (has_primitive a q) → IsTrue (has_primitive b q)
    each primitive.Undefined = below_to _ _ (ap (λ (f : Flags). f.undefined) h.flags)
    each primitive.Null = below_to _ _ (ap (λ (f : Flags). f.null) h.flags)
    each (primitive.Bool true) = below_to _ _ (ap (λ (f : Flags). f.is_true) h.flags)
    each (primitive.Bool false) = below_to _ _ (ap (λ (f : Flags). f.is_false) h.flags)
    each (primitive.Number NaN) = below_to _ _ (ap (λ (f : Flags). f.nan) h.flags)
    each (primitive.Number (Whole n)) = h.number n
    each (primitive.Text t) = h.text t

pub leq_from : (a b : AbstractValue) → HasAllOf b a → LeqValue a b
leq_from a b h = record {
  flags = λ i. record {
    absent = below_from a.flags.absent b.flags.absent h.absent i;
    entry = below_from a.flags.entry b.flags.entry h.entry i;
    row = below_from a.flags.row b.flags.row h.row i;
    undefined = below_from a.flags.undefined b.flags.undefined (h.primitive primitive.Undefined) i;
    null = below_from a.flags.null b.flags.null (h.primitive primitive.Null) i;
    is_true = below_from a.flags.is_true b.flags.is_true (h.primitive (primitive.Bool true)) i;
    is_false = below_from a.flags.is_false b.flags.is_false (h.primitive (primitive.Bool false)) i;
    nan = below_from a.flags.nan b.flags.nan (h.primitive (primitive.Number NaN)) i;
  };
  number = λ n. h.primitive (primitive.Number (Whole n));
  text = λ t. h.primitive (primitive.Text t);
  label = h.label;
}

pub numbers_from : (a b : NumberPart) → IsNumberBelow a b → HasNumbersOf b a
numbers_from a b (inl none) =
    subst (HasNumbersOf b) (sym none) (λ n e. absurd (false≢true e))
numbers_from a b (inr (inl same)) = subst (HasNumbersOf b) (sym same) (λ n e. e)
numbers_from a b (inr (inr (inl class))) =
    subst (λ x. HasNumbersOf x a) class (λ n e. number_class_has a n e)
numbers_from a b (inr (inr (inr all))) = subst (λ x. HasNumbersOf x a) (sym all) (λ n e. refl)

pub numbers_to : (a b : NumberPart) → HasNumbersOf b a → IsNumberBelow a b
numbers_to a number_part.Nothing h = inl (none_below a h)
numbers_to a (number_part.One z) h =
    elim (one_below z a h) [ inl none ↦ inl none | inr same ↦ inr (inl same) ]
numbers_to a number_part.Index h =
    elim (index_below a h) [ inl none ↦ inl none | inr class ↦ inr (inr (inl class)) ]
numbers_to a number_part.OtherWhole h =
    elim (other_below a h) [ inl none ↦ inl none | inr class ↦ inr (inr (inl class)) ]
numbers_to a number_part.Whole h = inr (inr (inr refl))

pub texts_from : (a b : TextPart) → IsTextBelow a b → HasTextsOf b a
texts_from a b (inl none) = subst (HasTextsOf b) (sym none) (λ n e. absurd (false≢true e))
texts_from a b (inr (inl same)) = subst (HasTextsOf b) (sym same) (λ n e. e)
texts_from a b (inr (inr (inl class))) =
    subst (λ x. HasTextsOf x a) class (λ n e. text_class_has a n e)
texts_from a b (inr (inr (inr all))) = subst (λ x. HasTextsOf x a) (sym all) (λ n e. refl)

pub texts_to : (a b : TextPart) → HasTextsOf b a → IsTextBelow a b
texts_to a text_part.Nothing h = inl (no_text_below a h)
texts_to a (text_part.One z) h =
    elim (one_text_below z a h) [ inl none ↦ inl none | inr same ↦ inr (inl same) ]
texts_to a text_part.IndexText h =
    elim (index_text_below a h) [ inl none ↦ inl none | inr class ↦ inr (inr (inl class)) ]
texts_to a text_part.OtherText h =
    elim (other_text_below a h) [ inl none ↦ inl none | inr class ↦ inr (inr (inl class)) ]
texts_to a text_part.Text h = inr (inr (inr refl))
