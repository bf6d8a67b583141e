-- A value above another, and not below it, has a higher rank.
use Rattle.std.specs.Prelude.{◌≡◌, ◌⊎◌, ℕ, ℤ, pos, negsuc, ◌+◌, ◌<◌, ◌≤◌, Bool, true, false, ◌||◌, cond, IsTrue, List, [], ◌∷◌, filter, length}
use Rattle.std.specs.List.{list_any}
use Rattle.std.proofs.Common.{refl, sym, ap, ◌∙◌, subst, arith, inl, inr, ⊎_elim}
use Rattle.std.proofs.lemmas.Bool.{and_parts, or_cases, cases_lt, false≢true, true≢false}
use Rattle.ja_base.specs.declared.ids.Label.{Label}
use Rattle.ja_abstract.specs.declared.abstraction.Flags.{Flags}
use Rattle.ja_abstract.specs.declared.abstraction.NumberPart.{NumberPart}
use Rattle.ja_abstract.specs.declared.abstraction.NumberPart.TheVariants as number_part
use Rattle.ja_abstract.specs.declared.abstraction.TextPart.{TextPart}
use Rattle.ja_abstract.specs.declared.abstraction.TextPart.TheVariants as text_part
use Rattle.ja_abstract.specs.AbstractValue.{Labels, AbstractValue, same_label, join_flags}
use Rattle.ja_abstract.specs.Order.{LeqValue}
use Rattle.ja_abstract.specs.Parts.{number_has, text_has}
use Rattle.ja_abstract.specs.Rank.{flag_rank, flags_rank, number_rank, text_rank, rank, among}
use Rattle.ja_abstract.proofs.Labels.{IsAmong, same_label-true}
use Rattle.ja_abstract.proofs.Order.{Below, HasNumbers, HasTexts, same_number, number_itself, one_alone, one_alone_below, same_text, text_itself, one_text_alone, one_text_alone_other, flags_same}

-- the one has a lower rank, or the two are equal
abbrev Rises : {X : Type 0} → (X → ℕ) → X → X → Type 0
Rises rank a b = (rank a < rank b) ⊎ (a ≡ b)

rises_le : {X : Type 0} (rank : X → ℕ) (a b : X) → Rises rank a b → rank a ≤ rank b
rises_le rank a b = ⊎_elim (λ less. omega arith) (λ e. omega (arith, ap rank e))

rises_same : {X : Type 0} (rank : X → ℕ) (a b : X) → Rises rank a b → rank b ≤ rank a → a ≡ b
rises_same rank a b r le = ⊎_elim (λ less. absurd (omega arith)) (λ e. e) r

-- ---- number parts and text parts

numbers_rise : (a b : NumberPart) → HasNumbers a b → Rises number_rank a b
numbers_rise number_part.Nothing number_part.Nothing h = inr refl
numbers_rise number_part.Nothing (number_part.One n) h = inl (omega arith)
numbers_rise number_part.Nothing number_part.Index h = inl (omega arith)
numbers_rise number_part.Nothing number_part.OtherWhole h = inl (omega arith)
numbers_rise number_part.Nothing number_part.Whole h = inl (omega arith)
numbers_rise (number_part.One m) number_part.Nothing h = absurd (false≢true (h m (number_itself m)))
numbers_rise (number_part.One m) (number_part.One n) h = inr (ap number_part.One (sym (same_number n m (h m (number_itself m)))))
numbers_rise (number_part.One m) number_part.Index h = inl (omega arith)
numbers_rise (number_part.One m) number_part.OtherWhole h = inl (omega arith)
numbers_rise (number_part.One m) number_part.Whole h = inl (omega arith)
numbers_rise number_part.Index number_part.Nothing h = absurd (false≢true (h (pos 0) refl))
numbers_rise number_part.Index (number_part.One n) h = absurd (one_alone n (h (pos 0) refl) (h (pos 1) refl))
numbers_rise number_part.Index number_part.Index h = inr refl
numbers_rise number_part.Index number_part.OtherWhole h = absurd (false≢true (h (pos 0) refl))
numbers_rise number_part.Index number_part.Whole h = inl (omega arith)
numbers_rise number_part.OtherWhole number_part.Nothing h = absurd (false≢true (h (negsuc 0) refl))
numbers_rise number_part.OtherWhole (number_part.One n) h = absurd (one_alone_below n (h (negsuc 0) refl) (h (negsuc 1) refl))
numbers_rise number_part.OtherWhole number_part.Index h = absurd (false≢true (h (negsuc 0) refl))
numbers_rise number_part.OtherWhole number_part.OtherWhole h = inr refl
numbers_rise number_part.OtherWhole number_part.Whole h = inl (omega arith)
numbers_rise number_part.Whole number_part.Nothing h = absurd (false≢true (h (pos 0) refl))
numbers_rise number_part.Whole (number_part.One n) h = absurd (one_alone n (h (pos 0) refl) (h (pos 1) refl))
numbers_rise number_part.Whole number_part.Index h = absurd (false≢true (h (negsuc 0) refl))
numbers_rise number_part.Whole number_part.OtherWhole h = absurd (false≢true (h (pos 0) refl))
numbers_rise number_part.Whole number_part.Whole h = inr refl

texts_rise : (a b : TextPart) → HasTexts a b → Rises text_rank a b
texts_rise text_part.Nothing text_part.Nothing h = inr refl
texts_rise text_part.Nothing (text_part.One t) h = inl (omega arith)
texts_rise text_part.Nothing text_part.IndexText h = inl (omega arith)
texts_rise text_part.Nothing text_part.OtherText h = inl (omega arith)
texts_rise text_part.Nothing text_part.Text h = inl (omega arith)
texts_rise (text_part.One s) text_part.Nothing h = absurd (false≢true (h s (text_itself s)))
texts_rise (text_part.One s) (text_part.One t) h = inr (ap text_part.One (sym (same_text t s (h s (text_itself s)))))
texts_rise (text_part.One s) text_part.IndexText h = inl (omega arith)
texts_rise (text_part.One s) text_part.OtherText h = inl (omega arith)
texts_rise (text_part.One s) text_part.Text h = inl (omega arith)
texts_rise text_part.IndexText text_part.Nothing h = absurd (false≢true (h (48 ∷ []) refl))
texts_rise text_part.IndexText (text_part.One t) h = absurd (one_text_alone t (h (48 ∷ []) refl) (h (49 ∷ []) refl))
texts_rise text_part.IndexText text_part.IndexText h = inr refl
texts_rise text_part.IndexText text_part.OtherText h = absurd (false≢true (h (48 ∷ []) refl))
texts_rise text_part.IndexText text_part.Text h = inl (omega arith)
texts_rise text_part.OtherText text_part.Nothing h = absurd (false≢true (h [] refl))
texts_rise text_part.OtherText (text_part.One t) h = absurd (one_text_alone_other t (h [] refl) (h (97 ∷ []) refl))
texts_rise text_part.OtherText text_part.IndexText h = absurd (false≢true (h [] refl))
texts_rise text_part.OtherText text_part.OtherText h = inr refl
texts_rise text_part.OtherText text_part.Text h = inl (omega arith)
texts_rise text_part.Text text_part.Nothing h = absurd (false≢true (h [] refl))
texts_rise text_part.Text (text_part.One t) h = absurd (one_text_alone t (h (48 ∷ []) refl) (h (49 ∷ []) refl))
texts_rise text_part.Text text_part.IndexText h = absurd (false≢true (h [] refl))
texts_rise text_part.Text text_part.OtherText h = absurd (false≢true (h (48 ∷ []) refl))
texts_rise text_part.Text text_part.Text h = inr refl

-- ---- flags

flag_le : (x y : Bool) → Below x y → flag_rank x ≤ flag_rank y
flag_le true true h = omega arith
flag_le true false h = absurd (true≢false h)
flag_le false y h = omega arith

flag_same : (x y : Bool) → flag_rank x ≡ flag_rank y → x ≡ y
flag_same true true h = refl
flag_same true false h = absurd (omega arith)
flag_same false true h = absurd (omega arith)
flag_same false false h = refl

-- ---- labels

-- what a test that passes more adds to those of a list that pass
record MoreLabels (p q : Labels) (ls : List Label) : Type 0 where
  le : length (filter p ls) ≤ length (filter q ls)
  same : length (filter q ls) ≤ length (filter p ls) → (l : Label) → IsAmong l ls → IsTrue (q l)
      → IsTrue (p l)

one_label_more : (p q : Labels) (x : Label) (xs : List Label) (u v : Bool) → p x ≡ u → q x ≡ v
    → (IsTrue (p x) → IsTrue (q x)) → MoreLabels p q xs → MoreLabels p q (x ∷ xs)
one_label_more p q x xs true true pe qe h rest = record {
  le = rw (pe, qe) (omega (arith, rest.le));
  same = λ back l a e. elim (or_cases (same_label l x) (list_any (same_label l) xs) a) [
    | inl s ↦ subst (λ k. IsTrue (p k)) (sym (same_label-true l x s)) pe
    | inr r ↦ rest.same (omega (arith, rw (pe, qe) at back)) l r e
  ];
}
one_label_more p q x xs true false pe qe h rest = absurd (false≢true (sym qe ∙ h pe))
one_label_more p q x xs false true pe qe h rest = record {
  le = rw (pe, qe) (omega (arith, rest.le));
  same = λ back l a e. absurd (omega (arith, rest.le, rw (pe, qe) at back));
}
one_label_more p q x xs false false pe qe h rest = record {
  le = rw (pe, qe) rest.le;
  same = λ back l a e. elim (or_cases (same_label l x) (list_any (same_label l) xs) a) [
    | inl s ↦ absurd (false≢true (sym qe ∙ subst (λ k. IsTrue (q k)) (same_label-true l x s) e))
    | inr r ↦ rest.same (rw (pe, qe) at back) l r e
  ];
}

more_labels : (p q : Labels) (ls : List Label) → ((l : Label) → IsTrue (p l) → IsTrue (q l))
    → MoreLabels p q ls
more_labels p q [] h =
    record { le = omega arith; same = λ back l a e. absurd (false≢true a) }
more_labels p q (x ∷ xs) h =
    one_label_more p q x xs (p x) (q x) refl refl (h x) (more_labels p q xs h)

-- ---- values

flags_le : (a b : Flags) → join_flags a b ≡ b → flags_rank a ≤ flags_rank b
flags_le a b h =
    omega (
      arith,
      flag_le a.absent b.absent (ap (λ (f : Flags). f.absent) h),
      flag_le a.entry b.entry (ap (λ (f : Flags). f.entry) h),
      flag_le a.row b.row (ap (λ (f : Flags). f.row) h),
      flag_le a.undefined b.undefined (ap (λ (f : Flags). f.undefined) h),
      flag_le a.null b.null (ap (λ (f : Flags). f.null) h),
      flag_le a.is_true b.is_true (ap (λ (f : Flags). f.is_true) h),
      flag_le a.is_false b.is_false (ap (λ (f : Flags). f.is_false) h),
      flag_le a.nan b.nan (ap (λ (f : Flags). f.nan) h),
    )

flags_rise : (a b : Flags) → join_flags a b ≡ b → flags_rank b ≤ flags_rank a → a ≡ b
flags_rise a b h back =
    let absent = flag_le a.absent b.absent (ap (λ (f : Flags). f.absent) h) in
    let entry = flag_le a.entry b.entry (ap (λ (f : Flags). f.entry) h) in
    let row = flag_le a.row b.row (ap (λ (f : Flags). f.row) h) in
    let undefined = flag_le a.undefined b.undefined (ap (λ (f : Flags). f.undefined) h) in
    let null = flag_le a.null b.null (ap (λ (f : Flags). f.null) h) in
    let is_true = flag_le a.is_true b.is_true (ap (λ (f : Flags). f.is_true) h) in
    let is_false = flag_le a.is_false b.is_false (ap (λ (f : Flags). f.is_false) h) in
    let nan = flag_le a.nan b.nan (ap (λ (f : Flags). f.nan) h) in
    λ i. record {
      absent = flag_same a.absent b.absent (omega arith) i;
      entry = flag_same a.entry b.entry (omega arith) i;
      row = flag_same a.row b.row (omega arith) i;
      undefined = flag_same a.undefined b.undefined (omega arith) i;
      null = flag_same a.null b.null (omega arith) i;
      is_true = flag_same a.is_true b.is_true (omega arith) i;
      is_false = flag_same a.is_false b.is_false (omega arith) i;
      nan = flag_same a.nan b.nan (omega arith) i;
    }

-- what each part of a value adds to its rank, where another is above it
record Ranks (labels : List Label) (a b : AbstractValue) : Type 0 where
  flags : flags_rank a.flags ≤ flags_rank b.flags
  number : number_rank a.number ≤ number_rank b.number
  text : text_rank a.text ≤ text_rank b.text
  label : MoreLabels a.label b.label labels

ranks_of : (labels : List Label) (a b : AbstractValue) → LeqValue a b → Ranks labels a b
ranks_of labels a b h = record {
  flags = flags_le a.flags b.flags h.flags;
  number = rises_le number_rank a.number b.number (numbers_rise a.number b.number h.number);
  text = rises_le text_rank a.text b.text (texts_rise a.text b.text h.text);
  label = more_labels a.label b.label labels h.label;
}

-- where the rank of the one above is no higher, it is below too, as far as its labels of the list go
back : (labels : List Label) (a b : AbstractValue) → LeqValue a b
    → rank labels b ≤ rank labels a → LeqValue (among labels b) a
back labels a b h less =
    let r = ranks_of labels a b h in
    let label = r.label.le in
    let flags : a.flags ≡ b.flags = flags_rise a.flags b.flags h.flags (omega arith) in
    let number : a.number ≡ b.number = rises_same number_rank a.number b.number
    (numbers_rise a.number b.number h.number) (omega arith) in
    let text : a.text ≡ b.text = rises_same text_rank a.text b.text
    (texts_rise a.text b.text h.text) (omega arith) in
    record {
      flags = rw flags (flags_same b.flags);
      number = λ n e. subst (λ (p : NumberPart). IsTrue (number_has p n)) (sym number) e;
      text = λ t e. subst (λ (p : TextPart). IsTrue (text_has p t)) (sym text) e;
      label =
          λ l e. let both = and_parts (b.label l) (list_any (same_label l) labels) e in
          r.label.same (omega arith) l both.1 both.0;
    }

pub rank_le : (labels : List Label) (a b : AbstractValue) → LeqValue a b
    → rank labels a ≤ rank labels b
rank_le labels a b h =
    let r = ranks_of labels a b h in let label = r.label.le in omega arith

pub rank_rises : (labels : List Label) (a b : AbstractValue) → LeqValue a b
    → (LeqValue (among labels b) a → ⊥) → rank labels a < rank labels b
rank_rises labels a b h other =
    ⊎_elim (λ (less : rank labels a < rank labels b). less)
    (λ (more : rank labels b ≤ rank labels a). absurd (other (back labels a b h more)))
    (cases_lt (rank labels a) (rank labels b))
