-- Texts that differ join to a class.
use Rattle.std.proofs.Common.{◌≡◌, ◌↔◌, ℕ, Bool, List, true, false, cond, refl, sym, ap, subst, ◌∙◌}
use Rattle.std.specs.Prelude.{nat_eq, IsTrue}
use Rattle.std.proofs.lemmas.Bool.{false≢true}
use Rattle.std.proofs.lemmas.Slice.Eq.{bytes_eq-Decides}
use lib.Pointwise.{pointwise}
use Rattle.ja_abstract.specs.declared.abstraction.TextPart.{TextPart}
use Rattle.ja_abstract.specs.declared.abstraction.TextPart.TheVariants as text_part
use Rattle.ja_abstract.specs.AbstractValue.{has_text, join_texts, text_class, join_text_classes}

apart : (s t : List ℕ) → (s ≡ t → ⊥) → pointwise nat_eq s t ≡ false
apart s t ne =
    elim (pointwise nat_eq s t) as (λ b. pointwise nat_eq s t ≡ b → b ≡ false)
    [ true ↦ (λ e. absurd (ne ((bytes_eq-Decides s t).0 e))) | false ↦ (λ e. refl) ] refl

pub joined_apart : (s t : List ℕ) (part joined : TextPart) → part ≡ text_part.One t → (s ≡ t → ⊥)
    → joined ≡ join_text_classes (text_class (text_part.One s)) (text_class (text_part.One t))
    → joined ≡ join_texts (text_part.One s) part
joined_apart s t part joined is ne e = rw (is, apart s t ne) e

-- the text parts that hold a part with a text: none where nothing is held, the same one where one
-- text is, and a class where a class is
pub above_nothing : (part other : TextPart) → has_text part ≡ true → other ≡ text_part.Nothing
    → IsTrue false ↔ (join_texts other part ≡ other)
above_nothing part other there is = (
  (λ t. absurd (false≢true t)),
  (λ e. absurd (false≢true (subst (λ (p : TextPart). has_text p ≡ true)
      (subst (λ (o : TextPart). join_texts o part ≡ o) is e) there))),
)

-- a class is no one text
never_one : (a b : TextPart) (s : List ℕ) → join_text_classes a b ≡ text_part.One s → ⊥
never_one text_part.Nothing b s e = cc
never_one (text_part.One t) b s e = cc
never_one text_part.Text b s e = cc
never_one text_part.IndexText text_part.Nothing s e = cc
never_one text_part.IndexText (text_part.One t) s e = cc
never_one text_part.IndexText text_part.IndexText s e = cc
never_one text_part.IndexText text_part.OtherText s e = cc
never_one text_part.IndexText text_part.Text s e = cc
never_one text_part.OtherText text_part.Nothing s e = cc
never_one text_part.OtherText (text_part.One t) s e = cc
never_one text_part.OtherText text_part.IndexText s e = cc
never_one text_part.OtherText text_part.OtherText s e = cc
never_one text_part.OtherText text_part.Text s e = cc

-- what a constant holds besides nothing is itself
held_by_one : (s : List ℕ) (part : TextPart) → has_text part ≡ true
    → join_texts (text_part.One s) part ≡ text_part.One s → part ≡ text_part.One s
held_by_one s text_part.Nothing there e = absurd (false≢true there)
held_by_one s (text_part.One t) there e =
    elim (pointwise nat_eq s t) as (λ b. pointwise nat_eq s t ≡ b
    → cond b (text_part.One s) (join_text_classes (text_class (text_part.One s))
    (text_class (text_part.One t))) ≡ text_part.One s → text_part.One t ≡ text_part.One s) [
      | true ↦ (λ same _. ap text_part.One (sym ((bytes_eq-Decides s t).0 same)))
      | false ↦ (λ _ class. absurd (never_one _ _ s class))
    ] refl e
held_by_one s text_part.IndexText there e =
    absurd (never_one (text_class (text_part.One s)) text_part.IndexText s e)
held_by_one s text_part.OtherText there e =
    absurd (never_one (text_class (text_part.One s)) text_part.OtherText s e)
held_by_one s text_part.Text there e =
    absurd (never_one (text_class (text_part.One s)) text_part.Text s e)

one_twice : (s : List ℕ) → join_texts (text_part.One s) (text_part.One s) ≡ text_part.One s
one_twice s = rw ((bytes_eq-Decides s s).1 refl) refl

pub above_one : (part other : TextPart) (s : List ℕ) (r : Bool) → has_text part ≡ true
    → other ≡ text_part.One s → IsTrue r ↔ (part ≡ other)
    → IsTrue r ↔ (join_texts other part ≡ other)
above_one part other s r there is h = (
  (λ t. ap (join_texts other) (h.0 t) ∙ subst (λ (o : TextPart). join_texts o o ≡ o) (sym is)
      (one_twice s)),
  (λ e. h.1 (held_by_one s part there (subst (λ (o : TextPart). join_texts o part ≡ o) is e)
      ∙ sym is)),
)
