use Rattle.std.proofs.Common.{◌≡◌, List, ◌∷◌, [], ℕ, MatchOption, Option, Some, None, false, true, refl, sym, subst, ◌∙◌, ap}
use lib.Chars.{codes}
use Rattle.ja_prim.specs.Texts.{same_text}
use Rattle.ja_abstract.specs.declared.abstraction.AAttrs.{AAttrs}
use Rattle.ja_abstract.specs.declared.abstraction.Key.{Key}
use Rattle.ja_abstract.specs.declared.abstraction.Key.TheVariants as key
use Rattle.ja_abstract.specs.declared.abstraction.Slot.{Slot}
use Rattle.ja_abstract.specs.AbstractValue.{unknown_attrs}
use Rattle.ja_abstract.proofs.Texts.{text_same}
use Rattle.ja_report.specs.Texts.{attr_text, attrs_text}
use Rattle.ja_cert.specs.Wrong.{are_attrs}
use Rattle.ja_cert_parts.specs.code.Own.{HasOwnAttrs}
use Rattle.ja_cert_parts.specs.code.Ranks.{are_attrs_at}
use Rattle.ja_cert_parts.proofs.attributes.attrs_at.Goals as goal

of_slot : (k : Key) (s : Slot) (text : List ℕ) (a : AAttrs) → k ≡ key.Slot s
    → same_text text (codes "...") ≡ true → a ≡ unknown_attrs
    → (are_attrs_at k text ≡ true) × (attrs_text k a ≡ text) × HasOwnAttrs k a
unfolding attrs_text
of_slot k s text a is same unknown =
    let dots : text ≡ codes "..." = text_same text (codes "...") same in (
      (λ i. are_attrs_at (is i) (dots i)),
      (λ i. attrs_text (is i) a) ∙ sym dots,
      subst (λ (j : Key). HasOwnAttrs j a) (sym is) unknown,
    )

-- the three letters
abbrev letters : AAttrs → List ℕ
letters a =
    attr_text 82 a.read_only ∷ attr_text 69 a.dont_enum ∷ attr_text 68 a.dont_delete ∷ []

of_letters : (text : List ℕ) (o : Option AAttrs)
    → MatchOption o (are_attrs text ≡ false) (λ a. (are_attrs text ≡ true) × (letters a ≡ text))
    → MatchOption o (are_attrs text ≡ false)
    (λ a. (are_attrs text ≡ true) × (letters a ≡ text) × Unit {0})
of_letters text None read = read
of_letters text (Some a) read = (read.0, read.1, tt)

of_name : (k : Key) (text : List ℕ) (o : Option AAttrs) → ((s : Slot) → k ≡ key.Slot s → ⊥)
    → MatchOption o (are_attrs text ≡ false) (λ a. (are_attrs text ≡ true) × (letters a ≡ text))
    → MatchOption o (are_attrs_at k text ≡ false)
    (λ a. (are_attrs_at k text ≡ true) × (attrs_text k a ≡ text) × HasOwnAttrs k a)
unfolding attrs_text
of_name (key.Name n) text o other read = of_letters text o read
of_name key.OtherIndex text o other read = of_letters text o read
of_name key.OtherName text o other read = of_letters text o read
of_name (key.Slot s) text o other read = absurd (other s refl)

pub returns-then-eq : goal.returns-then-eq
returns-then-eq c =
    of_slot c.args.key c.in-Slot.field-0 c.args.text.now c.unknown_attrs.result c.in-Slot.is
    (ap (same_text c.args.text.now) (sym c.as_slice.ensures) ∙ sym c.eq.ensures ∙ c.if-eq.true)
    c.unknown_attrs.ensures

pub returns-in_default : goal.returns-in_default
returns-in_default c =
    of_name c.args.key c.args.text.now c.attrs_of.result c.in_default.not-Slot c.attrs_of.ensures
