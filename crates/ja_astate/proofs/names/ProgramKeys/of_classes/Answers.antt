use Rattle.std.proofs.Common.{ap, sym, ◌∙◌}
use Rattle.ja_abstract.specs.Keys.{keys_of_value}
use Rattle.ja_abstract.specs.declared.abstraction.TextPart.{TextPart}
use Rattle.ja_abstract.specs.declared.abstraction.TextPart.TheVariants as text_part
use Rattle.ja_astate.specs.Keys.{of_parts}
use Rattle.ja_astate.specs.code.Insertion.{class_of_text, class_of_number}
use Rattle.ja_astate.proofs.KeyLemmas.{all_texts_are}
use Rattle.ja_astate.proofs.names.ProgramKeys.of_classes.Goals as goal

pub returns-in-Nothing : goal.returns-in-Nothing
returns-in-Nothing c = λ p is.
    let n = class_of_number c.args.value.now.number in
    c.with.ensures p text_part.Nothing is.numbers
    ∙ ap (λ (t : TextPart). keys_of_value p (of_parts (class_of_text t) n)) (sym c.in-Nothing.is)

pub returns-in-One : goal.returns-in-One
returns-in-One c = λ p is.
    let n = class_of_number c.args.value.now.number in
    c.with-in-One.ensures p text_part.Nothing is.numbers
    ∙ ap (λ (t : TextPart). keys_of_value p (of_parts (class_of_text t) n)) (sym c.in-One.is)

pub returns-in-IndexText : goal.returns-in-IndexText
returns-in-IndexText c = λ p is.
    let n = class_of_number c.args.value.now.number in
    c.with-in-IndexText.ensures p text_part.IndexText is.index_texts
    ∙ ap (λ (t : TextPart). keys_of_value p (of_parts (class_of_text t) n)) (sym c.in-IndexText.is)

pub returns-in-OtherText : goal.returns-in-OtherText
returns-in-OtherText c = λ p is.
    let n = class_of_number c.args.value.now.number in
    c.with-in-OtherText.ensures p text_part.OtherText is.other_texts
    ∙ ap (λ (t : TextPart). keys_of_value p (of_parts (class_of_text t) n)) (sym c.in-OtherText.is)

pub returns-in-Text : goal.returns-in-Text
returns-in-Text c = λ p is.
    let n = class_of_number c.args.value.now.number in
    c.deref.ensures.value ∙ is.texts ∙ sym (all_texts_are p n)
    ∙ ap (λ (t : TextPart). keys_of_value p (of_parts (class_of_text t) n)) (sym c.in-Text.is)
