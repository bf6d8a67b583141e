use Rattle.std.proofs.Common.{sym, ◌∙◌}
use Rattle.ja_value.proofs.TextLemmas.{above_nothing, above_one}
use Rattle.ja_value.proofs.texts.leq_texts.Goals as goal

pub returns-in-Nothing : goal.returns-in-Nothing
returns-in-Nothing c =
    above_nothing c.args.part.now c.args.other.now
    (sym c.has_text.ensures ∙ c.if-not-has_text.false) c.in-Nothing.is

pub returns-in-One : goal.returns-in-One
returns-in-One c =
    above_one c.args.part.now c.args.other.now c.in-One.field-0 _
    (sym c.has_text.ensures ∙ c.if-not-has_text.false) c.in-One.is c.same_texts.ensures
