use Rattle.std.proofs.Common.{ap, sym, ◌∙◌}
use Rattle.ja_cert_parts.specs.declared.parts.Part.TheVariants as part
use Rattle.ja_cert_parts.proofs.ValueLemmas.{not_text, takes_none, takes_other, takes_text}
use Rattle.ja_cert_parts.proofs.values.take_text.Goals as goal

pub returns-in_default : goal.returns-in_default
returns-in_default c = takes_none 9 10 c.args.parts.now c.in_default.ensures.cases

pub returns-in_ok-text-in-Text : goal.returns-in_ok-text-in-Text
returns-in_ok-text-in-Text c =
    takes_text c.in_ok-text-in-Text.text c.args.parts.now c.in-Some.rest.now c.in-Some.first.now
    c.in-Some.ensures.cases.0
    (c.in-Text.is ∙ ap part.Text (sym c.in_ok-text-in-Text.ensures))

pub returns-in_default-first : goal.returns-in_default-first
returns-in_default-first c =
    takes_other 9 c.args.parts.now c.in-Some.rest.now c.in-Some.first.now
    c.in-Some.ensures.cases.0 (not_text c.in-Some.first.now c.in_default-first.not-Text)
