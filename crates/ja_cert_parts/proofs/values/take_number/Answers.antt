use Rattle.ja_cert_parts.proofs.ValueLemmas.{not_number, takes_none, takes_number, takes_other}
use Rattle.ja_cert_parts.proofs.values.take_number.Goals as goal

pub returns-in_default : goal.returns-in_default
returns-in_default c = takes_none 8 9 c.args.parts.now c.in_default.ensures.cases

pub returns-in-Number : goal.returns-in-Number
returns-in-Number c =
    takes_number c.in-Number.number c.args.parts.now c.in-Some.rest.now c.in-Some.first.now
    c.in-Some.ensures.cases.0 c.in-Number.is

pub returns-in_default-first : goal.returns-in_default-first
returns-in_default-first c =
    takes_other 8 c.args.parts.now c.in-Some.rest.now c.in-Some.first.now
    c.in-Some.ensures.cases.0 (not_number c.in-Some.first.now c.in_default-first.not-Number)
