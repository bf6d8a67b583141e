use Rattle.ja_cert_parts.proofs.UnitLemmas.{read_all, read_first, read_next, read_short, read_wrong}
use Rattle.ja_cert_parts.proofs.words.units.Goals as goal

pub rest-init : goal.rest-init
rest-init c = read_first c.args.digits.now c.new-units.result.items c.new-units.ensures.items

pub returns-in_default-unit : goal.returns-in_default-unit
returns-in_default-unit c =
    read_wrong c.args.digits.now c.rest.units.items c.rest.rest.now c.in-len4-up.len_at_least
    c.in_default-unit.ensures c.rest.invariant

pub rest-preserved : goal.rest-preserved
rest-preserved c =
    read_next c.args.digits.now c.rest.units.items c.push.new.self.items c.rest.rest.now
    c.in-Some.next c.in-len4-up.len_at_least c.in-Some.ensures.0 c.in-Some.ensures.1
    c.in_ok-push.ensures.items c.rest.invariant

pub returns-then-is_empty : goal.returns-then-is_empty
returns-then-is_empty c =
    read_all c.args.digits.now c.rest.units.items c.rest.rest.now c.if-is_empty.ensures
    c.rest.invariant

pub returns-else-is_empty : goal.returns-else-is_empty
returns-else-is_empty c =
    read_short c.args.digits.now c.rest.units.items c.rest.rest.now c.in_default.len_below
    c.if-is_empty.ensures c.rest.invariant
