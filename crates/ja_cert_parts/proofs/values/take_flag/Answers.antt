use Rattle.ja_cert_parts.specs.code.Parts.{flag_rank}
use Rattle.std.proofs.Common.{sym, ◌∙◌}
use Rattle.ja_cert_parts.proofs.ValueLemmas.{takes_flag, takes_none, takes_other}
use Rattle.ja_cert_parts.proofs.values.take_flag.Goals as goal

pub returns-in_default : goal.returns-in_default
returns-in_default c = takes_none _ _ c.args.parts.now c.in_default.ensures.cases

pub returns-then-rank-flag_rank : goal.returns-then-rank-flag_rank
returns-then-rank-flag_rank c =
    takes_flag c.args.flag c.args.parts.now c.in-Some.rest.now c.in-Some.first.now
    c.in-Some.ensures.cases.0
    (sym c.rank.ensures ∙ c.if-rank-flag_rank.true ∙ c.flag_rank.ensures)

pub returns-else-rank-flag_rank : goal.returns-else-rank-flag_rank
returns-else-rank-flag_rank c =
    takes_other (flag_rank c.args.flag) c.args.parts.now c.in-Some.rest.now c.in-Some.first.now
    c.in-Some.ensures.cases.0
    (λ same. c.if-rank-flag_rank.false
    (c.rank.ensures ∙ same ∙ sym c.flag_rank.ensures))
