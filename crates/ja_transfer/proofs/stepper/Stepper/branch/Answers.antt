use Rattle.std.proofs.Common.{◌++◌, subst}
use Rattle.ja_abstract.specs.AbstractValue.{AbstractValue}
use Rattle.ja_abstract.specs.Reading.{no_demands}
use Rattle.ja_rows.specs.Out.{out, goes}
use Rattle.ja_transfer.specs.Outcomes.{at_view, IsOutcome}
use Rattle.ja_transfer.proofs.GivenLemmas.{given_first, given_more, outcome_of}
use Rattle.ja_transfer.proofs.stepper.Stepper.branch.Goals as goal

pub returns : goal.returns
returns c =
    let s = c.args.self.now in
    let w = at_view s in
    let i = s.info.now in
    let both = λ (v : AbstractValue). goes v.flags.is_true i.next w.state
    ++ goes v.flags.is_false i.other w.state in
    subst (λ (v : AbstractValue). IsOutcome s (out (both v) no_demands) c.outcome.result)
    c.register.ensures (outcome_of s _ c.new.result _ c.goes-2.new.states c.outcome.result
    (given_more s _ _ c.goes.new.states c.goes-2.new.states (given_first s _ c.new-states.result
    c.goes.new.states c.new-states.ensures c.in_ok-goes.ensures) c.in_ok-goes-2.ensures)
    c.new.ensures c.outcome.ensures)
