use Rattle.ja_transfer.proofs.GivenLemmas.{given_first, outcome_of}
use Rattle.ja_transfer.proofs.stepper.Stepper.sets_alone.Goals as goal

pub returns : goal.returns
returns c =
    let s = c.args.self.now in
    outcome_of s _ c.new.result _ c.sets.new.states c.outcome.result
    (given_first s _ c.new-states.result c.sets.new.states c.new-states.ensures
    c.in_ok-sets.ensures) c.new.ensures c.outcome.ensures
