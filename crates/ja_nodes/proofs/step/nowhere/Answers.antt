use Rattle.ja_transfer.proofs.GivenLemmas.{none_given, outcome_of}
use Rattle.ja_nodes.proofs.step.nowhere.Goals as goal

pub returns : goal.returns
returns c =
    let s = c.args.stepper.now in
    outcome_of s _ c.new-2.result _ c.new.result c.outcome.result
    (none_given s c.new.result c.new.ensures) c.new-2.ensures c.outcome.ensures
