use Rattle.std.proofs.Common.{ap}
use Rattle.ja_abstract.specs.AbstractValue.{AbstractValue}
use Rattle.ja_rows.specs.Out.{sets}
use Rattle.ja_transfer.specs.Outcomes.{at_view}
use Rattle.ja_transfer.proofs.GivenLemmas.{added_as, given_first, outcome_of}
use Rattle.ja_functions.proofs.intrinsics.intrinsic.Goals as goal

pub returns : goal.returns
returns c =
    let s = c.args.stepper.now in
    let told = c.in_ok-value.ensures in
    outcome_of s _ c.in_ok-value.field-0.demands _ c.sets.new.states c.outcome.result
    (given_first s _ c.new-states.result c.sets.new.states c.new-states.ensures
    (added_as s _ _ c.new-states.result c.sets.new.states
    (ap (λ (v : AbstractValue). sets (at_view s) c.args.dst v s.info.now.next) told.value)
    c.in_ok-sets.ensures)) told.demands_are c.outcome.ensures
