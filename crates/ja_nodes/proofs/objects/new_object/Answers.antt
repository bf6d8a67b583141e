use Rattle.std.proofs.Common.{true, ap}
use Rattle.ja_abstract.specs.Made.{Own}
use Rattle.ja_rows.specs.Out.{makes_if}
use Rattle.ja_transfer.specs.Outcomes.{at_view}
use Rattle.ja_transfer.proofs.GivenLemmas.{added_as, given_first, outcome_of}
use Rattle.ja_nodes.proofs.objects.new_object.Goals as goal

pub returns : goal.returns
returns c =
    let s = c.args.stepper.now in
    let w = at_view s in
    let own_is = c.in_ok-empty_made.ensures in
    let given = λ (own : Own). makes_if w true c.args.dst c.args.site own s.info.now.next in
    outcome_of s _ c.new.result _ c.gives_made.new.states c.outcome.result
    (given_first s _ c.new-states.result c.gives_made.new.states c.new-states.ensures
    (added_as s _ _ c.new-states.result c.gives_made.new.states (ap given own_is)
    c.in_ok-gives_made.ensures)) c.new.ensures c.outcome.ensures
