use Rattle.std.proofs.Common.{Bool, sym, subst, ◌∙◌}
use Rattle.ja_abstract.specs.AbstractValue.{has_part}
use Rattle.ja_abstract.specs.AbstractState.{labels_below}
use Rattle.ja_abstract.specs.Reading.{no_demands}
use Rattle.ja_rows.specs.Out.{out, goes}
use Rattle.ja_rows.specs.Scopes.{enters_scope}
use Rattle.ja_transfer.specs.Outcomes.{at_view, IsOutcome}
use Rattle.ja_transfer.proofs.GivenLemmas.{added_at, given_first, none_given, outcome_of}
use Rattle.ja_functions.specs.code.Entering.{activation_state}
use Rattle.ja_functions.proofs.activations.enter.Goals as goal

pub returns-then-not-is_reached : goal.returns-then-not-is_reached
returns-then-not-is_reached c =
    let s = c.args.stepper.now in
    let w = at_view s in
    let has = c.has_part-is_reached.ensures
    ∙ (λ n. has_part (labels_below (s.reader.sites_are n)) (c.register.ensures n)) in
    subst (λ (b : Bool). IsOutcome s (out (goes b s.info.now.next (enters_scope (activation_state w
    s.context.function c.args.site c.args.arguments) c.args.site)) no_demands) c.outcome.result)
    (sym c.if-not-is_reached.true ∙ has)
    (outcome_of s _ c.new-demands.result _ c.new-states.result c.outcome.result
    (none_given s c.new-states.result c.new-states.ensures) c.new-demands.ensures
    c.outcome.ensures)

pub returns : goal.returns
returns c =
    let s = c.args.stepper.now in
    let has = c.has_part-is_reached.ensures
    ∙ (λ n. has_part (labels_below (s.reader.sites_are n)) (c.register.ensures n)) in
    outcome_of s _ c.new-demands.result _ c.gives.new.states c.outcome-2.result
    (given_first s _ c.new-states.result c.gives.new.states c.new-states.ensures
    (added_at s _ s.info.now.next _ _ c.new-states.result c.gives.new.states
    (sym has ∙ c.if-not-is_reached.false) c.in_ok-state.ensures.state c.in_ok-gives.ensures))
    c.new-demands.ensures c.outcome-2.ensures
