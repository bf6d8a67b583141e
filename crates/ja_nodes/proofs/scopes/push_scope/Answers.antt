use Rattle.std.proofs.Common.{true, refl, ap, ◌∙◌}
use Rattle.ja_abstract.specs.Made.{Own, scope_own, with_object}
use Rattle.ja_rows.specs.Out.{makes}
use Rattle.ja_rows.specs.Scopes.{enters_scope}
use Rattle.ja_value.specs.Labels.{aged_labels}
use Rattle.ja_machine.specs.Frames.{scope}
use Rattle.ja_abstract.specs.AbstractState.{AbstractState}
use Rattle.ja_transfer.specs.Outcomes.{at_view}
use Rattle.ja_transfer.proofs.GivenLemmas.{added_at, given_first, outcome_of}
use Rattle.ja_nodes.proofs.scopes.push_scope.Goals as goal

pub returns : goal.returns
returns c =
    let s = c.args.stepper.now in
    let w = at_view s in
    let site = c.args.site in
    let own = λ (a : AbstractState). scope_own (a.register scope.0).label in
    let chain_is = c.in_ok-age.ensures.aged ∙ ap (aged_labels site) c.in_ok-chain.ensures
    ∙ ap (λ v. aged_labels site v.label) c.register.ensures in
    let own_is = c.in_ok-scope_made.ensures ∙ ap scope_own chain_is in
    let state_is = c.in_ok-state.ensures.state
    ∙ ap (λ (x : Own). makes w scope site (λ b. x)) own_is in
    outcome_of s _ c.new.result _ c.gives.new.states c.outcome.result
    (given_first s _ c.new-states.result c.gives.new.states c.new-states.ensures
    (added_at s true s.info.now.next _ (enters_scope (with_object w.program w.state site own) site)
    c.new-states.result c.gives.new.states refl state_is c.in_ok-gives.ensures)) c.new.ensures
    c.outcome.ensures
