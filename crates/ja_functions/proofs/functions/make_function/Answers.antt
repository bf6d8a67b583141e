use Rattle.std.proofs.Common.{true, refl, ap, ◌∙◌}
use Rattle.ja_abstract.specs.AbstractState.{new, with_register}
use Rattle.ja_abstract.specs.AbstractValue.{Labels}
use Rattle.ja_abstract.specs.Made.{function_own, with_objects}
use Rattle.ja_transfer.specs.Outcomes.{at_view}
use Rattle.ja_transfer.proofs.GivenLemmas.{added_at, given_first, outcome_of}
use Rattle.ja_functions.proofs.functions.make_function.Goals as goal

pub returns : goal.returns
returns c =
    let s = c.args.stepper.now in
    let w = at_view s in
    let p = w.program in
    let first = c.args.site in
    let second = c.args.proto_site in
    let own = c.in_ok-made.ensures
    ∙ ap (λ (ls : Labels). function_own p c.args.function ls (new second)) c.in_ok-chain.ensures in
    let made = c.in_ok-state.ensures.state p s.reader.heap_is
    ∙ (λ n. with_objects p w.state first (λ a. own n) second (λ a. c.in_ok-prototype.ensures n)) in
    let state = c.set_register.ensures.state
    ∙ (λ n. with_register (made n) c.args.dst (c.in_ok-object.ensures n)) in
    outcome_of s _ c.new.result _ c.gives.new.states c.outcome.result
    (given_first s _ c.new-states.result c.gives.new.states c.new-states.ensures
    (added_at s true s.info.now.next _ _ c.new-states.result c.gives.new.states refl state
    c.in_ok-gives.ensures)) c.new.ensures c.outcome.ensures
