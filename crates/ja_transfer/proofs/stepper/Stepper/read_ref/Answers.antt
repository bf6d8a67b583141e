use Rattle.std.proofs.Common.{◌++◌, subst}
use Rattle.ja_graph.specs.declared.builtins.TheConstants.{REFERENCE_ERROR_PROTOTYPE}
use Rattle.ja_machine.specs.Events.{unbound_message}
use Rattle.ja_machine.specs.Nodes.{name_text}
use Rattle.ja_abstract.specs.AbstractValue.{AbstractValue}
use Rattle.ja_abstract.specs.Reading.{demands_of_get}
use Rattle.ja_rows.specs.Out.{out, sets, throws, name_keys, read_value}
use Rattle.ja_value.specs.Value.{value_of}
use Rattle.ja_transfer.specs.Outcomes.{at_view, AreAdded, IsOutcome}
use Rattle.ja_transfer.proofs.GivenLemmas.{given_first, given_more, outcome_of}
use Rattle.ja_transfer.proofs.stepper.Stepper.read_ref.Goals as goal

pub returns : goal.returns
returns c =
    let s = c.args.self.now in
    let w = at_view s in
    let i = s.info.now in
    let keys = name_keys c.args.name in
    let o = c.outcome.result in
    let u = value_of c.register-base.result.now in
    let text = unbound_message (name_text w.program c.args.name) in
    let unbound = λ (v : AbstractValue). throws w v.flags.null i c.args.error
    REFERENCE_ERROR_PROTOTYPE in
    subst (λ (v : AbstractValue). IsOutcome s (out (unbound v text
    ++ sets w c.args.dst (read_value w v.label keys) i.next) (demands_of_get w v.label keys)) o)
    c.register-base.ensures
    (outcome_of s _ c.in_ok-value.demands _ c.sets.new.states o
    (given_more s _ _ c.throws.new.states c.sets.new.states
    (given_first s _ c.new-states.result c.throws.new.states c.new-states.ensures
    (subst (λ t. AreAdded s (unbound u t) c.new-states.result c.throws.new.states)
    c.in_ok-message.ensures c.in_ok-throws.ensures))
    (subst (λ x. AreAdded s (sets w c.args.dst x i.next) c.throws.new.states c.sets.new.states)
    c.in_ok-value.ensures.value c.in_ok-sets.ensures)) c.in_ok-value.ensures.demands
    c.outcome.ensures)
