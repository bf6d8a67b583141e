use Rattle.std.proofs.Common.{subst, ap, ◌∙◌}
use Rattle.ja_abstract.specs.AbstractValue.{AbstractValue, join, undefined_value}
use Rattle.ja_abstract.specs.Reading.{demands_of_get}
use Rattle.ja_abstract.specs.Values.{value_if}
use Rattle.ja_rows.specs.Out.{out, sets, name_keys, read_value}
use Rattle.ja_value.specs.Value.{value_of}
use Rattle.ja_transfer.specs.Outcomes.{at_view, AreAdded, IsOutcome}
use Rattle.ja_transfer.proofs.GivenLemmas.{given_first, outcome_of}
use Rattle.ja_transfer.proofs.stepper.Stepper.read_soft.Goals as goal

pub returns : goal.returns
returns c =
    let s = c.args.self.now in
    let w = at_view s in
    let next = s.info.now.next in
    let keys = name_keys c.args.name in
    let o = c.outcome.result in
    let u = value_of c.register-base.result.now in
    let soft = λ (v : AbstractValue). join (value_if v.flags.null undefined_value) in
    subst (λ (v : AbstractValue). IsOutcome s (out (sets w c.args.dst
    (soft v (read_value w v.label keys)) next) (demands_of_get w v.label keys)) o)
    c.register-base.ensures
    (outcome_of s _ c.in_ok-value.demands _ c.sets.new.states o
    (given_first s _ c.new-states.result c.sets.new.states c.new-states.ensures
    (subst (λ x. AreAdded s (sets w c.args.dst x next) c.new-states.result c.sets.new.states)
    (c.in_ok-value-2.ensures ∙ ap (soft u) c.in_ok-value.ensures.value) c.in_ok-sets.ensures))
    c.in_ok-value.ensures.demands c.outcome.ensures)
