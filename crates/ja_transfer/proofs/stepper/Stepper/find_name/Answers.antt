use Rattle.std.proofs.Common.{subst}
use Rattle.ja_abstract.specs.AbstractValue.{AbstractValue}
use Rattle.ja_abstract.specs.Reading.{found, demands_of_found}
use Rattle.ja_rows.specs.Out.{out, sets, name_keys}
use Rattle.ja_transfer.specs.Outcomes.{at_view, AreAdded, IsOutcome}
use Rattle.ja_transfer.proofs.GivenLemmas.{given_first, outcome_of}
use Rattle.ja_transfer.proofs.stepper.Stepper.find_name.Goals as goal

pub returns : goal.returns
returns c =
    let s = c.args.self.now in
    let w = at_view s in
    let next = s.info.now.next in
    let keys = name_keys c.args.name in
    let o = c.outcome.result in
    subst (λ (u : AbstractValue). IsOutcome s (out (sets w c.args.dst (found w u.label keys) next)
    (demands_of_found w u.label keys)) o) c.register.ensures
    (outcome_of s _ c.in_ok-value.field-0.demands _ c.sets.new.states o
    (given_first s _ c.new-states.result c.sets.new.states c.new-states.ensures
    (subst (λ x. AreAdded s (sets w c.args.dst x next) c.new-states.result c.sets.new.states)
    c.in_ok-value.ensures.value c.in_ok-sets.ensures)) c.in_ok-value.ensures.demands_are
    c.outcome.ensures)
