use Rattle.std.proofs.Common.{◌≡◌, List, subst, ap, ◌∙◌}
use Rattle.ja_abstract.specs.declared.abstraction.Key.{Key}
use Rattle.ja_abstract.specs.AbstractValue.{AbstractValue, AbstractProperty}
use Rattle.ja_abstract.specs.Reading.{demands_of_get}
use Rattle.ja_abstract.specs.Values.{as_read}
use Rattle.ja_rows.specs.Out.{out, sets, reads, keys_in}
use Rattle.ja_value.specs.Value.{value_of}
use Rattle.ja_transfer.specs.Outcomes.{at_view, AreAdded, IsOutcome}
use Rattle.ja_transfer.proofs.GivenLemmas.{given_first, outcome_of}
use Rattle.ja_nodes.proofs.properties.read_prop.Goals as goal

pub returns : goal.returns
returns c =
    let s = c.args.stepper.now in
    let w = at_view s in
    let next = s.info.now.next in
    let o = c.outcome.result in
    let given = λ (v : AbstractValue) (keys : List Key).
    out (reads w c.args.dst v.label keys next) (demands_of_get w v.label keys) in
    let looked = c.in_ok-property.ensures in
    let read = c.as_read.ensures ∙ ap (λ (q : AbstractProperty). as_read q.value) looked.property
    in
    let keys_are : c.deref.result.now ≡ keys_in w c.args.key = c.deref.ensures.value
    ∙ c.in_ok-keys.ensures in
    subst (λ (v : AbstractValue). IsOutcome s (given v (keys_in w c.args.key)) o)
    c.register.ensures
    (subst (λ (keys : List Key). IsOutcome s (given (value_of c.register.result.now) keys) o)
    keys_are (outcome_of s _ c.in_ok-property.field-0.demands _ c.sets.new.states o
    (given_first s _ c.new-states.result c.sets.new.states c.new-states.ensures
    (subst (λ x. AreAdded s (sets w c.args.dst x next) c.new-states.result c.sets.new.states)
    read c.in_ok-sets.ensures)) looked.demands_are c.outcome.ensures))
