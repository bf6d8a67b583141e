use Rattle.std.proofs.Common.{◌≡◌, ℕ, Bool, List, subst, ap, ◌∙◌}
use Rattle.ja_abstract.specs.declared.abstraction.Key.{Key}
use Rattle.ja_abstract.specs.AbstractValue.{AbstractValue, AbstractProperty, is_present}
use Rattle.ja_abstract.specs.AbstractState.{labels_below}
use Rattle.ja_abstract.specs.Primitives.{of_bools}
use Rattle.ja_abstract.specs.Reading.{get, demands_of_get, may_have, may_lack}
use Rattle.ja_rows.specs.Out.{out, sets, keys_in}
use Rattle.ja_value.specs.Value.{value_of, property_of}
use Rattle.ja_transfer.specs.Outcomes.{at_view, AreAdded, IsOutcome}
use Rattle.ja_transfer.proofs.GivenLemmas.{given_first, outcome_of}
use Rattle.ja_nodes.proofs.properties.has_prop.Goals as goal

pub returns : goal.returns
returns c =
    let s = c.args.stepper.now in
    let w = at_view s in
    let next = s.info.now.next in
    let o = c.outcome.result in
    let told = λ (q : AbstractProperty). of_bools (may_have w q) (may_lack q) in
    let given = λ (v : AbstractValue) (keys : List Key).
    out (sets w c.args.dst (told (get w v.label keys)) next) (demands_of_get w v.label keys) in
    let looked = c.in_ok-property.ensures in
    let q = property_of c.in_ok-property.field-0.property in
    let has = c.is_present-may_have.ensures
    ∙ ap (λ (n : ℕ). is_present (labels_below n) q.value) s.reader.sites_are in
    let bools = c.of_bools-value.ensures ∙ ap (λ (b : Bool). of_bools b (may_lack q)) has
    ∙ ap told looked.property in
    let keys_are : c.deref.result.now ≡ keys_in w c.args.key = c.deref.ensures.value
    ∙ c.in_ok-keys.ensures in
    subst (λ (v : AbstractValue). IsOutcome s (given v (keys_in w c.args.key)) o)
    c.register.ensures
    (subst (λ (keys : List Key). IsOutcome s (given (value_of c.register.result.now) keys) o)
    keys_are (outcome_of s _ c.in_ok-property.field-0.demands _ c.sets.new.states o
    (given_first s _ c.new-states.result c.sets.new.states c.new-states.ensures
    (subst (λ x. AreAdded s (sets w c.args.dst x next) c.new-states.result c.sets.new.states)
    bools c.in_ok-sets.ensures)) looked.demands_are c.outcome.ensures))
