use Rattle.std.proofs.Common.{◌++◌, ℕ, Bool, subst, ap, ◌∙◌}
use Rattle.std.specs.List.{list_any}
use Rattle.ja_abstract.specs.AbstractValue.{AbstractValue}
use Rattle.ja_abstract.specs.AbstractState.{labels_below}
use Rattle.ja_abstract.specs.Reading.{names_shown, demands_of_shown}
use Rattle.ja_abstract.specs.Values.{has_labels}
use Rattle.ja_rows.specs.Out.{out, goes, sets}
use Rattle.ja_value.specs.Value.{value_of}
use Rattle.ja_transfer.specs.Outcomes.{at_view, AreAdded, IsOutcome}
use Rattle.ja_transfer.proofs.GivenLemmas.{given_first, given_more, outcome_of}
use Rattle.ja_nodes.proofs.enumeration.pick.Goals as goal

pub returns : goal.returns
returns c list =
    let s = c.args.stepper.now in
    let w = at_view s in
    let i = s.info.now in
    let u = value_of c.register-object.result.now in
    let shown = c.in_ok-value.ensures in
    let has = c.has_labels.ensures ∙ ap (λ (n : ℕ). list_any u.label (labels_below n))
    s.reader.sites_are in
    subst (λ (v : AbstractValue). IsOutcome s (out (sets w c.args.dst (names_shown w v.label) i.next
    ++ goes (has_labels w v) i.other w.state) (demands_of_shown w v.label)) c.outcome.result)
    c.register-object.ensures
    (outcome_of s _ c.in_ok-value.field-0.demands _ c.goes.new.states c.outcome.result
    (given_more s _ _ c.sets.new.states c.goes.new.states
    (given_first s _ c.new-states.result c.sets.new.states c.new-states.ensures
    (subst (λ x. AreAdded s (sets w c.args.dst x i.next) c.new-states.result c.sets.new.states)
    shown.value c.in_ok-sets.ensures))
    (subst (λ (b : Bool). AreAdded s (goes b i.other w.state) c.sets.new.states c.goes.new.states)
    has c.in_ok-goes.ensures)) shown.demands_are c.outcome.ensures)
