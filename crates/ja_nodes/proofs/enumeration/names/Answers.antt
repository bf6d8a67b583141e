use Rattle.std.proofs.Common.{ℕ, Bool, subst, ap, ◌∙◌}
use Rattle.std.specs.List.{list_any}
use Rattle.ja_abstract.specs.AbstractValue.{AbstractValue}
use Rattle.ja_abstract.specs.AbstractState.{labels_below}
use Rattle.ja_abstract.specs.Reading.{no_demands}
use Rattle.ja_abstract.specs.Values.{has_labels}
use Rattle.ja_rows.specs.Out.{out, goes}
use Rattle.ja_value.specs.Value.{value_of}
use Rattle.ja_transfer.specs.Outcomes.{at_view, AreAdded, IsOutcome}
use Rattle.ja_transfer.proofs.GivenLemmas.{given_first, outcome_of}
use Rattle.ja_nodes.proofs.enumeration.names.Goals as goal

pub returns : goal.returns
returns c list =
    let s = c.args.stepper.now in
    let w = at_view s in
    let next = s.info.now.next in
    let u = value_of c.register-value.result.now in
    let has = c.has_labels.ensures ∙ ap (λ (n : ℕ). list_any u.label (labels_below n))
    s.reader.sites_are in
    subst (λ (v : AbstractValue). IsOutcome s (out (goes (has_labels w v) next w.state) no_demands)
    c.outcome.result) c.register-value.ensures
    (outcome_of s _ c.new.result _ c.goes.new.states c.outcome.result
    (given_first s _ c.new-states.result c.goes.new.states c.new-states.ensures
    (subst (λ (b : Bool). AreAdded s (goes b next w.state) c.new-states.result c.goes.new.states)
    has c.in_ok-goes.ensures)) c.new.ensures c.outcome.ensures)
