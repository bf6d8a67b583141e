use Rattle.std.proofs.Common.{◌++◌, ℕ, Bool, subst, ap, ◌∙◌}
use Rattle.std.specs.List.{list_any}
use Rattle.ja_abstract.specs.AbstractValue.{AbstractValue}
use Rattle.ja_abstract.specs.AbstractState.{labels_below}
use Rattle.ja_abstract.specs.Reading.{no_demands}
use Rattle.ja_abstract.specs.Values.{has_labels, has_atoms}
use Rattle.ja_machine.specs.Events.{not_an_object_message}
use Rattle.ja_rows.specs.Out.{out, goes, type_error}
use Rattle.ja_value.specs.Value.{value_of}
use Rattle.ja_transfer.specs.Outcomes.{at_view, AreAdded, IsOutcome}
use Rattle.ja_transfer.proofs.GivenLemmas.{given_first, given_more, outcome_of}
use Rattle.ja_nodes.proofs.objects.need_object.Goals as goal

pub returns : goal.returns
returns c =
    let s = c.args.stepper.now in
    let w = at_view s in
    let i = s.info.now in
    let u = value_of c.register-value.result.now in
    let refused = λ (b : Bool). type_error w b i c.args.error not_an_object_message in
    let has = c.has_labels-has_labels.ensures
    ∙ ap (λ (n : ℕ). list_any u.label (labels_below n)) s.reader.sites_are in
    subst (λ (v : AbstractValue). IsOutcome s (out (goes (has_labels w v) i.next w.state
    ++ refused (has_atoms v)) no_demands) c.outcome.result) c.register-value.ensures
    (outcome_of s _ c.new.result _ c.type_error.new.states c.outcome.result
    (given_more s _ _ c.goes.new.states c.type_error.new.states
    (given_first s _ c.new-states.result c.goes.new.states c.new-states.ensures
    (subst (λ (b : Bool). AreAdded s (goes b i.next w.state) c.new-states.result c.goes.new.states)
    has c.in_ok-goes.ensures))
    (subst (λ (b : Bool). AreAdded s (refused b) c.goes.new.states c.type_error.new.states)
    c.has_atoms.ensures c.in_ok-type_error.ensures)) c.new.ensures c.outcome.ensures)
