use Rattle.std.proofs.Common.{◌++◌, Bool, subst, ap, ◌∙◌}
use Rattle.ja_graph.specs.declared.builtins.TheConstants as builtins
use Rattle.ja_machine.specs.Events.{nothing_message}
use Rattle.ja_abstract.specs.AbstractValue.{AbstractValue, Labels, of_labels}
use Rattle.ja_abstract.specs.Reading.{no_demands}
use Rattle.ja_abstract.specs.Values.{has_nullish}
use Rattle.ja_rows.specs.Objects.{wraps, wraps_text, bools_of, numbers_of}
use Rattle.ja_rows.specs.Out.{out, sets, type_error}
use Rattle.ja_value.specs.Value.{value_of}
use Rattle.ja_transfer.specs.Outcomes.{at_view, IsOutcome}
use Rattle.ja_transfer.proofs.GivenLemmas.{added_as, added_both, given_first, outcome_of}
use Rattle.ja_nodes.proofs.objects.to_object.Goals as goal

pub returns : goal.returns
returns c =
    let s = c.args.stepper.now in
    let w = at_view s in
    let i = s.info.now in
    let dst = c.args.dst in
    let o = c.outcome.result in
    let u = value_of c.register-value.result.now in
    let set_to = λ (v : AbstractValue). sets w dst v i.next in
    let bools_to = λ (v : AbstractValue).
    wraps w dst c.args.sites.boolean builtins.BOOLEAN_PROTOTYPE v i.next in
    let numbers_to = λ (v : AbstractValue).
    wraps w dst c.args.sites.number builtins.NUMBER_PROTOTYPE v i.next in
    let thrown = λ (b : Bool). type_error w b i c.args.error nothing_message in
    let told = λ (v : AbstractValue). out (set_to (of_labels v.label) ++ (bools_to (bools_of v)
    ++ (numbers_to (numbers_of v) ++ (wraps_text w dst c.args.sites.text v i.next
    ++ thrown (has_nullish v))))) no_demands in
    let first = c.new-states.result in
    let set = c.sets.new.states in
    let bools = c.wraps.new.states in
    let numbers = c.wraps-2.new.states in
    let texts = c.wraps_text.new.states in
    let all = c.type_error.new.states in
    let objects_are = c.of_labels-objects.ensures
    ∙ ap (λ (ls : Labels). of_labels ls) c.in_ok-copy.ensures in
    subst (λ (v : AbstractValue). IsOutcome s (told v) o) c.register-value.ensures
    (outcome_of s _ c.new.result _ all o (given_first s _ first all c.new-states.ensures
    (added_both s _ _ first set all
    (added_as s _ _ first set (ap set_to objects_are) c.in_ok-sets.ensures)
    (added_both s _ _ set bools all
    (added_as s _ _ set bools (ap bools_to c.bools_of-bools.ensures) c.in_ok-wraps.ensures)
    (added_both s _ _ bools numbers all
    (added_as s _ _ bools numbers (ap numbers_to c.numbers_of-numbers.ensures)
    c.in_ok-wraps-2.ensures)
    (added_both s _ _ numbers texts all c.in_ok-wraps_text.ensures
    (added_as s _ _ texts all (ap thrown c.has_nullish.ensures) c.in_ok-type_error.ensures))))))
    c.new.ensures c.outcome.ensures)
