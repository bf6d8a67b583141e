use Rattle.std.proofs.Common.{◌≡◌, ◌++◌, ◌&&◌, ◌||◌, not, ℕ, Bool, subst, ap, ◌∙◌}
use Rattle.std.specs.List.{list_any}
use Rattle.ja_machine.specs.Events.{no_function_message, no_prototype_message}
use Rattle.ja_abstract.specs.AbstractValue.{Labels, AbstractValue}
use Rattle.ja_abstract.specs.AbstractState.{labels_of, labels_below}
use Rattle.ja_abstract.specs.Primitives.{of_bools}
use Rattle.ja_abstract.specs.Reading.{some_label, both, demands_if, get, demands_of_get, proper_ancestors, demands_of_ancestors}
use Rattle.ja_abstract.specs.Values.{has_atoms, has_labels, has_non_object, is_function_label, value_if}
use Rattle.ja_rows.specs.Out.{out, sets, type_error, at}
use Rattle.ja_rows.specs.Properties.{functions_in, prototype_keys}
use Rattle.ja_value.specs.Value.{value_of, labels_in}
use Rattle.ja_transfer.specs.Outcomes.{at_view, IsOutcome}
use Rattle.ja_transfer.proofs.Filters.{any_filter}
use Rattle.ja_transfer.proofs.GivenLemmas.{added_as, added_both, given_first, outcome_of}
use Rattle.ja_nodes.proofs.MemberLemmas.{functions_are, some_both}
use Rattle.ja_nodes.proofs.instances.instance_of.Goals as goal

pub returns : goal.returns
returns c =
    let s = c.args.stepper.now in
    let w = at_view s in
    let p = w.program in
    let i = s.info.now in
    let all = labels_of p in
    let o = c.outcome.result in
    let v = value_of c.register-left.result.now in
    let r = value_of c.register-right.result.now in
    let q = value_of c.in_ok-property.field-0.property.value in
    let keys = prototype_keys p in
    let test : Labels = is_function_label p in
    let no_function = λ (b : Bool). type_error w b i c.args.not_function no_function_message in
    let no_prototype = λ (b : Bool). type_error w b i c.args.not_object no_prototype_message in
    let set_to = λ (x : AbstractValue). sets w c.args.dst x i.next in
    let told = λ (a b x : AbstractValue).
    let above = some_label w (λ l. proper_ancestors w a.label l && x.label l) in
    let is_none = (some_label w (functions_in w b) && has_atoms a) || has_labels w x in
    let other = has_atoms b || some_label w (λ l. b.label l && not (test l)) in
    out (no_function other ++ (no_prototype (has_non_object x) ++ set_to (of_bools above is_none)))
    (both (demands_if (has_labels w a) (demands_of_get w (functions_in w b) keys))
    (demands_if (has_labels w x) (demands_of_ancestors w a.label))) in
    let asked = λ (a b : AbstractValue).
    value_if (has_labels w a) (get w (functions_in w b) keys).value in
    let sites = λ (a : AbstractValue). ap (λ (n : ℕ). list_any a.label (labels_below n))
    s.reader.sites_are in
    let left_has = c.has_labels.ensures ∙ sites v in
    let has = c.has_labels-has_object.ensures ∙ sites q in
    let callees_are = c.deref.ensures.value ∙ c.in_ok-callees.ensures in
    let functions_is : labels_in c.in_ok-functions.functions ≡ functions_in w r =
    c.in_ok-functions.ensures ∙ functions_are p r.label c.deref.result.now callees_are in
    let prototype = c.in_ok-property.ensures in
    let q_is : q ≡ asked v r =
    prototype.value
    ∙ (λ n. value_if (left_has n) (get w (functions_is n) keys).value) in
    let get_demands = prototype.demands_are
    ∙ (λ n. demands_if (left_has n) (demands_of_get w (functions_is n) keys)) in
    let chain = c.in_ok-is_above.ensures in
    let above = chain.above
    ∙ ap (λ b. b && some_label w (λ l. proper_ancestors w v.label l && q.label l)) has
    ∙ some_both (proper_ancestors w v.label) q.label all in
    let chain_demands = chain.demands_are
    ∙ ap (λ b. demands_if b (demands_of_ancestors w v.label)) has in
    let some = c.some_function-is_function.ensures
    ∙ ap (list_any test) (c.deref-2.ensures.value ∙ c.in_ok-callees.ensures)
    ∙ any_filter r.label test all in
    let other = ap (λ (b : Bool). b || c.some_other.result) c.has_atoms-2.ensures
    ∙ ap (λ (b : Bool). has_atoms r || b) (c.some_other.ensures
    ∙ ap (list_any (λ l. not (test l))) (c.deref-3.ensures.value ∙ c.in_ok-callees.ensures)
    ∙ any_filter r.label (λ l. not (test l)) all) in
    let value_is = c.of_bools-value.ensures
    ∙ (λ n. of_bools (above n) ((some n && c.has_atoms.ensures n) || has n)) in
    let demands_are = c.in_ok-join.ensures.joined ∙ (λ n. both (get_demands n) (chain_demands n)) in
    let right_is = c.register-right.ensures in
    let given : IsOutcome s (told v r q) o = outcome_of s _ c.join.new.self _ c.sets.new.states o
    (given_first s _ c.new-states.result c.sets.new.states c.new-states.ensures
    (added_both s _ _ c.new-states.result c.type_error.new.states c.sets.new.states
    (added_as s _ _ c.new-states.result c.type_error.new.states (ap no_function other)
    c.in_ok-type_error.ensures)
    (added_both s _ _ c.type_error.new.states c.type_error-2.new.states c.sets.new.states
    (added_as s _ _ c.type_error.new.states c.type_error-2.new.states
    (ap no_prototype c.has_non_object.ensures) c.in_ok-type_error-2.ensures)
    (added_as s _ _ c.type_error-2.new.states c.sets.new.states (ap set_to value_is)
    c.in_ok-sets.ensures)))) demands_are c.outcome.ensures in
    subst (λ (a : AbstractValue). IsOutcome s (told a (at w c.args.right)
    (asked a (at w c.args.right))) o) c.register-left.ensures
    (subst (λ (b : AbstractValue). IsOutcome s (told v b (asked v b)) o) right_is
    (subst (λ (x : AbstractValue). IsOutcome s (told v r x) o) q_is given))
