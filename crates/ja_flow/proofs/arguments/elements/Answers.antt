use Rattle.std.proofs.Common.{◌≡◌, ap, subst, ◌∙◌}
use Rattle.std.proofs.lemmas.Result.{IfOk-weaker}
use Rattle.ja_abstract.specs.AbstractValue.{AbstractProperty, join, undefined_value}
use Rattle.ja_abstract.specs.Keys.{index_keys}
use Rattle.ja_abstract.specs.Made.{whole_constant}
use Rattle.ja_abstract.specs.Reading.{both, demands_of_get, get}
use Rattle.ja_abstract.specs.Values.{as_read, has_labels, value_if}
use Rattle.ja_rows.specs.Calls as spec
use Rattle.ja_aheap.specs.Objects.{demands_in}
use Rattle.ja_astate.specs.Looks.{view_of}
use Rattle.ja_value.specs.Value.{value_of}
use Rattle.ja_flow.specs.code.Given.{AreArguments}
use Rattle.ja_flow.proofs.arguments.elements.Goals as goal

pub returns : goal.returns
returns c =
    let r = c.args.reader.now in
    let w = view_of r in
    let start = (value_of c.args.array.now).label in
    let indices = c.indices.ensures w.program r.keys_are in
    let length_is = c.in_ok-length.ensures.property in
    let element_is = c.in_ok-element.ensures.property
    ∙ ap (get w start) indices in
    let count_is = c.in_ok-count.ensures ∙ ap (λ (q : AbstractProperty).
    join (value_if (has_labels w q.value) (whole_constant 0)) (spec.element_count q.value))
    length_is in
    let value_is = c.in_ok-value.ensures ∙ ap (join undefined_value) (c.as_read.ensures
    ∙ ap (λ (q : AbstractProperty). as_read q.value) element_is) in
    let of_element = c.in_ok-element.ensures.demands_are
    ∙ ap (demands_of_get w start) indices in
    let of_length = c.in_ok-length.ensures.demands_are in
    let demands_are : demands_in c.join.new.self ≡ both (demands_of_get w start
    (index_keys w.program)) (demands_of_get w start spec.length_keys) =
    c.in_ok-join.ensures.joined ∙ (λ i. both (of_element i) (of_length i)) in
    IfOk-weaker c.all_are.result _ _ (λ kept are. subst (λ (g : spec.Arguments).
    AreArguments c.args.parameters g kept)
    (λ i. spec.all_are (value_is i) (count_is i) (demands_are i)) are) c.all_are.ensures
