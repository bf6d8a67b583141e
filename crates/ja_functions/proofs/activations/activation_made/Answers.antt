use Rattle.std.proofs.Common.{[], ◌++◌, map, ap, ◌∙◌}
use Rattle.ja_abstract.specs.AbstractValue.{AbstractValue, of_labels}
use Rattle.ja_abstract.specs.Made.{own_of, slot_of, arguments_binding, parameter_ids, parameter_properties}
use Rattle.ja_abstract.specs.Resolved.{outer}
use Rattle.ja_aheap.specs.Objects.{listed_of}
use Rattle.ja_transfer.specs.Outcomes.{at_view}
use Rattle.ja_value.specs.Value.{labels_in}
use Rattle.ja_functions.specs.code.Aged.{aged_at}
use Rattle.ja_functions.proofs.Lists.{Properties, listed_more}
use Rattle.ja_functions.proofs.activations.activation_made.Goals as goal

pub returns : goal.returns
returns c =
    let s = c.args.stepper.now in
    let p = s.reader.program.now in
    let f = s.context.function in
    let a = aged_at (at_view s).state c.args.site c.args.arguments in
    let parameters : Properties = parameter_properties a 0 (parameter_ids p f) in
    let chain = ap (λ (v : AbstractValue). v.label) c.in_ok-chain.ensures in
    let first = c.slot_of.ensures
    ∙ ap (slot_of outer) (c.of_labels.ensures
    ∙ ap of_labels (ap labels_in c.replace-labels.ensures.value ∙ chain)) in
    ap own_of (c.in_ok-list_parameters.ensures
    ∙ ap (λ (xs : Properties). xs ++ parameters) (c.in_ok-list_arguments.ensures
    ∙ ap (λ (xs : Properties). xs ++ arguments_binding c.args.arguments)
    (listed_more c.new-listed.result.items c.push.new.self.items _ [] _
    (ap (map listed_of) c.new-listed.ensures.items) c.in_ok-push.ensures.items first)))
