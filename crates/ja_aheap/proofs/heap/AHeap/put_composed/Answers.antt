use Rattle.std.proofs.Common.{ap, ◌∙◌, arith, length, ◌<◌}
use Rattle.ja_value.specs.Labels.{label_at, mask_in}
use Rattle.ja_aheap.proofs.ComposingLemmas.{composing_put, composing_kept}
use Rattle.ja_aheap.proofs.heap.AHeap.put_composed.Goals as goal

pub returns-in_ok-set-clause-composing : goal.returns-in_ok-set-clause-composing
returns-in_ok-set-clause-composing g c = λ h.
    let first = c.args.self.now.objects in
    let within : c.args.number < length first = omega (arith, c.args.self.now.placed) in
    composing_put c.args.self.now.names first c.args.later.now.objects c.args.objects.now
    c.set.new.self
    (mask_in c.args.later.now.masks.value) c.args.number c.label_at-label.result c.in-Some.object
    c.in_ok-object.field-0 (c.label_at-label.ensures ∙ ap label_at c.from.ensures) within
    c.in_ok-set.ensures.ok h c.in_ok-object.ensures c.in-Some.is

pub returns-in_default-clause-composing : goal.returns-in_default-clause-composing
returns-in_default-clause-composing g c = λ h.
    composing_kept c.args.self.now.names c.args.self.now.objects c.args.later.now.objects
    c.args.objects.now
    (mask_in c.args.later.now.masks.value) c.args.number c.label_at-label.result
    c.in_ok-object.field-0 (c.label_at-label.ensures ∙ ap label_at c.from.ensures) h
    c.in_ok-object.ensures c.in_default.is
