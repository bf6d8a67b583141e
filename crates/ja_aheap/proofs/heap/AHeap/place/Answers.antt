use Rattle.std.proofs.Common.{ℕ, List, slice_set, get_or, if◌then◌else◌, ap, ◌∙◌}
use Rattle.ja_base.specs.declared.ids.Label.{Label}
use Rattle.ja_abstract.specs.declared.abstraction.Key.{Key}
use Rattle.ja_abstract.specs.AbstractValue.{AbstractProperty, same_label}
use Rattle.ja_abstract.specs.AbstractState.{same_key}
use Rattle.ja_abstract.specs.Made.{Own}
use Rattle.ja_value.specs.Value.{labels_in, property_of}
use Rattle.ja_aheap.specs.declared.object.AObject.{AObject}
use Rattle.ja_aheap.specs.KeysBelow.{at_keys_below}
use Rattle.ja_aheap.specs.Heap.{heap_of, property_at}
use Rattle.ja_aheap.specs.Objects.{object_of}
use Rattle.ja_aheap.proofs.HeapLemmas.{both_tests, placed_shown}
use Rattle.ja_aheap.proofs.UpdateLemmas.{object_changed, label_within, other_key}
use Rattle.ja_aheap.proofs.MentionedLemmas.{mentioned_put}
use Rattle.ja_aheap.proofs.heap.AHeap.place.Goals as goal

pub returns-clause-placed : goal.returns-clause-placed
returns-clause-placed g c =
    let h = c.args.self.now in
    let was = c.get.result.now in
    let p = property_of c.args.property in
    let set = c.in_ok-set.ensures.ok ∙ ap (λ (n : ℕ). slice_set h.objects n c.write.new.self)
    c.label_number-number.ensures in
    let change = λ (q : AbstractProperty) (k : Key). if same_key c.args.key k then p else q in
    let written = ap (at_keys_below h.names) (c.in_ok-write.ensures.written
    ∙ ap (λ (own : Own). λ k. change (own k) k) c.in_ok-object.ensures)
    ∙ placed_shown h.names c.args.key p (object_of was)
    (λ k beyond. other_key h.names c.args.key k c.requires.key beyond) in
    let each = λ (l : Label) (k : Key). ap (λ (os : List AObject). property_at os h.names l k) set
    ∙ object_changed h.objects h.names c.args.label was c.write.new.self change
    (label_within c.args.label h.sites _ c.requires.label h.placed)
    (c.get.ensures ∙ ap (λ (n : ℕ). get_or h.objects n was) c.label_number-number.ensures)
    written l k
    ∙ both_tests (same_label c.args.label l) (same_key c.args.key k) p
    (property_at h.objects h.names l k) in
    λ i. record (heap_of h) { property = λ l k. (each l k) i }

pub invariant_of-self-2-clause-mentions : goal.invariant_of-self-2-clause-mentions
invariant_of-self-2-clause-mentions g c =
    let h = c.args.self.now in
    mentioned_put c.set.result h.names h.sites h.objects c.set.new.self (labels_in h.mentioned)
    (labels_in c.mention.new.mentioned) c.label_number-number.result c.args.label
    c.write.new.self c.label_number-number.ensures c.requires.label h.placed c.set.ensures.ok
    c.set.ensures.err c.in_ok-mention.ensures.mentions c.in_ok-mention.ensures.kept h.mentions
