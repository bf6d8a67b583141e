use Rattle.std.proofs.Common.{ℕ, List, slice_set, get_or, ap, ◌∙◌}
use Rattle.ja_base.specs.declared.ids.Label.{Label}
use Rattle.ja_abstract.specs.declared.abstraction.Key.{Key}
use Rattle.ja_abstract.specs.Writes.{joined_at}
use Rattle.ja_value.specs.Value.{labels_in}
use Rattle.ja_aheap.specs.declared.object.AObject.{AObject}
use Rattle.ja_aheap.specs.KeysBelow.{at_keys_below}
use Rattle.ja_aheap.specs.Heap.{heap_of, property_at}
use Rattle.ja_aheap.specs.Objects.{object_of, writes_of}
use Rattle.ja_aheap.proofs.WriteLemmas.{joined_in}
use Rattle.ja_aheap.proofs.UpdateLemmas.{object_changed, label_within, joined_shown}
use Rattle.ja_aheap.proofs.MentionedLemmas.{mentioned_put}
use Rattle.ja_aheap.proofs.heap.AHeap.weakly.Goals as goal

pub returns-clause-written : goal.returns-clause-written
returns-clause-written g c =
    let h = c.args.self.now in
    let was = c.get.result.now in
    let new = c.weakly.new.self in
    let writes = writes_of c.args.writes in
    let set = c.in_ok-set.ensures.ok ∙ ap (λ (n : ℕ). slice_set h.objects n new)
    c.label_number-number.ensures in
    let written = ap (at_keys_below h.names) (c.in_ok-weakly.ensures
    ∙ ap (joined_in writes) c.in_ok-object.ensures)
    ∙ joined_shown h.names c.args.writes.list.items (object_of was) c.requires.keys in
    let each = λ (l : Label) (k : Key). ap (λ (os : List AObject). property_at os h.names l k) set
    ∙ object_changed h.objects h.names c.args.label was new (joined_at writes)
    (label_within c.args.label h.sites _ c.requires.label h.placed)
    (c.get.ensures ∙ ap (λ (n : ℕ). get_or h.objects n was) c.label_number-number.ensures)
    written l k in
    λ i. record (heap_of h) { property = λ l k. (each l k) i }

pub invariant_of-self-2-clause-mentions : goal.invariant_of-self-2-clause-mentions
invariant_of-self-2-clause-mentions g c =
    let h = c.args.self.now in
    mentioned_put c.set.result h.names h.sites h.objects c.set.new.self (labels_in h.mentioned)
    (labels_in c.mention.new.mentioned) c.label_number-number.result c.args.label
    c.weakly.new.self c.label_number-number.ensures c.requires.label h.placed c.set.ensures.ok
    c.set.ensures.err c.in_ok-mention.ensures.mentions c.in_ok-mention.ensures.kept h.mentions
