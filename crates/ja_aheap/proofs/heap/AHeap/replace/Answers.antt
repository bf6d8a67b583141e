use Rattle.std.proofs.Common.{ℕ, List, slice_set, ap, ◌∙◌}
use Rattle.ja_base.specs.declared.ids.Label.{Label}
use Rattle.ja_abstract.specs.declared.abstraction.Key.{Key}
use Rattle.ja_value.specs.Value.{labels_in}
use Rattle.ja_aheap.specs.declared.object.AObject.{AObject}
use Rattle.ja_aheap.specs.KeysBelow.{at_keys_below}
use Rattle.ja_aheap.specs.Heap.{heap_of, property_at}
use Rattle.ja_aheap.specs.Objects.{own_in}
use Rattle.ja_aheap.proofs.UpdateLemmas.{object_set, label_within}
use Rattle.ja_aheap.proofs.MentionedLemmas.{mentioned_put}
use Rattle.ja_aheap.proofs.heap.AHeap.replace.Goals as goal

pub returns-clause-replaced : goal.returns-clause-replaced
returns-clause-replaced g c =
    let h = c.args.self.now in
    let new = c.in_ok-object.object in
    let set = c.in_ok-set.ensures.ok ∙ ap (λ (n : ℕ). slice_set h.objects n new)
    c.label_number.ensures in
    let each = λ (l : Label) (k : Key). ap (λ (os : List AObject). property_at os h.names l k) set
    ∙ object_set h.objects h.names c.args.label new (at_keys_below h.names (own_in c.args.made))
    (label_within c.args.label h.sites _ c.requires h.placed)
    (ap (at_keys_below h.names) c.in_ok-object.ensures) l k in
    λ i. record (heap_of h) { property = λ l k. (each l k) i }

pub invariant_of-self-2-clause-mentions : goal.invariant_of-self-2-clause-mentions
invariant_of-self-2-clause-mentions g c =
    let h = c.args.self.now in
    mentioned_put c.set.result h.names h.sites h.objects c.set.new.self (labels_in h.mentioned)
    (labels_in c.mention.new.mentioned) c.label_number.result c.args.label
    c.in_ok-object.object c.label_number.ensures c.requires h.placed c.set.ensures.ok
    c.set.ensures.err c.in_ok-mention.ensures.mentions c.in_ok-mention.ensures.kept h.mentions
