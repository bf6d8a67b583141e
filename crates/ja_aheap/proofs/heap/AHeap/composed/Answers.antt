use Rattle.std.proofs.Common.{ℕ, ◌*◌, ◌||◌, ap, sym, ◌∙◌, arith}
use Rattle.std.specs.BTreeMap.{BTreeMap}
use Rattle.ja_base.specs.declared.ids.Label.{Label}
use Rattle.ja_abstract.specs.declared.abstraction.Key.{Key}
use Rattle.ja_abstract.specs.declared.abstraction.Mask.{Mask}
use Rattle.ja_abstract.specs.Composed.{composed_mask}
use Rattle.ja_abstract.specs.Resolved.{renamed_labels}
use Rattle.ja_value.specs.Labels.{mask_in}
use Rattle.ja_value.specs.Value.{labels_in}
use Rattle.ja_aheap.specs.KeysBelow.{at_keys_below}
use Rattle.ja_aheap.specs.Heap.{heap_of, property_at}
use Rattle.ja_aheap.specs.code.Masks.{both_masks}
use Rattle.ja_aheap.proofs.ComposingLemmas.{heap_composed, resolved_by}
use Rattle.ja_aheap.proofs.MentionedLemmas.{mentioned_composed}
use Rattle.ja_aheap.proofs.heap.AHeap.composed.Goals as goal

pub returns-clause-composed : goal.returns-clause-composed
returns-clause-composed g c =
    let h = c.args.self.now in
    let later = c.args.later.now in
    let mask = mask_in later.masks.value in
    let each = λ (l : Label) (k : Key).
    heap_composed h.objects later.objects c.in_ok-objects.objects h.names h.sites mask h.placed
    (later.placed ∙ ap (λ (n : ℕ). 2 * n) (sym c.requires.sites))
    (λ s above. later.counted s (omega arith)) c.in_ok-objects.ensures.composed l k
    ∙ ap (λ (n : ℕ). at_keys_below h.names (λ (j : Key). resolved_by mask
    (property_at later.objects n l j) (λ (m : Label). property_at h.objects h.names m j) l) k)
    c.requires.names in
    let masks = λ (s : ℕ). ap (λ (m : BTreeMap ℕ Mask). mask_in m s) c.in_ok-masks-2.ensures.ok
    ∙ c.in_ok-masks.ensures s
    ∙ (λ i. both_masks (c.deref.ensures i) (c.deref-2.ensures i) s) in
    λ i. record (heap_of h) {
      property = λ l k. (each l k) i;
      mask = λ s. (masks s) i;
    }

pub invariant_of-result : goal.invariant_of-result
invariant_of-result g c =
    let h = c.args.self.now in
    let later = c.args.later.now in
    let mask = mask_in later.masks.value in
    record {
      placed = c.in_ok-objects.ensures.composed.long ∙ h.placed;
      few = h.few;
      counted = λ s beyond.
          ap (λ (m : BTreeMap ℕ Mask). mask_in m s) c.in_ok-masks-2.ensures.ok
          ∙ c.in_ok-masks.ensures s
          ∙ (λ i. both_masks (c.deref.ensures i) (c.deref-2.ensures i) s)
          ∙ (λ i. composed_mask (h.counted s beyond i)
          (later.counted s (omega (arith, c.requires.sites, beyond)) i));
      mentions =
          mentioned_composed h.names later.names mask h.objects later.objects
          c.in_ok-objects.objects (labels_in h.mentioned) (labels_in later.mentioned)
          (labels_in c.in_ok-mentioned.mentioned) c.requires.names
          (heap_composed h.objects later.objects c.in_ok-objects.objects h.names h.sites mask
          h.placed (later.placed ∙ ap (λ (n : ℕ). 2 * n) (sym c.requires.sites))
          (λ s above. later.counted s (omega arith)) c.in_ok-objects.ensures.composed)
          (ap labels_in c.in_ok-mentioned.ensures ∙ c.in_ok-join.ensures.joined
          ∙ (λ i l. c.in_ok-labels.ensures i l || labels_in (c.labels.ensures i) l)
          ∙ (λ i l. renamed_labels (mask_in (c.deref-3.ensures i)) (labels_in h.mentioned) l
          || labels_in later.mentioned l))
          h.mentions later.mentions;
    }
