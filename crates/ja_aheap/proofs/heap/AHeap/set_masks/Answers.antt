use Rattle.std.proofs.Common.{refl, ap, ◌∙◌}
use Rattle.std.proofs.lemmas.List.Elements.{recursion_from_All}
use Rattle.ja_value.specs.Labels.{mask_in}
use Rattle.ja_aheap.specs.Heap.{masks_with}
use Rattle.ja_aheap.proofs.HeapLemmas.{heap_same}
use Rattle.ja_aheap.proofs.MaskLemmas.{set_beyond}
use Rattle.ja_aheap.proofs.heap.AHeap.set_masks.Goals as goal

pub returns-clause-set : goal.returns-clause-set
returns-clause-set c =
    heap_same _ _ refl refl (λ l k. refl)
    (λ s. c.in_ok-self.ensures s
    ∙ ap (λ masks. masks_with c.args.masks.items (mask_in masks) s) c.deref.ensures)

pub invariant_of-self : goal.invariant_of-self
invariant_of-self c =
    let heap = c.args.self.now in
    record {
      placed = heap.placed;
      few = heap.few;
      mentions = heap.mentions;
      counted =
          λ s beyond.
          c.in_ok-self.ensures s
          ∙ ap (λ masks. masks_with c.args.masks.items (mask_in masks) s) c.deref.ensures
          ∙ set_beyond heap.sites c.args.masks.items (mask_in heap.masks.value) s
          (recursion_from_All _ c.args.masks.items c.requires) beyond (heap.counted s beyond);
    }
