use Rattle.std.proofs.Common.{sym, ◌∙◌}
use Rattle.std.proofs.lemmas.Bool.{true≢false}
use Rattle.ja_aheap.proofs.HeapLemmas.{leq_by_label}
use Rattle.ja_aheap.proofs.MaskLemmas.{same_order}
use Rattle.ja_aheap.proofs.heap.AHeap.leq.Goals as goal

pub returns-then-leq_masks : goal.returns-then-leq_masks
returns-then-leq_masks c =
    let a = c.args.self.now in
    let b = c.args.other.now in
    let places = leq_by_label a.names b.names a.objects b.objects c.requires.names in
    record {
      order = (
        λ said. record {
          property = places.0 (c.leq_objects.ensures.0 said);
          mask = λ s. same_order c.deref.ensures c.deref-2.ensures s
              (c.leq_masks.ensures.0 c.if-leq_masks.true s);
        },
        λ h. c.leq_objects.ensures.1 (places.1 h.property),
      );
    }

pub returns-else-leq_masks : goal.returns-else-leq_masks
returns-else-leq_masks c = record {
  order = (
    λ wrong. absurd (true≢false (sym wrong ∙ c.if-leq_masks.false)),
    λ h. c.leq_masks.ensures.1 (λ s. same_order (sym c.deref.ensures) (sym c.deref-2.ensures) s
        (h.mask s)),
  );
}
