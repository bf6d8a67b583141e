use Rattle.ja_value.specs.Value.{labels_in}
use Rattle.ja_aheap.proofs.KeptLemmas.{Moving}
use Rattle.ja_aheap.proofs.heap.AHeap.moved.Given as goal

abbrev pub invariant-loop-site : goal.invariant-loop-site
invariant-loop-site l =
    Moving l.self.sites l.self.masks.value l.site-iterator (labels_in l.labels)
