use Rattle.std.proofs.Common.{◌≡◌, take}
use Rattle.std.specs.List.{AllByRecursion}
use Rattle.ja_aheap.specs.Heap.{heap_of}
use Rattle.ja_cert_parts.specs.declared.listed.MaskAt.{MaskAt}
use Rattle.ja_cert_read.proofs.states.has_masks.Given as goal

abbrev pub invariant-loop-listed : goal.invariant-loop-listed
invariant-loop-listed l =
    AllByRecursion (λ (x : MaskAt). (heap_of l.state.heap).mask x.site.0 ≡ x.mask)
    (take l.listed-index l.masks)
