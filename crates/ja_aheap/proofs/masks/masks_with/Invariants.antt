use Rattle.std.proofs.Common.{◌≡◌, ℕ, vec_len}
use Rattle.ja_value.specs.Labels.{mask_in}
use Rattle.ja_aheap.specs.Heap.{masks_with}
use Rattle.ja_aheap.proofs.masks.masks_with.Given as goal

abbrev pub invariant-loop-site : goal.invariant-loop-site
invariant-loop-site l =
    (s : ℕ) → masks_with l.others.items (mask_in l.set) s
    ≡ masks_with l.initial.others.items (mask_in l.initial.set) s

abbrev pub decreases-loop-site : goal.decreases-loop-site
decreases-loop-site l = vec_len l.others
