use Rattle.std.proofs.Common.{◌∙◌}
use Rattle.ja_abstract.specs.Composed.{composed_mask}
use Rattle.ja_aheap.specs.code.Masks.{both_masks}
use Rattle.ja_aheap.proofs.ComposingLemmas.{mask_put}
use Rattle.ja_aheap.proofs.composed.keep_mask.Goals as goal

pub returns-clause-right : goal.returns-clause-right
returns-clause-right c =
    mask_put (both_masks c.args.first.now c.args.later.now) c.args.composed.now c.put.new.map
    c.args.site c.composed_mask-mask.result c.in_ok-put.ensures.placed
    (c.composed_mask-mask.ensures
    ∙ (λ i. composed_mask (c.mask_at.ensures i) (c.mask_at-2.ensures i)))
