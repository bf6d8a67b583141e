use Rattle.std.proofs.Common.{Bool, ◌||◌, is_some, ap, ◌∙◌}
use Rattle.std.specs.Ordering.{nat_cmp}
use Rattle.std.specs.BTreeMap.{get}
use Rattle.ja_aheap.proofs.ComposingLemmas.{masks_all, no_masks}
use Rattle.ja_aheap.proofs.composed.composed_masks.Goals as goal

pub returns : goal.returns
returns c =
    masks_all c.args.first.now c.args.later.now c.keep_masks-2.new.composed c.new-composed.result
    (c.in_ok-keep_masks-2.ensures.right (c.in_ok-keep_masks.ensures.right
    (no_masks c.new-composed.result _ c.new-composed.ensures.empty)))
    (λ q. c.in_ok-keep_masks-2.ensures.kept q
    ∙ ap (λ (b : Bool). is_some (get nat_cmp c.args.later.now q) || b)
    (c.in_ok-keep_masks.ensures.kept q))
