use Rattle.std.proofs.Common.{◌≡◌, rules}
use Rattle.std.specs.Ordering.{nat_cmp}
use Rattle.std.specs.BTreeMap.{get}
use Rattle.ja_abstract.specs.AbstractState.{join_masks}
use Rattle.ja_value.specs.Labels.{mask_in}
use Rattle.ja_aheap.proofs.MapLemmas.{listed_decides}
use Rattle.ja_aheap.proofs.masks.leq_at_kept.Goals as goal

pub returns : goal.returns
returns c =
    let masks = c.args.masks.now in
    let others = c.args.others.now in
    listed_decides _ (get nat_cmp masks)
    (λ q. join_masks (mask_in masks q) (mask_in others q) ≡ mask_in others q)
    c.all_listed.result c.all_listed.ensures (λ q v is says. search rules)
    (λ q v is says all. search rules)
