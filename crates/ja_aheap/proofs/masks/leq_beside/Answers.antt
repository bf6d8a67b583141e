use Rattle.std.proofs.Common.{◌≡◌, Option, unwrap_or, refl, rules}
use Rattle.std.specs.Ordering.{nat_cmp}
use Rattle.std.specs.BTreeMap.{get}
use Rattle.ja_abstract.specs.declared.abstraction.Mask.{Mask}
use Rattle.ja_abstract.specs.AbstractState.{join_masks, exactly_none}
use Rattle.ja_aheap.proofs.MapLemmas.{beside_holds}
use Rattle.ja_aheap.proofs.masks.leq_beside.Goals as goal

pub returns : goal.returns
returns c = λ said s.
    beside_holds _
    (λ (m o : Option Mask). join_masks (unwrap_or m exactly_none) (unwrap_or o exactly_none)
    ≡ unwrap_or o exactly_none)
    (λ v w is. search rules) refl (get nat_cmp c.args.masks.now s) (get nat_cmp c.args.others.now s)
    (c.all_beside.ensures said s)
