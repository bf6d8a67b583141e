use Rattle.std.proofs.Common.{◌≡◌, ◌||◌, ℕ, is_some}
use Rattle.std.specs.Ordering.{nat_cmp}
use Rattle.std.specs.BTreeMap.{get}
use Rattle.ja_aheap.specs.code.Masks.{AreMasks, both_masks}
use Rattle.ja_aheap.proofs.MapLemmas.{found}
use Rattle.ja_aheap.proofs.composed.keep_masks.Given as goal

abbrev pub invariant-loop-site : goal.invariant-loop-site
invariant-loop-site l = record {
  right : AreMasks (both_masks l.first l.later) l.initial.composed → AreMasks
      (both_masks l.first l.later) l.composed;
  kept : (q : ℕ) → (is_some (found l.site-iterator q) || is_some (get nat_cmp l.composed q))
      ≡ (is_some (get nat_cmp l.masks q) || is_some (get nat_cmp l.initial.composed q));
}
