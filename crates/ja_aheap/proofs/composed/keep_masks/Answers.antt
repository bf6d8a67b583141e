use Rattle.std.proofs.Common.{arith}
use Rattle.std.proofs.lemmas.Grind.{common_steps}
use Rattle.ja_aheap.proofs.composed.keep_masks.Goals as goal

pub loop-site-preserved : goal.loop-site-preserved
loop-site-preserved c = record {
  right = λ h. c.in_ok-keep_mask.ensures.right (c.loop-site.invariant.right h);
  kept =
      λ q. grind (
        arith,
        common_steps,
        c.loop-site.invariant.kept q,
        c.in_ok-keep_mask.ensures.kept q,
      );
}
