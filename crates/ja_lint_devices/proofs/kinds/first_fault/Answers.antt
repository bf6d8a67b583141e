-- By its index, a word is the first that is wrong, or one more that isn't.
use Rattle.std.proofs.Common.{refl}
use Rattle.ja_lint_devices.proofs.Words.{right_here, wrong_here}
use Rattle.ja_lint_devices.proofs.kinds.first_fault.Goals as goal

pub returns-then-is_wrong : goal.returns-then-is_wrong
returns-then-is_wrong c = (
  _,
  wrong_here c.args.words.now c.loop-index.index _ c.loop-index-test.true c.loop-index.invariant
      _ c.if-is_wrong.ensures refl,
)

pub loop-index-preserved : goal.loop-index-preserved
loop-index-preserved c =
    right_here c.args.words.now c.loop-index.index _ c.loop-index-test.true c.loop-index.invariant
    _ c.if-is_wrong.ensures refl
