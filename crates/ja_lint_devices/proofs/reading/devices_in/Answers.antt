-- The next value adds its device, or is why all are refused.
use Rattle.ja_lint_devices.specs.code.Reading.{seen_of}
use Rattle.ja_lint_devices.proofs.Refusing.{all_more, refused_here, seen_more}
use Rattle.ja_lint_devices.proofs.Words.{texts_of, text_at}
use Rattle.ja_lint_devices.proofs.reading.devices_in.Goals as goal

pub returns-in-Err-clause-refused : goal.returns-in-Err-clause-refused
returns-in-Err-clause-refused c =
    refused_here (texts_of c.args.values.now) c.loop-index.index _
    (text_at c.args.values.now c.loop-index.index _ c.loop-index-test.true)
    c.loop-index.invariant.kinds _ c.in-Err.ensures.refused

pub loop-index-preserved : goal.loop-index-preserved
loop-index-preserved c = record {
  kinds =
      all_more (texts_of c.args.values.now) c.loop-index.index _
      (text_at c.args.values.now c.loop-index.index _ c.loop-index-test.true)
      c.loop-index.invariant.kinds c.in-Ok.ensures.kinds;
  seen =
      seen_more (texts_of c.args.values.now) c.loop-index.index _
      (text_at c.args.values.now c.loop-index.index _ c.loop-index-test.true) seen_of _ _ _
      c.loop-index.invariant.seen c.in_ok-push-in-Ok.ensures.items c.in-Ok.ensures.seen;
}
