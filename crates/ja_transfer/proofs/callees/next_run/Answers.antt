use Rattle.ja_transfer.proofs.CalleeLemmas.{next_more}
use Rattle.ja_transfer.proofs.callees.next_run.Goals as goal

pub loop-callee-preserved : goal.loop-callee-preserved
loop-callee-preserved c =
    next_more c.args.entry c.args.program.now c.args.callees.now c.loop-callee.callee-index _ c.args.from
    c.args.end c.entry_at.result c.lesser-next.result c.loop-callee-test.true c.entry_at.ensures
    (c.lesser-next.ensures _ c.loop-callee.invariant)
