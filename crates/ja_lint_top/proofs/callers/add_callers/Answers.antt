use Rattle.std.proofs.Common.{◌<◌, length, ap, arith}
use Rattle.ja_lint_top.proofs.Leading.{grows_more}
use Rattle.ja_lint_top.proofs.callers.add_callers.Goals as goal

pub loop-call-preserved : goal.loop-call-preserved
loop-call-preserved c =
    let t = c.args.table.now in
    let i = c.loop-call.call-index in
    let within : i < length t.edges.items =
    omega (arith, ap length c.deref-call-items.ensures.value) in
    grows_more c.args.program.now t i _ within _ _ _ _ _ c.loop-call.invariant
    (rw c.deref-call-items.ensures.value at c.add_caller-grows.ensures)
