use Rattle.std.proofs.Common.{arith}
use Rattle.ja_lint_top.proofs.Listed.{reads_none, reads_told}
use Rattle.ja_lint_top.proofs.ending.push_reads.Goals as goal

pub returns-in_ok-extend_from_slice-2 : goal.returns-in_ok-extend_from_slice-2
returns-in_ok-extend_from_slice-2 c =
    reads_told _ _ _ _ c.args.count (omega arith) c.in_ok-extend_from_slice.ensures.items
    c.in_ok-push_so_many.ensures c.in_ok-extend_from_slice-2.ensures.items

pub returns-else-count-ne0 : goal.returns-else-count-ne0
returns-else-count-ne0 c = reads_none _ c.args.count (omega (arith, c.if-count-ne0.false))
