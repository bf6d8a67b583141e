use Rattle.ja_lint_top.proofs.Listed.{counts_told}
use Rattle.ja_lint_top.proofs.ending.push_counts.Goals as goal

pub returns : goal.returns
returns c =
    counts_told c.args.warnings.now _ _ _ _ _ _ c.faults.result c.certain.result c.rows.result
    c.faults.ensures c.certain.ensures c.rows.ensures c.in_ok-push_so_many.ensures
    c.in_ok-extend_from_slice.ensures.items c.in_ok-push_number.ensures
    c.in_ok-extend_from_slice-2.ensures.items c.in_ok-push_reads.ensures
