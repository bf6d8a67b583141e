use Rattle.std.proofs.Common.{append_assoc}
use Rattle.ja_report.specs.Report.{summary_text}
use Rattle.ja_table.proofs.ListedContexts.{contexts_count}
use Rattle.ja_table.proofs.ListedEdges.{edges_count}
use Rattle.ja_report.proofs.whole.summary_text.Goals as goal

pub returns : goal.returns
unfolding summary_text
returns c =
    let p = c.args.program.now in
    let t = c.args.table.now in
    simp (
      c.in_ok-extend_from_slice.ensures.items,
      c.in_ok-push_count-5.ensures,
      c.in_ok-push_count-4.ensures,
      c.in_ok-push_count-3.ensures,
      c.in_ok-push_count-2.ensures,
      c.in_ok-push_count.ensures,
      c.new-text.ensures.items,
      c.from.ensures,
      c.from-2.ensures,
      c.len.ensures,
      c.len-2.ensures,
      contexts_count p t c.requires.fits,
      edges_count p t c.requires.fits,
      append_assoc,
    )
