use Rattle.std.proofs.Common.{◌∙◌}
use Rattle.ja_report.proofs.WholeLemmas.{report_whole}
use Rattle.ja_report.proofs.whole.report.Goals as goal

pub returns : goal.returns
returns c =
    report_whole c.args.program.now c.args.table.now c.args.visits.now c.args.built
    c.args.warnings.now c.requires.fits _ _ _ _ _ _ _ _ _
    (c.deref.ensures.value ∙ c.in_ok-lines.ensures.named)
    (c.deref-2.ensures.value ∙ c.in_ok-lines.ensures.text) c.len.ensures c.new-text.ensures.items
    c.in_ok-push_head.ensures c.in_ok-push_context_count.ensures
    c.in_ok-extend_from_slice.ensures.items c.in_ok-push_visits.ensures
    c.in_ok-extend_from_slice-2.ensures.items
