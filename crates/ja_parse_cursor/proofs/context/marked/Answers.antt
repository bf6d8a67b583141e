use Rattle.std.proofs.Common.{◌∙◌, sym}
use Rattle.ja_parse_cursor.proofs.Marks.{mark_stored, mark_all}
use Rattle.ja_parse_cursor.proofs.context.marked.Goals as goal

pub loop-label-preserved : goal.loop-label-preserved
loop-label-preserved c =
    rw c.saturating_sub-left.ensures
    (mark_stored c.args.labels.now _ _ _ c.loop-label.left _ _ c.loop-label-test.true c.mark.ensures
    c.in_ok-push.ensures.items ∙ c.loop-label.invariant)

pub returns : goal.returns
returns c =
    sym (mark_all c.args.labels.now c.loop-label.copy.items _ c.loop-label.left
    c.loop-label-test.false) ∙ c.loop-label.invariant
