use Rattle.ja_report.proofs.SiteLemmas.{set_more}
use Rattle.ja_report.proofs.sections.set_of.Goals as goal

pub loop-number-preserved : goal.loop-number-preserved
loop-number-preserved c =
    set_more _ _ _ _ _ c.loop-number.invariant c.loop-number-test.true
    c.in_ok-insert.ensures.updates
