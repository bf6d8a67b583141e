use Rattle.ja_report.proofs.EntryLemmas.{pairs_none, pairs_more, pairs_front}
use Rattle.ja_report.proofs.table.push_entries.Goals as goal

pub loop-pair-init : goal.loop-pair-init
loop-pair-init c = pairs_none _ _ _

pub loop-pair-preserved : goal.loop-pair-preserved
loop-pair-preserved c =
    pairs_more _ _ _ _ _ _ _ _ c.loop-pair.invariant c.loop-pair-test.true c.in_ok-push_pair.ensures

pub returns : goal.returns
returns c = pairs_front _ _ _ _ _ _ c.loop-pair.invariant c.loop-pair-test.false
