use Rattle.ja_report.proofs.ObjectLemmas.{keys_none, keys_more, keys_all}
use Rattle.ja_report.proofs.lines.push_object.Goals as goal

pub loop-key-init : goal.loop-key-init
loop-key-init c = keys_none _ _ _ _

pub loop-key-preserved : goal.loop-key-preserved
loop-key-preserved c =
    keys_more _ _ _ _ _ _ _ _ _ c.loop-key.invariant c.loop-key-test.true
    c.in_ok-push_key_line.ensures

pub returns : goal.returns
returns c = keys_all _ _ _ _ _ _ _ c.loop-key.invariant c.loop-key-test.false c.requires.keys
