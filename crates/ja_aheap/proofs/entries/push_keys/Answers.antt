use Rattle.std.proofs.Common.{arith}
use Rattle.ja_abstract.specs.declared.abstraction.Key.TheVariants as key
use Rattle.ja_aheap.specs.Numbers.{is_demanded}
use Rattle.ja_aheap.proofs.ListLemmas.{filter_step}
use Rattle.ja_aheap.proofs.entries.push_keys.Goals as goal

pub loop-key-preserved : goal.loop-key-preserved
loop-key-preserved c =
    filter_step (is_demanded c.args.properties.now) c.args.others.now c.loop-key.key-index
    (key.Name (record { 0 = 0 })) _ _ _ c.in_ok-push_key.ensures c.loop-key.invariant (omega arith)
