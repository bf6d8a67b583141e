use Rattle.ja_value.specs.Value.{labels_in}
use Rattle.ja_flow.proofs.Callees.{running_more}
use Rattle.ja_flow.proofs.calling.running.Goals as goal

pub loop-label-preserved : goal.loop-label-preserved
loop-label-preserved c =
    running_more c.args.program.now c.args.entry c.args.function.0 c.args.members.now
    c.loop-label.label-index _ (labels_in c.loop-label.labels)
    (labels_in c.add_running.new.labels) c.loop-label-test.true c.loop-label.invariant
    c.in_ok-add_running.ensures
