use Rattle.ja_value.specs.Value.{labels_in}
use Rattle.ja_nodes.proofs.MemberLemmas.{functions_more}
use Rattle.ja_nodes.proofs.instances.functions_of.Goals as goal

pub loop-label-preserved : goal.loop-label-preserved
loop-label-preserved c =
    functions_more c.args.program.now c.args.labels.now c.loop-label.label-index _
    (labels_in c.loop-label.functions) (labels_in c.add_function.new.functions)
    c.loop-label-test.true c.loop-label.invariant c.in_ok-add_function.ensures
