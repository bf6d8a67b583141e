use Rattle.std.proofs.Common.{◌≡◌, take}
use Rattle.ja_value.specs.Value.{labels_in}
use Rattle.ja_flow.specs.code.Calling.{running_among}
use Rattle.ja_flow.proofs.calling.running.Given as goal

abbrev pub invariant-loop-label : goal.invariant-loop-label
invariant-loop-label l =
    labels_in l.labels
    ≡ running_among l.program l.entry l.function.0 (take l.label-index l.members)
