use Rattle.std.proofs.Common.{◌≡◌, take}
use Rattle.ja_value.specs.Value.{labels_in}
use Rattle.ja_nodes.specs.code.Instances.{functions_among}
use Rattle.ja_nodes.proofs.instances.functions_of.Given as goal

abbrev pub invariant-loop-label : goal.invariant-loop-label
invariant-loop-label l =
    labels_in l.functions ≡ functions_among l.program (take l.label-index l.labels)
