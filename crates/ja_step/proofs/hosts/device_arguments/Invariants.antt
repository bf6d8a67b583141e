use Rattle.std.proofs.Common.{◌≡◌, ◌++◌, drop}
use Rattle.ja_step.specs.Given.{primitives}
use Rattle.ja_step.proofs.hosts.device_arguments.Given as goal

abbrev pub invariant-loop-value : goal.invariant-loop-value
invariant-loop-value l =
    l.primitives.items ++ primitives (drop l.value-index l.conf.frame.arguments.items)
    ≡ primitives l.conf.frame.arguments.items
