use Rattle.std.proofs.Common.{◌≡◌, ◌++◌, replicate}
use Rattle.ja_machine.specs.Frames.{undefined}
use Rattle.ja_step.proofs.entry.push_undefined.Given as goal

abbrev pub invariant-loop-register : goal.invariant-loop-register
invariant-loop-register l =
    l.registers.items ≡ l.fn.registers.items ++ replicate l._register undefined
