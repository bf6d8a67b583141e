use Rattle.std.proofs.Common.{◌≡◌, ◌++◌, map}
use Rattle.std.specs.List.{range_with_len}
use Rattle.ja_machine.specs.Frames.{argument}
use Rattle.ja_step.proofs.entry.push_parameters.Given as goal

abbrev pub invariant-loop-index : goal.invariant-loop-index
invariant-loop-index l =
    l.registers.items ≡ l.fn.registers.items
    ++ map (argument l.arguments) (range_with_len 0 l.index)
