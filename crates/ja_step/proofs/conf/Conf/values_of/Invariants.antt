use Rattle.std.proofs.Common.{◌≡◌, ◌++◌, map, drop}
use Rattle.ja_machine.specs.Frames.{register_of}
use Rattle.ja_step.specs.code.Steps.{frame_of}
use Rattle.ja_step.proofs.conf.Conf.values_of.Given as goal

abbrev pub invariant-loop-register : goal.invariant-loop-register
invariant-loop-register l =
    l.values.items ++ map (register_of (frame_of l.self.frame)) (drop l.register-index l.registers)
    ≡ map (register_of (frame_of l.self.frame)) l.registers
