use Rattle.ja_astate.specs.State.{state_of}
use Rattle.ja_report.specs.code.Output.{Adds}
use Rattle.ja_report.proofs.ObjectLemmas.{register_front}
use Rattle.ja_report.proofs.lines.push_registers.Given as goal

abbrev pub invariant-loop-number : goal.invariant-loop-number
invariant-loop-number l =
    Adds l.program (register_front l.program l.parameters (state_of l.state).register l.number)
    l.initial.out l.out
