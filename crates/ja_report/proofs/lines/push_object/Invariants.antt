use Rattle.std.proofs.Common.{take}
use Rattle.ja_astate.specs.State.{state_of}
use Rattle.ja_report.specs.code.Output.{Adds}
use Rattle.ja_report.proofs.ObjectLemmas.{key_lines}
use Rattle.ja_report.proofs.lines.push_object.Given as goal

abbrev pub invariant-loop-key : goal.invariant-loop-key
invariant-loop-key l =
    Adds l.program
    (key_lines l.program l.label ((state_of l.state).property l.label) (take l.key-index l.keys))
    l.initial.out l.out
