use Rattle.std.proofs.Common.{◌≡◌, ◌++◌, ℕ}
use Rattle.std.specs.List.{flat_map, range_with_len}
use Rattle.ja_machine.specs.Frames.{parameters_of}
use Rattle.ja_astate.specs.State.{state_of}
use Rattle.ja_report.specs.Lines.{register_line}
use Rattle.ja_cert.specs.code.Writing.{lines_text}
use Rattle.ja_cert.proofs.write_states.push_registers.Given as goal

abbrev pub invariant-loop-number : goal.invariant-loop-number
invariant-loop-number l =
    l.text.items ≡ l.initial.text.items ++ flat_map (λ (r : ℕ). lines_text l.program
    (register_line l.program (parameters_of l.program l.function) r
    ((state_of l.state).register r))) (range_with_len 0 l.number)
