use Rattle.std.proofs.Common.{◌≡◌, ◌++◌, take}
use Rattle.std.specs.List.{flat_map}
use Rattle.ja_abstract.specs.declared.abstraction.Key.{Key}
use Rattle.ja_astate.specs.State.{state_of}
use Rattle.ja_report.specs.Lines.{property_line}
use Rattle.ja_cert.specs.code.Writing.{lines_text}
use Rattle.ja_cert.proofs.write_states.push_object.Given as goal

abbrev pub invariant-loop-key : goal.invariant-loop-key
invariant-loop-key l =
    l.text.items ≡ l.initial.text.items ++ flat_map (λ (k : Key). lines_text l.program
    (property_line l.program l.label k ((state_of l.state).property l.label k)))
    (take l.key-index l.keys)
