use Rattle.std.proofs.Common.{◌≡◌, ◌++◌, take}
use Rattle.std.specs.List.{flat_map}
use Rattle.ja_run.specs.Transcript.{call_text}
use Rattle.ja_run.proofs.transcript.push_calls.Given as goal

-- the calls so far are written
abbrev pub invariant-loop-call : goal.invariant-loop-call
invariant-loop-call l =
    l.text.items ≡ l.initial.text.items ++ flat_map (call_text l.program)
    (take l.call-index l.calls)
