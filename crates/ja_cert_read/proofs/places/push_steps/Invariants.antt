use Rattle.std.proofs.Common.{◌≡◌, ◌++◌, take}
use Rattle.std.specs.List.{flat_map}
use Rattle.ja_cert_read.specs.code.Whole.{stopped}
use Rattle.ja_cert_read.proofs.places.push_steps.Given as goal

abbrev pub invariant-loop-step : goal.invariant-loop-step
invariant-loop-step l =
    l.text.items ≡ l.initial.text.items ++ flat_map stopped (take l.step-index l.steps)
