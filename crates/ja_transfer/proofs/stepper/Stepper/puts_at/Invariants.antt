use Rattle.std.proofs.Common.{◌≡◌, take}
use Rattle.ja_value.specs.Value.{value_of}
use Rattle.ja_transfer.specs.Outcomes.{at_view}
use Rattle.ja_transfer.specs.code.Puts.{putting_of, putting}
use Rattle.ja_transfer.proofs.stepper.Stepper.puts_at.Given as goal

abbrev pub invariant-loop-key : goal.invariant-loop-key
invariant-loop-key l =
    putting_of l.puts
    ≡ putting (at_view l.self) l.label (take l.key-index l.keys) (value_of l.value)
