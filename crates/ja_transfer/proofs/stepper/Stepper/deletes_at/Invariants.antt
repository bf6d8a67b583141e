use Rattle.std.proofs.Common.{◌≡◌, take}
use Rattle.ja_transfer.specs.Outcomes.{at_view}
use Rattle.ja_transfer.specs.code.Deletes.{deleting_of, deleting}
use Rattle.ja_transfer.proofs.stepper.Stepper.deletes_at.Given as goal

abbrev pub invariant-loop-key : goal.invariant-loop-key
invariant-loop-key l =
    deleting_of l.deletes ≡ deleting (at_view l.self) l.label (take l.key-index l.keys)
