use Rattle.std.proofs.Common.{◌≡◌, ◌&&◌, not, take}
use Rattle.ja_value.specs.Value.{labels_in}
use Rattle.ja_transfer.proofs.TargetLemmas.{array_in}
use Rattle.ja_transfer.proofs.stepper.Stepper.put_target.Given as goal

abbrev pub invariant-loop-label : goal.invariant-loop-label
invariant-loop-label l =
    labels_in l.target ≡ (λ m. labels_in l.initial.target m
    && not (array_in l.self.reader.program.now (take l.label-index l.label-items) m))
