-- no word so far is the word
use Rattle.std.proofs.Common.{◌≡◌, false, map, take}
use Rattle.ja_lint_devices.specs.Devices as spec
use Rattle.ja_lint_devices.proofs.kinds.is_among.Given as goal

abbrev pub invariant-loop-other : goal.invariant-loop-other
invariant-loop-other l =
    spec.is_among (take l.other-index (map (λ w. w.now) l.words)) l.word ≡ false
