-- the words so far are those of kinds
use Rattle.std.proofs.Common.{◌≡◌, true, map, take}
use Rattle.ja_lint_devices.specs.Devices.{are_kinds}
use Rattle.ja_lint_devices.proofs.kinds.first_fault.Given as goal

abbrev pub invariant-loop-index : goal.invariant-loop-index
invariant-loop-index l = are_kinds (take l.index (map (λ w. w.now) l.words)) ≡ true
