use Rattle.std.proofs.Common.{◌≡◌, map, take}
use Rattle.ja_machine.specs.TextOperations as spec
use Rattle.ja_operations.proofs.letters.upper_units.Given as goal

abbrev pub invariant-loop-unit : goal.invariant-loop-unit
invariant-loop-unit l = l.list.items ≡ map spec.great (take l.unit-index l.units)
