use Rattle.std.proofs.Common.{take}
use Rattle.ja_heap.specs.code.Slots.{HasPlaces}
use Rattle.ja_heap.proofs.properties.filled.Given as goal

abbrev pub invariant-loop-i : goal.invariant-loop-i
invariant-loop-i l = HasPlaces l.table.value (take l.i l.slots)
