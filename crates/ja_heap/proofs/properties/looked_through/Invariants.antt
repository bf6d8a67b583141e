use Rattle.std.proofs.Common.{◌≡◌, None, take}
use Rattle.ja_heap.specs.code.Slots.{slot_of}
use Rattle.ja_heap.proofs.properties.looked_through.Given as goal

abbrev pub invariant-loop-i : goal.invariant-loop-i
invariant-loop-i l = slot_of l.name (take l.i l.slots) ≡ None
