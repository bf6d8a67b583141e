-- the values so far are copied
use Rattle.std.proofs.Common.{◌≡◌, take}
use Rattle.ja_device.proofs.copies.copies.Given as goal

abbrev pub invariant-loop-value : goal.invariant-loop-value
invariant-loop-value l = l.list.items ≡ take l.value-index l.values
