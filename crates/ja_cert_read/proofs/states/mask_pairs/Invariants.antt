use Rattle.std.proofs.Common.{◌≡◌, map, take}
use Rattle.ja_cert_read.specs.code.Building.{mask_pair}
use Rattle.ja_cert_read.proofs.states.mask_pairs.Given as goal

abbrev pub invariant-loop-listed : goal.invariant-loop-listed
invariant-loop-listed l = l.pairs.items ≡ map mask_pair (take l.listed-index l.masks)
