use Rattle.std.proofs.Common.{◌≡◌, map, take}
use Rattle.ja_cert_parts.specs.code.Ranks.{property_pair}
use Rattle.ja_cert_read.proofs.starts.pairs_of.Given as goal

abbrev pub invariant-loop-listed : goal.invariant-loop-listed
invariant-loop-listed l = l.pairs.items ≡ map property_pair (take l.listed-index l.heap)
