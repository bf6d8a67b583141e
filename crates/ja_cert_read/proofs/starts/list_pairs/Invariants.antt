use Rattle.std.proofs.Common.{take}
use Rattle.std.specs.Prelude.{IsTrue}
use Rattle.std.specs.List.{AllByRecursion}
use Rattle.ja_cert_parts.specs.declared.listed.Pair.{Pair}
use Rattle.ja_cert_read.specs.code.Building.{lists_pair}
use Rattle.ja_cert_read.proofs.starts.list_pairs.Given as goal

abbrev pub invariant-loop-pair : goal.invariant-loop-pair
invariant-loop-pair l =
    AllByRecursion (λ (pair : Pair). IsTrue (lists_pair l.heap pair)) (take l.pair-index l.pairs)
