use Rattle.std.proofs.Common.{arith}
use Rattle.ja_trie.proofs.Sharing.{long_power}
use Rattle.ja_trie.proofs.laws.nodes_by_length.Goals as goal

pub returns-clause-of_8 : goal.returns-clause-of_8
returns-clause-of_8 g from to h = omega (arith, h 0 (omega arith))

pub returns-clause-of_9 : goal.returns-clause-of_9
returns-clause-of_9 g from to h = omega (arith, h 1 (omega arith))

pub returns-clause-of_512 : goal.returns-clause-of_512
returns-clause-of_512 g from to h = omega (arith, h 2 (omega arith))

pub returns-clause-of_513 : goal.returns-clause-of_513
returns-clause-of_513 g from to h = omega (arith, h 3 (omega arith))

pub returns-clause-of_none : goal.returns-clause-of_none
returns-clause-of_none g long from to h = omega (arith, h long (long_power long))
