use Rattle.std.proofs.Common.{◌≡◌}
use Rattle.ja_table.specs.code.Growing.{no_nodes}
use Rattle.ja_table.proofs.table.no_nodes.Given as goal

abbrev pub invariant-loop : goal.invariant-loop
invariant-loop l = l.nodes.items ≡ no_nodes l.counter
