-- Each of the edges so far comes before the next.
use Rattle.ja_table.specs.Order.{edge_of}
use Rattle.ja_table.proofs.OrderedParts.{AreAdjacent}
use Rattle.ja_table.proofs.Places.{edges_order}
use Rattle.std.proofs.Common.{◌<◌}
use Rattle.ja_table.proofs.parts.are_edges_ordered.Given as goal

abbrev pub invariant-loop-place : goal.invariant-loop-place
invariant-loop-place l = record {
  some : 0 < l.place;
  before : AreAdjacent edge_of edges_order l.edges l.place;
}
