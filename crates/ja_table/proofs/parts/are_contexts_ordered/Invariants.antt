-- Each of the contexts so far comes before the next.
use Rattle.ja_table.specs.Order.{context_of}
use Rattle.ja_table.proofs.OrderedParts.{AreAdjacent}
use Rattle.ja_table.proofs.Places.{contexts_order}
use Rattle.std.proofs.Common.{◌<◌}
use Rattle.ja_table.proofs.parts.are_contexts_ordered.Given as goal

abbrev pub invariant-loop-place : goal.invariant-loop-place
invariant-loop-place l = record {
  some : 0 < l.place;
  before : AreAdjacent context_of contexts_order l.contexts l.place;
}
