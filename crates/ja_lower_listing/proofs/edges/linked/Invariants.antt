use Rattle.std.proofs.Common.{◌≡◌, ◌++◌}
use Rattle.std.specs.Vec.Iter.{into_iter_items}
use Rattle.ja_lower_listing.specs.Listing.{nodes_from}
use Rattle.ja_lower_listing.specs.code.Passes.{AreEdges, IsEnd, ways_on}
use Rattle.ja_lower_listing.proofs.edges.linked.Given as goal

abbrev pub invariant-loop-item : goal.invariant-loop-item
invariant-loop-item l = record {
  edges : AreEdges l.edges l.fn.items.items;
  end : IsEnd l.fn.items.items (into_iter_items l.item-iterator);
  nodes : l.nodes.items ++ nodes_from l.fn.items.items (into_iter_items l.item-iterator)
      ≡ nodes_from l.fn.items.items l.fn.items.items;
  ways : l.ways.items ≡ ways_on l.fn.items.items (into_iter_items l.item-iterator);
}
