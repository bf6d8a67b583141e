use Rattle.std.proofs.Common.{◌≡◌, ◌++◌, List, map}
use Rattle.ja_lower_listing.specs.declared.item.Item.{Item}
use Rattle.ja_lower_listing.specs.Listing.{led, jump_of, with_edges}
use Rattle.ja_lower_listing.specs.code.Passes.{AreEdges}
use Rattle.ja_lower_listing.proofs.edges.Edges.copy.Given as goal

abbrev pub invariant-loop-node : goal.invariant-loop-node
invariant-loop-node l =
    (whole : List Item) → AreEdges l.self whole
    → l.nodes.items ++ map (with_edges (led l.first (jump_of whole) l.next))
    l.node-iterator.rest.items ≡ l.initial.nodes.items
    ++ map (with_edges (led l.first (jump_of whole) l.next)) l.fn.block.items
