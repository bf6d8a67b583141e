use Rattle.std.proofs.Common.{◌≡◌, ◌++◌, map}
use Rattle.ja_lower_listing.specs.Listing.{info_of, assembled}
use Rattle.ja_lower_listing.proofs.edges.assembled.Given as goal

abbrev pub invariant-loop-node : goal.invariant-loop-node
invariant-loop-node l =
    l.nodes.items ++ map (info_of l.escape) l.node-iterator.rest.items ≡ assembled l.fn.items.items
