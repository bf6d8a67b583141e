use Rattle.std.proofs.Common.{◌≡◌, ◌+◌, drop}
use Rattle.ja_lower_listing.specs.Listing.{node_count}
use Rattle.ja_lower_listing.proofs.facts.node_count.Given as goal

abbrev pub invariant-loop-item : goal.invariant-loop-item
invariant-loop-item l = l.count + node_count (drop l.item-index l.items) ≡ node_count l.items
