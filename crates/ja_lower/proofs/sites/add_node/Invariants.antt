use Rattle.std.proofs.Common.{◌≡◌, ◌++◌, map, drop}
use Rattle.ja_lower.specs.Lowering.{site_of}
use Rattle.ja_lower.proofs.sites.add_node.Given as goal

abbrev pub invariant-loop-making : goal.invariant-loop-making
invariant-loop-making l =
    l.sites.items ++ map (site_of l.function.0 l.info) (drop l.making-index l.making-items)
    ≡ l.initial.sites.items ++ map (site_of l.function.0 l.info) l.making-items
