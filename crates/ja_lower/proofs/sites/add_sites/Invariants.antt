use Rattle.std.proofs.Common.{◌≡◌, ◌++◌, drop}
use Rattle.ja_lower.specs.Lowering.{sites_of_nodes}
use Rattle.ja_lower.proofs.sites.add_sites.Given as goal

abbrev pub invariant-loop-info : goal.invariant-loop-info
invariant-loop-info l =
    l.sites.items ++ sites_of_nodes l.function.0 (drop l.info-index l.nodes) ≡ l.initial.sites.items
    ++ sites_of_nodes l.function.0 l.nodes
