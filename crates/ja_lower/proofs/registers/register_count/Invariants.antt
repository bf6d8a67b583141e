use Rattle.std.proofs.Common.{◌≡◌, drop}
use Rattle.std.specs.List.{flat_map}
use Rattle.ja_graph.specs.Node.{registers_in, registers_with}
use Rattle.ja_lower.specs.Lowering.{registers_of}
use Rattle.ja_lower.proofs.registers.register_count.Given as goal

abbrev pub invariant-loop-info : goal.invariant-loop-info
invariant-loop-info l =
    registers_with l.count (flat_map (λ info. registers_in info.node) (drop l.info-index l.nodes))
    ≡ registers_of l.parameters l.nodes
