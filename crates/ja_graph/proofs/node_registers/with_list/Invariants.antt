use Rattle.std.proofs.Common.{◌≡◌, drop}
use Rattle.ja_graph.specs.Node.{registers_with}
use Rattle.ja_graph.proofs.node_registers.with_list.Given as goal

abbrev pub invariant-loop-register : goal.invariant-loop-register
invariant-loop-register l =
    registers_with l.count (drop l.register-index l.registers) ≡ registers_with l.first l.registers
