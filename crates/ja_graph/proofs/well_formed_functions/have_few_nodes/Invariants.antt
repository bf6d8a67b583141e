use Rattle.std.proofs.Common.{◌≡◌, ◌+◌, ◌≤◌, drop}
use Rattle.ja_graph.specs.WellFormed.{node_count, max_nodes}
use Rattle.ja_graph.proofs.well_formed_functions.have_few_nodes.Given as goal

abbrev pub invariant-loop-function : goal.invariant-loop-function
invariant-loop-function l = record {
  rest : node_count l.functions + l.left
      ≡ node_count (drop l.function-index l.functions) + max_nodes;
  few : l.left ≤ max_nodes;
}
