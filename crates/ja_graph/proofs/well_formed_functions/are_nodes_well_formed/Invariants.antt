use Rattle.std.proofs.Common.{◌≡◌, ◌<◌, ℕ, Some, slice_get}
use Rattle.ja_graph.specs.declared.node.NodeInfo.{NodeInfo}
use Rattle.ja_graph.specs.WellFormed.{IsNodeWellFormed}
use Rattle.ja_graph.proofs.well_formed_functions.are_nodes_well_formed.Given as goal

abbrev pub invariant-loop-info : goal.invariant-loop-info
invariant-loop-info l =
    (n : ℕ) (info : NodeInfo) → n < l.info-index → slice_get l.function.nodes n ≡ Some info
    → IsNodeWellFormed l.program l.function info
