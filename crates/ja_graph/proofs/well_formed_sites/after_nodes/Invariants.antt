use Rattle.std.proofs.Common.{◌↔◌, ℕ, drop}
use Rattle.ja_graph.specs.code.Parts.{AreNumbered}
use Rattle.ja_graph.specs.WellFormed.{makings_of}
use Rattle.ja_graph.proofs.well_formed_sites.after_nodes.Given as goal

abbrev pub invariant-loop-info : goal.invariant-loop-info
invariant-loop-info l =
    (last : ℕ) → AreNumbered l.program l.next last (makings_of l.owner (drop l.info-index l.nodes))
    ↔ AreNumbered l.program l.number last (makings_of l.owner l.nodes)
