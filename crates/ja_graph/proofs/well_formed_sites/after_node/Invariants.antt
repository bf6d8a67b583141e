use Rattle.std.proofs.Common.{◌↔◌, ℕ, drop, map}
use Rattle.ja_graph.specs.code.Parts.{AreNumbered}
use Rattle.ja_graph.specs.WellFormed.{owned}
use Rattle.ja_graph.proofs.well_formed_sites.after_node.Given as goal

abbrev pub invariant-loop-making : goal.invariant-loop-making
invariant-loop-making l =
    (last : ℕ) → AreNumbered l.program l.next last
    (map (owned l.owner) (drop l.making-index l.making-items))
    ↔ AreNumbered l.program l.number last (map (owned l.owner) l.making-items)
