use Rattle.std.proofs.Common.{◌↔◌, ℕ, drop, length}
use Rattle.ja_graph.specs.code.Parts.{AreNumbered}
use Rattle.ja_graph.specs.WellFormed.{makings_from}
use Rattle.ja_graph.proofs.well_formed_sites.after_functions.Given as goal

abbrev pub invariant-loop-f : goal.invariant-loop-f
invariant-loop-f l =
    (last : ℕ) → AreNumbered l.program l.next last (makings_from l.f (drop l.f l.program.functions))
    ↔ AreNumbered l.program (length l.program.opening) last (makings_from 0 l.program.functions)
