use Rattle.std.proofs.Common.{◌<◌, ℕ}
use Rattle.ja_graph.specs.code.Parts.{IsUnowned}
use Rattle.ja_graph.proofs.well_formed_sites.are_unowned.Given as goal

abbrev pub invariant-loop-site : goal.invariant-loop-site
invariant-loop-site l = (s : ℕ) → s < l.site → IsUnowned l.program s
