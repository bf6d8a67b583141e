use Rattle.std.proofs.Common.{◌≡◌, ◌<◌, ℕ, Some, slice_get}
use Rattle.ja_graph.specs.declared.program.Class.{Class}
use Rattle.ja_graph.specs.WellFormed.{IsBuiltin}
use Rattle.ja_graph.proofs.well_formed_sites.have_classes.Given as goal

abbrev pub invariant-loop-site : goal.invariant-loop-site
invariant-loop-site l =
    (s : ℕ) (c : Class) → s < l.site → slice_get l.classes s ≡ Some c → IsBuiltin l.program s c
