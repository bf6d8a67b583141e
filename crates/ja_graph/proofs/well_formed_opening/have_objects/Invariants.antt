use Rattle.std.proofs.Common.{◌<◌, ℕ, IsSome}
use Rattle.ja_graph.specs.Program.{object_spec}
use Rattle.ja_graph.proofs.well_formed_opening.have_objects.Given as goal

abbrev pub invariant-loop-site : goal.invariant-loop-site
invariant-loop-site l = (s : ℕ) → s < l.site → IsSome (object_spec l.program s)
