use Rattle.std.proofs.Common.{◌≡◌, ◌<◌, ℕ, Some, slice_get}
use Rattle.ja_graph.specs.declared.program.ObjectSpec.{ObjectSpec}
use Rattle.ja_graph.specs.WellFormed.{IsObjectWellFormed}
use Rattle.ja_graph.proofs.well_formed_opening.are_objects_well_formed.Given as goal

abbrev pub invariant-loop-i : goal.invariant-loop-i
invariant-loop-i l =
    (n : ℕ) (o : ObjectSpec) → n < l.i → slice_get l.program.opening n ≡ Some o
    → IsObjectWellFormed l.program n o
