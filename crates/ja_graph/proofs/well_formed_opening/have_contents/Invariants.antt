use Rattle.std.proofs.Common.{◌≡◌, ◌<◌, ℕ, Some, slice_get}
use Rattle.ja_graph.specs.declared.program.PropertySpec.{PropertySpec}
use Rattle.ja_graph.specs.WellFormed.{IsContent}
use Rattle.ja_graph.proofs.well_formed_opening.have_contents.Given as goal

abbrev pub invariant-loop-property : goal.invariant-loop-property
invariant-loop-property l =
    (j : ℕ) (q : PropertySpec) → j < l.property-index → slice_get l.properties j ≡ Some q
    → IsContent l.program q.content
