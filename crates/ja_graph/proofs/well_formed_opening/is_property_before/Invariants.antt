use Rattle.std.proofs.Common.{◌≡◌, ◌<◌, ℕ, Some, slice_get}
use Rattle.ja_graph.specs.declared.program.PropertySpec.{PropertySpec}
use Rattle.ja_graph.proofs.well_formed_opening.is_property_before.Given as goal

abbrev pub invariant-loop-j : goal.invariant-loop-j
invariant-loop-j l =
    (n : ℕ) (q : PropertySpec) → n < l.j → slice_get l.properties n ≡ Some q → q.name.0 ≡ l.name.0
    → ⊥
