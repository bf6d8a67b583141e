use Rattle.std.proofs.Common.{◌≡◌, ◌<◌, ℕ, Some, slice_get}
use Rattle.ja_graph.specs.declared.program.ObjectSpec.{ObjectSpec}
use Rattle.ja_graph.proofs.well_formed_opening.stands_before.Given as goal

abbrev pub invariant-loop-j : goal.invariant-loop-j
invariant-loop-j l =
    (n : ℕ) (q : ObjectSpec) → n < l.j → slice_get l.program.opening n ≡ Some q
    → q.site.0 ≡ l.site.0 → ⊥
