use Rattle.std.proofs.Common.{◌≡◌, ◌<◌, ℕ, Some, slice_get}
use Rattle.ja_graph.proofs.well_formed_names.is_among.Given as goal

abbrev pub invariant-loop-j : goal.invariant-loop-j
invariant-loop-j l = (n : ℕ) → n < l.j → slice_get l.names n ≡ Some l.units → ⊥
