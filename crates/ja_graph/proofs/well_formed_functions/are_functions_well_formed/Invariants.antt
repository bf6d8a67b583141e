use Rattle.std.proofs.Common.{◌≡◌, ◌<◌, ℕ, Some, slice_get}
use Rattle.ja_graph.specs.declared.program.Function.{Function}
use Rattle.ja_graph.specs.WellFormed.{IsFunctionWellFormed}
use Rattle.ja_graph.proofs.well_formed_functions.are_functions_well_formed.Given as goal

abbrev pub invariant-loop-function : goal.invariant-loop-function
invariant-loop-function l =
    (f : ℕ) (fn : Function) → f < l.function-index → slice_get l.program.functions f ≡ Some fn
    → IsFunctionWellFormed l.program fn
