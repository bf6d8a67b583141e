use Rattle.std.proofs.Common.{◌≡◌, ◌≤◌, ◌*◌, take}
use Rattle.std.specs.List.{sum_by}
use Rattle.ja_graph.specs.declared.program.Function.{Function}
use Rattle.ja_height.specs.Height as spec
use Rattle.ja_height.specs.code.Limits.{most_of_function}
use Rattle.ja_height.proofs.bound.height.Given as goal

abbrev pub invariant-loop-function : goal.invariant-loop-function
invariant-loop-function l =
    (l.contexts ≡ sum_by (λ (fn : Function). spec.label_count l.program
    * spec.context_height l.program fn) (take l.function-index l.program.functions))
    × (l.entering ≡ sum_by spec.entering_count (take l.function-index l.program.functions))
    × (l.contexts ≤ l.function-index * most_of_function)
    × (l.entering ≤ l.function-index * 131072)
