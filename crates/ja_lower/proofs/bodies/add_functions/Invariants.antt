use Rattle.std.proofs.Common.{◌≡◌, ◌≤◌, ◌+◌, ◌++◌, map, drop}
use Rattle.std.specs.List.{sum_by}
use Rattle.ja_lower.specs.Limits.{size_of_body, max_size}
use Rattle.ja_lower.specs.Lowering as spec
use Rattle.ja_lower.proofs.bodies.add_functions.Given as goal

abbrev pub invariant-loop-function : goal.invariant-loop-function
invariant-loop-function l = record {
  bodies : l.bodies.items ++ map (λ f. spec.function_body l.scene f.now)
      (drop l.function-index l.functions) ≡ l.initial.bodies.items
      ++ map (λ f. spec.function_body l.scene f.now) l.functions;
  room : sum_by (λ f. size_of_body (spec.function_body l.scene f.now)) l.functions + l.left ≡ l.room
      + sum_by (λ f. size_of_body (spec.function_body l.scene f.now))
      (drop l.function-index l.functions);
  few : l.left ≤ max_size;
}
