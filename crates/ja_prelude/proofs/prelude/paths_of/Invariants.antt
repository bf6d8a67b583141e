use Rattle.std.proofs.Common.{◌≡◌, map, take}
use Rattle.ja_prelude.proofs.prelude.paths_of.Given as goal

abbrev pub invariant-loop-function : goal.invariant-loop-function
invariant-loop-function l = l.paths.items ≡ map (λ f. f.0.now) (take l.function-index l.functions)
