use Rattle.std.proofs.Common.{◌≡◌, ◌++◌, drop}
use Rattle.std.specs.List.{flat_map}
use Rattle.ja_prelude.specs.Reading as spec
use Rattle.ja_prelude.proofs.reading.trees_of.Given as goal

abbrev pub invariant-loop-function : goal.invariant-loop-function
invariant-loop-function l =
    l.statements ++ flat_map (λ f. spec.tree_of f.1.now) (drop l.function-index l.functions)
    ≡ flat_map (λ f. spec.tree_of f.1.now) l.functions
