use Rattle.std.proofs.Common.{◌≡◌, take}
use Rattle.ja_syntax.specs.code.Hoisted as spec
use Rattle.ja_syntax.proofs.hoisting.parameter_names.Given as goal

abbrev pub invariant-loop-parameter : goal.invariant-loop-parameter
invariant-loop-parameter l =
    l.names.items ≡ spec.parameter_names (take l.parameter-index l.parameters)
