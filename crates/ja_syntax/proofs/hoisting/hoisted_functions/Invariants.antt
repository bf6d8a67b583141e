use Rattle.std.proofs.Common.{◌≡◌, ◌++◌, drop}
use Rattle.ja_syntax.specs.code.Hoisted.{functions_from}
use Rattle.ja_syntax.proofs.hoisting.hoisted_functions.Given as goal

abbrev pub invariant-loop-index : goal.invariant-loop-index
invariant-loop-index l =
    l.functions.items ++ functions_from l.index (drop l.index l.statements)
    ≡ functions_from 0 l.statements
