use Rattle.std.proofs.Common.{◌≡◌, drop}
use Rattle.std.specs.List.{fold}
use Rattle.ja_syntax.specs.Hoisted.{declared_names}
use Rattle.ja_syntax.specs.code.Hoisted.{with_name}
use Rattle.ja_syntax.proofs.hoisting.add_declared.Given as goal

abbrev pub invariant-loop-declaration : goal.invariant-loop-declaration
invariant-loop-declaration l =
    fold with_name l.names (declared_names (drop l.declaration-index l.declarations))
    ≡ fold with_name l.initial.names (declared_names l.declarations)
