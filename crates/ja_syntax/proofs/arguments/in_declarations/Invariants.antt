use Rattle.std.proofs.Common.{◌≡◌, drop}
use Rattle.std.specs.List.{list_any}
use Rattle.ja_syntax.specs.code.Mentions.{declaration_mentions}
use Rattle.ja_syntax.proofs.arguments.in_declarations.Given as goal

abbrev pub invariant-loop-declaration : goal.invariant-loop-declaration
invariant-loop-declaration l =
    list_any declaration_mentions (drop l.declaration-index l.declarations)
    ≡ list_any declaration_mentions l.declarations
