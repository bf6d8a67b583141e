use Rattle.std.proofs.Common.{◌≡◌, map, drop}
use Rattle.ja_lower_statements.specs.Statements as spec
use Rattle.ja_lower_statements.specs.code.Statements as code
use Rattle.ja_lower_statements.proofs.statement_parts.declare_all.Given as goal

abbrev pub invariant-loop-declaration : goal.invariant-loop-declaration
invariant-loop-declaration l =
    spec.declare_all (map code.declaration_of (drop l.declaration-index l.declarations)) l.scene
    l.base l.draft
    ≡ spec.declare_all (map code.declaration_of l.declarations) l.scene l.base l.initial.draft
