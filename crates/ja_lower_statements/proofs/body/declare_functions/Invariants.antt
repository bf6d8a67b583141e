use Rattle.std.proofs.Common.{◌≡◌, drop}
use Rattle.ja_lower_statements.specs.Functions as spec
use Rattle.ja_lower_statements.proofs.body.declare_functions.Given as goal

abbrev pub invariant-loop-statement : goal.invariant-loop-statement
invariant-loop-statement l =
    spec.declare_functions l.scene (drop l.statement-index l.statements) l.base l.draft
    ≡ spec.declare_functions l.scene l.statements l.base l.initial.draft
