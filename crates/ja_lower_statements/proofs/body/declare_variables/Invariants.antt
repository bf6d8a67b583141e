use Rattle.std.proofs.Common.{◌≡◌, drop}
use Rattle.ja_lower_statements.specs.Functions as spec
use Rattle.ja_lower_statements.proofs.body.declare_variables.Given as goal

abbrev pub invariant-loop-variable : goal.invariant-loop-variable
invariant-loop-variable l =
    spec.declare_variables l.scene l.place (drop l.variable-index l.variables) l.draft
    ≡ spec.declare_variables l.scene l.place l.variables l.initial.draft
