use Rattle.std.proofs.Common.{◌≡◌, map, drop}
use Rattle.ja_lower_statements.specs.Statements as spec
use Rattle.ja_lower_statements.specs.code.Statements as code
use Rattle.ja_lower_statements.proofs.clauses.tests.Given as goal

abbrev pub invariant-loop-case : goal.invariant-loop-case
invariant-loop-case l =
    spec.list_tests (map code.clause_of (drop l.case-index l.cases)) l.scene l.place l.switched
    l.number l.draft
    ≡ spec.list_tests (map code.clause_of l.cases) l.scene l.place l.switched l.first
    l.initial.draft
