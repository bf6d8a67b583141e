use Rattle.std.proofs.Common.{◌≡◌, map, drop}
use Rattle.ja_lower_statements.specs.Statements as spec
use Rattle.ja_lower_statements.specs.code.Statements as code
use Rattle.ja_lower_statements.proofs.clauses.default_spot.Given as goal

abbrev pub invariant-loop-case : goal.invariant-loop-case
invariant-loop-case l =
    spec.default_spot (map code.clause_of (drop l.case-index l.cases)) l.number l.end
    ≡ spec.default_spot (map code.clause_of l.cases) l.first l.end
