use Rattle.std.proofs.Common.{◌≡◌, ◌+◌, map, drop}
use Rattle.ja_lower_statements.specs.Statements as spec
use Rattle.ja_lower_statements.specs.code.Statements as code
use Rattle.ja_lower_statements.proofs.clauses.spots_of.Given as goal

abbrev pub invariant-loop-case : goal.invariant-loop-case
invariant-loop-case l =
    l.number + spec.count (map code.clause_of (drop l._case-index l.cases)) ≡ 1
    + spec.count (map code.clause_of l.cases)
