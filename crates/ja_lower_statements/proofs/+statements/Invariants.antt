use Rattle.std.proofs.Common.{◌≡◌, map, drop}
use Rattle.ja_lower_statements.specs.code.Standing.{around_of}
use Rattle.ja_lower_statements.specs.Statements as spec
use Rattle.ja_lower_statements.specs.code.Statements as code
use Rattle.ja_lower_statements.proofs.+statements.Given as goal

abbrev pub invariant-statement_list::statements-loop-next :
    goal.invariant-statement_list::statements-loop-next
invariant-statement_list::statements-loop-next l =
    spec.list_all_statements (map spec.does (drop l.next-index l.statements)) (around_of l.around)
    l.base l.draft
    ≡ spec.list_all_statements (map spec.does l.statements) (around_of l.around) l.base
    l.initial.draft

abbrev pub invariant-choices::bodies-loop-case : goal.invariant-choices::bodies-loop-case
invariant-choices::bodies-loop-case l =
    spec.list_bodies (map code.clause_of (drop l.case-index l.cases)) (around_of l.around) l.base
    l.number l.draft
    ≡ spec.list_bodies (map code.clause_of l.cases) (around_of l.around) l.base l.first
    l.initial.draft
