use Rattle.std.proofs.Common.{◌≡◌, drop}
use Rattle.std.specs.List.{list_any}
use Rattle.ja_syntax.specs.Arguments.{in_statement}
use Rattle.ja_syntax.specs.code.Arguments.{in_case}
use Rattle.ja_syntax.proofs.arguments.+statements.Given as goal

abbrev pub invariant-in_statements-loop-statement : goal.invariant-in_statements-loop-statement
invariant-in_statements-loop-statement l =
    list_any in_statement (drop l.statement-index l.statements) ≡ list_any in_statement l.statements

abbrev pub invariant-in_cases-loop-case : goal.invariant-in_cases-loop-case
invariant-in_cases-loop-case l =
    list_any in_case (drop l.case-index l.cases) ≡ list_any in_case l.cases
