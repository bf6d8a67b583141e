use Rattle.std.proofs.Common.{◌≡◌, drop}
use Rattle.std.specs.List.{fold, flat_map}
use Rattle.ja_syntax.specs.Hoisted.{variables_of}
use Rattle.ja_syntax.specs.code.Hoisted.{case_variables, with_name}
use Rattle.ja_syntax.proofs.hoisting.+variables.Given as goal

abbrev pub invariant-add_statements-loop-statement : goal.invariant-add_statements-loop-statement
invariant-add_statements-loop-statement l =
    fold with_name l.names (flat_map variables_of (drop l.statement-index l.statements))
    ≡ fold with_name l.initial.names (flat_map variables_of l.statements)

abbrev pub invariant-add_cases-loop-case : goal.invariant-add_cases-loop-case
invariant-add_cases-loop-case l =
    fold with_name l.names (flat_map case_variables (drop l.case-index l.cases))
    ≡ fold with_name l.initial.names (flat_map case_variables l.cases)
