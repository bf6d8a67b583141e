-- What clauses of the code cite beside `Arguments`, and no believed statement.
use Rattle.std.specs.Prelude.{Bool}
use Rattle.ja_syntax.specs.declared.tree.Case.{Case}
use Rattle.ja_syntax.specs.declared.tree.Expression.{Expression}
use Rattle.ja_syntax.specs.declared.tree.Expression.TheFolds.{fold-Expression, fold-Case}
use Rattle.ja_syntax.specs.Arguments.{expression_step, statement_step, case_step}

-- an expression looks the name `arguments` up
abbrev pub in_expression : Expression → Bool
in_expression = fold-Expression Bool Bool Bool expression_step statement_step case_step

-- a clause of a `switch` does
abbrev pub in_case : Case → Bool
in_case = fold-Case Bool Bool Bool expression_step statement_step case_step
