-- What clauses of the code cite beside `TextOrder`, and no believed statement.
use Rattle.ja_syntax.specs.declared.tree.Case.{Case}
use Rattle.ja_syntax.specs.declared.tree.Expression.{Expression}
use Rattle.ja_syntax.specs.declared.tree.Expression.TheFolds.{para-Expression, para-Case}
use Rattle.ja_lower_names.specs.TextOrder.{Parts, expression_step, statement_step, case_step}

-- the parts of an expression, of a statement, and of a clause of a `switch`
unfoldable pub in_expression : Expression → Parts
in_expression = para-Expression Parts Parts Parts expression_step statement_step case_step

unfoldable pub in_case : Case → Parts
in_case = para-Case Parts Parts Parts expression_step statement_step case_step
