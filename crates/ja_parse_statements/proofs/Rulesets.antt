-- The lemmas that the searches of a function are given, by its name.
use Rattle.ja_parse_expressions.proofs.Levels.{expression_below, no_expression_below}
use Rattle.ja_parse_statements.proofs.Variables.{variable_in, variables_many, variables_other}

pub ruleset for_expression_below = (expression_below, no_expression_below)

pub ruleset for_for_variables_behind = (variable_in, variables_many, variables_other)
