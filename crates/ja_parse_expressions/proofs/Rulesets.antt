-- The lemmas that the searches of a function are given, by its name.
use Rattle.ja_parse_expressions.proofs.Levels.{statement_below, no_statement_below, expression_below, no_expression_below}

pub ruleset for_statement_below = (statement_below, no_statement_below)

pub ruleset for_expression_below = (expression_below, no_expression_below)
