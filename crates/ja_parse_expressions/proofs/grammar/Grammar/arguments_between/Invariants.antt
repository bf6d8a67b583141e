use Rattle.std.proofs.Common.{◌≡◌, ◌-◌}
use Rattle.ja_grammar.specs.Input.{separated, strict}
use Rattle.ja_parse_cursor.proofs.Turns.{commas_from}
use Rattle.ja_grammar.specs.ReadStatement.{below}
use Rattle.ja_grammar.specs.declared.part.ExpressionPart.TheVariants as of_expression
use Rattle.std.proofs.Common.{false}
use Rattle.ja_parse_expressions.proofs.grammar.Grammar.arguments_between.Given as goal

abbrev pub invariant-loop-turn : goal.invariant-loop-turn
invariant-loop-turn g l =
    separated ((below strict l.self.depth).expression (of_expression.Assignment false)) l.fn.cursor
    ≡ commas_from ((below strict l.self.depth).expression (of_expression.Assignment false))
    (l._turn-end - l._turn) l.found l.cursor
