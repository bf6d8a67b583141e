-- What a function that reads expressions is asked for, read.
use Rattle.std.specs.Prelude.{false}
use Rattle.ja_syntax.specs.declared.tree.Expression.{Expression}
use Rattle.ja_syntax.specs.declared.tree.Expression.TheVariants as e
use Rattle.ja_grammar.specs.Input.{Rules, Parser, ◌>>=◌, pure}
use Rattle.ja_grammar.specs.ReadExpression.{Below, expression_part, function}
use Rattle.ja_parse_expressions.specs.declared.grammar.Piece.{Piece}
use Rattle.ja_parse_expressions.specs.declared.grammar.Piece.TheVariants as of

abbrev pub piece : Rules → Below → Piece → Parser Expression
piece g b (of.Part p) = expression_part g b p
piece g b of.Function = function g b false >>= (λ f. pure (e.Function f))
