use Rattle.std.proofs.Common.{ℕ, ◌*◌, ◌+◌}
use Rattle.ja_parse_expressions.specs.declared.grammar.Piece.{Piece}
use Rattle.ja_parse_expressions.specs.declared.grammar.Piece.TheVariants as of
use Rattle.ja_parse_expressions.proofs.reading.+expressions.Given as goal

-- a part of an expression asks for functions at its own level
abbrev pub rank : Piece → ℕ
rank of.Function = 0
rank (of.Part p) = 1

abbrev pub decreases-expression_at : goal.decreases-expression_at
decreases-expression_at g l = 2 * l.depth + rank l.asked
