-- What ends a list of statements: a block or a body (12.1, 13), or a clause of a `switch` (12.11).
use Rattle.std.specs.Prelude.{Bool}
use Rattle.ja_syntax.specs.declared.symbol.Symbol.{Symbol}
use Rattle.ja_grammar.specs.Forms.{ends_clause}
use Rattle.ja_grammar.specs.ReadExpression.{is_close_brace}
use Rattle.ja_parse_expressions.specs.declared.body.ListEnd.{ListEnd}
use Rattle.ja_parse_expressions.specs.declared.body.ListEnd.TheVariants as end

abbrev pub ends : ListEnd → Symbol → Bool
ends end.Brace = is_close_brace
ends end.Clause = ends_clause
