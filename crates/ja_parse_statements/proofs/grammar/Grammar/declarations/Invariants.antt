use Rattle.std.proofs.Common.{◌≡◌, ◌-◌}
use Rattle.ja_grammar.specs.Input.{separated, strict}
use Rattle.ja_parse_cursor.proofs.Turns.{commas_from}
use Rattle.ja_grammar.specs.ReadStatement.{below}
use Rattle.ja_grammar.specs.ReadStatement as statements
use Rattle.ja_parse_statements.specs.code.Clauses.{variable_value}
use Rattle.ja_parse_statements.proofs.grammar.Grammar.declarations.Given as goal

abbrev pub invariant-loop-turn : goal.invariant-loop-turn
invariant-loop-turn g l =
    separated (statements.variable (strict l.self.depth)
    (variable_value (strict l.self.depth) (below strict l.self.depth) l.in_head)) l.fn.cursor
    ≡ commas_from (statements.variable (strict l.self.depth)
    (variable_value (strict l.self.depth) (below strict l.self.depth) l.in_head))
    (l._turn-end - l._turn) l.found l.cursor
