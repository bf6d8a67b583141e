use Rattle.std.proofs.Common.{◌≡◌, ◌-◌}
use Rattle.ja_grammar.specs.Input.{until, strict}
use Rattle.ja_parse_cursor.proofs.Turns.{until_from}
use Rattle.ja_grammar.specs.ReadExpression as spec
use Rattle.ja_grammar.specs.ReadStatement.{below}
use Rattle.ja_parse_expressions.proofs.grammar.Grammar.elements.Given as goal

abbrev pub invariant-loop-turn : goal.invariant-loop-turn
invariant-loop-turn g l =
    until spec.is_close_bracket (spec.element (strict l.self.depth) (below strict l.self.depth))
    l.fn.cursor ≡ until_from spec.is_close_bracket
    (spec.element (strict l.self.depth) (below strict l.self.depth)) (l._turn-end - l._turn) l.found
    l.cursor
