use Rattle.std.proofs.Common.{◌≡◌, ◌-◌}
use Rattle.ja_grammar.specs.Input.{separated, strict}
use Rattle.ja_parse_cursor.proofs.Turns.{commas_from}
use Rattle.ja_grammar.specs.ReadExpression as spec
use Rattle.ja_grammar.specs.ReadStatement.{below}
use Rattle.ja_parse_expressions.proofs.grammar.Grammar.assignments.Given as goal

abbrev pub invariant-loop-turn : goal.invariant-loop-turn
invariant-loop-turn g l =
    separated (spec.assignment (strict l.self.depth) (below strict l.self.depth) l.no_in)
    l.fn.cursor ≡ commas_from (spec.assignment (strict l.self.depth) (below strict l.self.depth)
    l.no_in) (l._turn-end - l._turn) l.found l.cursor
