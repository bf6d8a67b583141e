use Rattle.std.proofs.Common.{◌≡◌, ◌+◌, ◌-◌, ◌*◌, suc, is_none}
use Rattle.ja_grammar.specs.Input.{Done, until, strict}
use Rattle.ja_grammar.specs.Operators.{binary_operator}
use Rattle.ja_grammar.specs.ReadExpression as spec
use Rattle.ja_grammar.specs.ReadStatement.{below}
use Rattle.ja_parse_cursor.proofs.Turns.{until_from}
use Rattle.ja_parse_expressions.proofs.grammar.Grammar.+levels.Given as goal

abbrev pub decreases-binary : goal.decreases-binary
decreases-binary g l = 3 * l.level

abbrev pub decreases-operation : goal.decreases-operation
decreases-operation g l = 3 * l.level + 1

abbrev pub decreases-operations : goal.decreases-operations
decreases-operations g l = 3 * l.level + 2

abbrev pub invariant-operations-loop-turn : goal.invariant-operations-loop-turn
invariant-operations-loop-turn g l =
    until (λ found. is_none (binary_operator l.no_in (suc l.level) found))
    (spec.operation (strict l.self.depth) (below strict l.self.depth) l.no_in (suc l.level)
    (spec.binary (strict l.self.depth) (below strict l.self.depth) l.no_in l.level)) l.fn.cursor
    ≡ until_from (λ found. is_none (binary_operator l.no_in (suc l.level) found))
    (spec.operation (strict l.self.depth) (below strict l.self.depth) l.no_in (suc l.level)
    (spec.binary (strict l.self.depth) (below strict l.self.depth) l.no_in l.level))
    (l._turn-end - l._turn) l.found l.cursor

abbrev pub invariant-binary-loop-lower : goal.invariant-binary-loop-lower
invariant-binary-loop-lower g l =
    spec.binary (strict l.self.depth) (below strict l.self.depth) l.no_in l.lower l.fn.cursor
    ≡ Done l.x l.cursor
