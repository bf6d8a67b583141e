use Rattle.std.proofs.Common.{suc, is_none, ◌∙◌}
use Rattle.ja_grammar.specs.Operators.{binary_operator}
use Rattle.ja_grammar.specs.Input.{strict}
use Rattle.ja_grammar.specs.ReadExpression as spec
use Rattle.ja_grammar.specs.ReadStatement.{below}
use Rattle.ja_parse_expressions.proofs.Operators.{ends_at, binary_none, binary_up, binary_error_first, binary_error}
use Rattle.ja_parse_cursor.proofs.Turns.{passed, until_start, until_stop, until_none, until_more, until_error}
use Rattle.ja_parse_expressions.proofs.grammar.Grammar.+levels.Goals as goal

pub binary-returns-in_err-x : goal.binary-returns-in_err-x
binary-returns-in_err-x g t c =
    passed _ _ _ _ c.from_residual.ensures (binary_error_first (strict c.args.self.now.depth)
    (below strict c.args.self.now.depth) c.args.no_in c.args.level _ _ _ c.in_err-x.ensures)

pub binary-loop-lower-init : goal.binary-loop-lower-init
binary-loop-lower-init g t c =
    binary_none (strict c.args.self.now.depth) (below strict c.args.self.now.depth) c.args.no_in
    c.args.cursor.now ∙ c.in_ok-x.ensures

pub binary-returns-in_err-operations : goal.binary-returns-in_err-operations
binary-returns-in_err-operations g t c =
    passed _ _ _ _ c.from_residual-in_err-operations.ensures
    (binary_error (strict c.args.self.now.depth) (below strict c.args.self.now.depth) c.args.no_in
    c.args.level c.loop-lower.lower _ _ _ _ _ c.loop-lower-test.true c.loop-lower.invariant
    c.in_err-operations.ensures)

pub binary-loop-lower-preserved : goal.binary-loop-lower-preserved
binary-loop-lower-preserved g t c =
    binary_up (strict c.args.self.now.depth) (below strict c.args.self.now.depth) c.args.no_in
    c.loop-lower.lower _ _ _ _ _ _ c.loop-lower.invariant c.in_ok-operations.ensures
    (rw c.place-place.ensures at c.in_ok-x-2.ensures)

pub operations-loop-turn-init : goal.operations-loop-turn-init
operations-loop-turn-init g t c =
    rw c.new-found.ensures
    (until_start (λ found. is_none (binary_operator c.args.no_in (suc c.args.level) found))
    (spec.operation (strict c.args.self.now.depth) (below strict c.args.self.now.depth)
    c.args.no_in (suc c.args.level) (spec.binary (strict c.args.self.now.depth)
    (below strict c.args.self.now.depth) c.args.no_in c.args.level)) _ c.args.cursor.now
    c.left-turn-end.ensures)

pub operations-returns-then-is_none : goal.operations-returns-then-is_none
operations-returns-then-is_none g t c =
    until_stop (λ found. is_none (binary_operator c.args.no_in (suc c.args.level) found))
    (spec.operation (strict c.args.self.now.depth) (below strict c.args.self.now.depth)
    c.args.no_in (suc c.args.level) (spec.binary (strict c.args.self.now.depth)
    (below strict c.args.self.now.depth) c.args.no_in c.args.level)) _ _ _ _
    c.loop-turn.invariant
    (ends_at _ _ _ _ _ _ c.symbol.ensures c.binary_operator.ensures c.is_none.ensures
    ∙ c.if-is_none.true)

pub operations-returns-in_err-item : goal.operations-returns-in_err-item
operations-returns-in_err-item g t c =
    passed _ _ _ _ c.from_residual.ensures
    (until_error (λ found. is_none (binary_operator c.args.no_in (suc c.args.level) found))
    (spec.operation (strict c.args.self.now.depth) (below strict c.args.self.now.depth)
    c.args.no_in (suc c.args.level) (spec.binary (strict c.args.self.now.depth)
    (below strict c.args.self.now.depth) c.args.no_in c.args.level)) _ _ _ _ _ _ _
    c.loop-turn.invariant c.loop-turn-test.true
    (ends_at _ _ _ _ _ _ c.symbol.ensures c.binary_operator.ensures c.is_none.ensures
    ∙ c.if-is_none.false) c.in_err-item.ensures)

pub operations-loop-turn-preserved : goal.operations-loop-turn-preserved
operations-loop-turn-preserved g t c =
    rw c.in_ok-push.ensures.ok
    (until_more (λ found. is_none (binary_operator c.args.no_in (suc c.args.level) found))
    (spec.operation (strict c.args.self.now.depth) (below strict c.args.self.now.depth)
    c.args.no_in (suc c.args.level) (spec.binary (strict c.args.self.now.depth)
    (below strict c.args.self.now.depth) c.args.no_in c.args.level)) _ _ _ _ _ _ _
    c.loop-turn.invariant c.loop-turn-test.true
    (ends_at _ _ _ _ _ _ c.symbol.ensures c.binary_operator.ensures c.is_none.ensures
    ∙ c.if-is_none.false) c.in_ok-item.ensures)

pub operations-returns : goal.operations-returns
operations-returns g t c =
    until_none (λ found. is_none (binary_operator c.args.no_in (suc c.args.level) found))
    (spec.operation (strict c.args.self.now.depth) (below strict c.args.self.now.depth)
    c.args.no_in (suc c.args.level) (spec.binary (strict c.args.self.now.depth)
    (below strict c.args.self.now.depth) c.args.no_in c.args.level)) _ _ _ _ _
    c.loop-turn.invariant c.loop-turn-test.false
