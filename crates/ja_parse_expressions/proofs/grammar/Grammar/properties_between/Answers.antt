use Rattle.ja_parse_cursor.proofs.Turns.{passed, commas_start, commas_error_first, commas_stop, commas_none, commas_more, commas_error}
use Rattle.ja_grammar.specs.Input.{strict}
use Rattle.ja_grammar.specs.ReadExpression as spec
use Rattle.ja_grammar.specs.ReadStatement.{below}
use Rattle.ja_parse_expressions.proofs.grammar.Grammar.properties_between.Goals as goal

pub returns-in_err-first : goal.returns-in_err-first
returns-in_err-first g c =
    passed _ _ _ _ c.from_residual.ensures (commas_error_first
    (spec.property (strict c.args.self.now.depth) (below strict c.args.self.now.depth)) _ _ _
    c.in_err-first.ensures)

pub loop-turn-init : goal.loop-turn-init
loop-turn-init g c =
    rw (c.in_ok-push.ensures.ok, c.new-found.ensures)
    (commas_start (spec.property (strict c.args.self.now.depth)
    (below strict c.args.self.now.depth)) _ _ _ _ c.in_ok-first.ensures c.left-turn-end.ensures)

pub returns-then-not-sees : goal.returns-then-not-sees
returns-then-not-sees g c =
    commas_stop (spec.property (strict c.args.self.now.depth) (below strict c.args.self.now.depth))
    _ _ _ _ c.loop-turn.invariant (cc (c.sees.ensures, c.if-not-sees.true))

pub returns-in_err-item : goal.returns-in_err-item
returns-in_err-item g c =
    passed _ _ _ _ c.from_residual-in_err-item.ensures
    (commas_error (spec.property (strict c.args.self.now.depth)
    (below strict c.args.self.now.depth)) _ _ _ _ _ c.take.new.self _ _ c.loop-turn.invariant
    c.loop-turn-test.true (cc (c.sees.ensures, c.if-not-sees.false)) c.take.ensures
    c.in_err-item.ensures)

pub loop-turn-preserved : goal.loop-turn-preserved
loop-turn-preserved g c =
    rw c.in_ok-push-2.ensures.ok
    (commas_more (spec.property (strict c.args.self.now.depth) (below strict c.args.self.now.depth))
    _ _ _ _ _ c.take.new.self _ _ c.loop-turn.invariant c.loop-turn-test.true
    (cc (c.sees.ensures, c.if-not-sees.false)) c.take.ensures c.in_ok-item.ensures)

pub returns : goal.returns
returns g c =
    commas_none (spec.property (strict c.args.self.now.depth) (below strict c.args.self.now.depth))
    _ _ _ _ _ c.loop-turn.invariant c.loop-turn-test.false
