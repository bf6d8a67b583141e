use Rattle.ja_parse_cursor.proofs.Turns.{passed, commas_start, commas_error_first, commas_stop, commas_none, commas_more, commas_error}
use Rattle.ja_grammar.specs.Input.{strict}
use Rattle.ja_grammar.specs.ReadExpression as spec
use Rattle.ja_parse_cursor.proofs.name.names.Goals as goal

pub returns-in_err-first : goal.returns-in_err-first
returns-in_err-first c depth =
    passed _ _ _ _ c.from_residual.ensures (commas_error_first (spec.declared (strict depth)) _ _ _
    (c.in_err-first.ensures depth))

pub loop-turn-init : goal.loop-turn-init
loop-turn-init c depth =
    rw (c.in_ok-push.ensures.ok, c.new-found.ensures)
    (commas_start (spec.declared (strict depth)) _ _ _ _ (c.in_ok-first.ensures depth)
    c.left-turn-end.ensures)

pub returns-then-not-sees : goal.returns-then-not-sees
returns-then-not-sees c depth =
    commas_stop (spec.declared (strict depth)) _ _ _ _ (c.loop-turn.invariant depth)
    (cc (c.sees.ensures, c.if-not-sees.true))

pub returns-in_err-item : goal.returns-in_err-item
returns-in_err-item c depth =
    passed _ _ _ _ c.from_residual-in_err-item.ensures
    (commas_error (spec.declared (strict depth)) _ _ _ _ _ c.take.new.self _ _
    (c.loop-turn.invariant depth) c.loop-turn-test.true
    (cc (c.sees.ensures, c.if-not-sees.false)) c.take.ensures (c.in_err-item.ensures depth))

pub loop-turn-preserved : goal.loop-turn-preserved
loop-turn-preserved c depth =
    rw c.in_ok-push-2.ensures.ok
    (commas_more (spec.declared (strict depth)) _ _ _ _ _ c.take.new.self _ _
    (c.loop-turn.invariant depth) c.loop-turn-test.true
    (cc (c.sees.ensures, c.if-not-sees.false)) c.take.ensures (c.in_ok-item.ensures depth))

pub returns : goal.returns
returns c depth =
    commas_none (spec.declared (strict depth)) _ _ _ _ _ (c.loop-turn.invariant depth)
    c.loop-turn-test.false
