use Rattle.std.proofs.Common.{sym, ap, ◌∙◌}
use Rattle.ja_parse_cursor.proofs.Turns.{passed, until_start, until_stop, until_none, until_more, until_error}
use Rattle.ja_grammar.specs.Input.{strict}
use Rattle.ja_grammar.specs.ReadExpression as spec
use Rattle.ja_grammar.specs.ReadStatement.{below}
use Rattle.ja_parse_expressions.proofs.grammar.Grammar.elements.Goals as goal

pub loop-turn-init : goal.loop-turn-init
loop-turn-init g c =
    rw c.new-found.ensures (until_start spec.is_close_bracket
    (spec.element (strict c.args.self.now.depth) (below strict c.args.self.now.depth)) _
    c.args.cursor.now c.left-turn-end.ensures)

pub returns-then-is_close_bracket : goal.returns-then-is_close_bracket
returns-then-is_close_bracket g c =
    until_stop spec.is_close_bracket (spec.element (strict c.args.self.now.depth)
    (below strict c.args.self.now.depth)) _ _ _ _ c.loop-turn.invariant
    (sym (ap spec.is_close_bracket c.symbol.ensures) ∙ sym c.is_close_bracket.ensures
    ∙ c.if-is_close_bracket.true)

pub returns-in_err-item : goal.returns-in_err-item
returns-in_err-item g c =
    passed _ _ _ _ c.from_residual.ensures (until_error spec.is_close_bracket
    (spec.element (strict c.args.self.now.depth) (below strict c.args.self.now.depth)) _ _ _ _ _
    _ _ c.loop-turn.invariant c.loop-turn-test.true
    (sym (ap spec.is_close_bracket c.symbol.ensures) ∙ sym c.is_close_bracket.ensures
    ∙ c.if-is_close_bracket.false) c.in_err-item.ensures)

pub loop-turn-preserved : goal.loop-turn-preserved
loop-turn-preserved g c =
    rw c.in_ok-push.ensures.ok (until_more spec.is_close_bracket
    (spec.element (strict c.args.self.now.depth) (below strict c.args.self.now.depth)) _ _ _ _ _
    _ _ c.loop-turn.invariant c.loop-turn-test.true
    (sym (ap spec.is_close_bracket c.symbol.ensures) ∙ sym c.is_close_bracket.ensures
    ∙ c.if-is_close_bracket.false) c.in_ok-item.ensures)

pub returns : goal.returns
returns g c =
    until_none spec.is_close_bracket (spec.element (strict c.args.self.now.depth)
    (below strict c.args.self.now.depth)) _ _ _ _ _ c.loop-turn.invariant c.loop-turn-test.false
