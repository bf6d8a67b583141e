use Rattle.ja_parse_cursor.proofs.Turns.{passed, until_start, until_stop, until_none, until_more, until_error}
use Rattle.ja_grammar.specs.Input.{strict}
use Rattle.ja_grammar.specs.ReadStatement.{below}
use Rattle.ja_grammar.specs.declared.part.StatementPart.TheVariants as of_statement
use Rattle.ja_grammar.specs.code.Contexts.{context_of}
use Rattle.std.proofs.Common.{sym, ap, ◌∙◌}
use Rattle.ja_parse_expressions.specs.code.Ends.{ends}
use Rattle.ja_parse_expressions.proofs.body.statements_below.Goals as goal

pub loop-turn-init : goal.loop-turn-init
loop-turn-init g c =
    rw c.new-found.ensures (until_start (ends c.args.end)
    ((below strict c.args.depth).statement (context_of c.args.context.now)
    (of_statement.Whole 0 c.args.outermost)) _ c.args.cursor.now c.left-turn-end.ensures)

pub returns-then-is_end : goal.returns-then-is_end
returns-then-is_end g c =
    until_stop (ends c.args.end) ((below strict c.args.depth).statement
    (context_of c.args.context.now) (of_statement.Whole 0 c.args.outermost)) _ _ _ _
    c.loop-turn.invariant (sym (ap (ends c.args.end) c.symbol.ensures) ∙ sym c.is_end.ensures
    ∙ c.if-is_end.true)

pub returns-in_err-item : goal.returns-in_err-item
returns-in_err-item g c =
    passed _ _ _ _ c.from_residual.ensures (until_error (ends c.args.end)
    ((below strict c.args.depth).statement (context_of c.args.context.now)
    (of_statement.Whole 0 c.args.outermost)) _ _ _ _ _ _ _ c.loop-turn.invariant
    c.loop-turn-test.true (sym (ap (ends c.args.end) c.symbol.ensures) ∙ sym c.is_end.ensures
    ∙ c.if-is_end.false) c.in_err-item.ensures)

pub loop-turn-preserved : goal.loop-turn-preserved
loop-turn-preserved g c =
    rw (c.in_ok-push.ensures.ok, c.into_inner.ensures)
    (until_more (ends c.args.end) ((below strict c.args.depth).statement
    (context_of c.args.context.now) (of_statement.Whole 0 c.args.outermost)) _ _ _ _ _ _ _
    c.loop-turn.invariant c.loop-turn-test.true
    (sym (ap (ends c.args.end) c.symbol.ensures) ∙ sym c.is_end.ensures ∙ c.if-is_end.false)
    c.in_ok-item.ensures)

pub returns : goal.returns
returns g c =
    until_none (ends c.args.end) ((below strict c.args.depth).statement
    (context_of c.args.context.now) (of_statement.Whole 0 c.args.outermost)) _ _ _ _ _
    c.loop-turn.invariant c.loop-turn-test.false
