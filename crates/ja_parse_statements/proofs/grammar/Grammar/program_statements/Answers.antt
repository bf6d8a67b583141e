use Rattle.ja_parse_cursor.proofs.Turns.{passed, until_start, until_stop, until_none, until_more, until_error}
use Rattle.ja_grammar.specs.Input.{strict}
use Rattle.ja_grammar.specs.ReadStatement as statements
use Rattle.ja_grammar.specs.ReadStatement.{below}
use Rattle.ja_grammar.specs.code.Contexts.{context_of}
use Rattle.std.proofs.Common.{true}
use Rattle.ja_parse_statements.proofs.grammar.Grammar.program_statements.Goals as goal

pub loop-turn-init : goal.loop-turn-init
loop-turn-init g c =
    rw c.new-found.ensures (until_start statements.is_end
    (statements.single (strict c.args.self.now.depth) (below strict c.args.self.now.depth)
    (context_of c.args.context.now) 0 true) _ c.args.cursor.now c.left-turn-end.ensures)

pub returns-then-sees : goal.returns-then-sees
returns-then-sees g c =
    until_stop statements.is_end (statements.single (strict c.args.self.now.depth)
    (below strict c.args.self.now.depth) (context_of c.args.context.now) 0 true) _ _ _ _
    c.loop-turn.invariant (cc (c.sees.ensures, c.if-sees.true))

pub returns-in_err-item : goal.returns-in_err-item
returns-in_err-item g c =
    passed _ _ _ _ c.from_residual.ensures (until_error statements.is_end
    (statements.single (strict c.args.self.now.depth) (below strict c.args.self.now.depth)
    (context_of c.args.context.now) 0 true) _ _ _ _ _ _ _ c.loop-turn.invariant
    c.loop-turn-test.true (cc (c.sees.ensures, c.if-sees.false)) c.in_err-item.ensures)

pub loop-turn-preserved : goal.loop-turn-preserved
loop-turn-preserved g c =
    rw (c.in_ok-push.ensures.ok, c.into_inner.ensures)
    (until_more statements.is_end (statements.single (strict c.args.self.now.depth)
    (below strict c.args.self.now.depth) (context_of c.args.context.now) 0 true) _ _ _ _ _ _ _
    c.loop-turn.invariant c.loop-turn-test.true (cc (c.sees.ensures, c.if-sees.false))
    c.in_ok-item.ensures)

pub returns : goal.returns
returns g c =
    until_none statements.is_end (statements.single (strict c.args.self.now.depth)
    (below strict c.args.self.now.depth) (context_of c.args.context.now) 0 true) _ _ _ _ _
    c.loop-turn.invariant c.loop-turn-test.false
