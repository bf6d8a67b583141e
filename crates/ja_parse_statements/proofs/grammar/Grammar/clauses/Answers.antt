use Rattle.std.proofs.Common.{◌∙◌, sym, rules, arith}
use Rattle.std.proofs.lemmas.Grind.{common_steps}
use Rattle.ja_grammar.specs.code.Contexts.{context_of}
use Rattle.ja_grammar.specs.Input.{strict}
use Rattle.ja_grammar.specs.ReadStatement.{below}
use Rattle.ja_parse_statements.proofs.Cases.{clauses_start, clauses_close, clauses_none, clauses_case, clauses_case_error, clauses_default, clauses_default_error, clauses_twice, clauses_other}
use Rattle.ja_parse_cursor.proofs.Turns.{passed}
use Rattle.ja_parse_statements.proofs.grammar.Grammar.clauses.Goals as goal

pub loop-turn-init : goal.loop-turn-init
loop-turn-init g c =
    rw c.new-found.ensures (clauses_start (strict c.args.self.now.depth)
    (below strict c.args.self.now.depth) (context_of c.args.context.now) _ c.args.cursor.now
    c.left-turn-end.ensures)

pub returns-in-CloseBrace : goal.returns-in-CloseBrace
returns-in-CloseBrace g c =
    rw c.take.ensures (clauses_close (strict c.args.self.now.depth)
    (below strict c.args.self.now.depth) (context_of c.args.context.now) _ _ _
    (record { defaulted = c.loop-turn.defaulted; found = c.loop-turn.found }) _
    c.loop-turn.invariant c.loop-turn-test.true (sym c.symbol.ensures ∙ c.in-CloseBrace.is))

pub returns-in_err-item-in-Case : goal.returns-in_err-item-in-Case
returns-in_err-item-in-Case g c =
    passed _ _ _ _ c.from_residual.ensures
    (clauses_case_error (strict c.args.self.now.depth) (below strict c.args.self.now.depth)
    (context_of c.args.context.now) _ _ _
    (record { defaulted = c.loop-turn.defaulted; found = c.loop-turn.found }) _ _ _
    c.loop-turn.invariant c.loop-turn-test.true (sym c.symbol.ensures ∙ c.in-Case.is)
    c.in_err-item-in-Case.ensures)

pub loop-turn-preserved-in-Case : goal.loop-turn-preserved-in-Case
loop-turn-preserved-in-Case g c =
    rw c.in_ok-push-in-Case.ensures.ok
    (clauses_case (strict c.args.self.now.depth) (below strict c.args.self.now.depth)
    (context_of c.args.context.now) _ _ _
    (record { defaulted = c.loop-turn.defaulted; found = c.loop-turn.found }) _ _ _
    c.loop-turn.invariant c.loop-turn-test.true (sym c.symbol.ensures ∙ c.in-Case.is)
    c.in_ok-item-in-Case.ensures)

pub returns-then-defaulted : goal.returns-then-defaulted
returns-then-defaulted g c =
    clauses_twice (strict c.args.self.now.depth) (below strict c.args.self.now.depth)
    (context_of c.args.context.now) _ _ _
    (record { defaulted = c.loop-turn.defaulted; found = c.loop-turn.found }) _
    c.loop-turn.invariant c.loop-turn-test.true (sym c.symbol.ensures ∙ c.in-Default.is)
    c.if-defaulted.true

pub returns-in_default : goal.returns-in_default
returns-in_default g c =
    clauses_other (strict c.args.self.now.depth) (below strict c.args.self.now.depth)
    (context_of c.args.context.now) _ _ _
    (record { defaulted = c.loop-turn.defaulted; found = c.loop-turn.found }) _
    c.loop-turn.invariant c.loop-turn-test.true
    (λ q. c.in_default.not-CloseBrace (c.symbol.ensures ∙ q))
    (λ q. c.in_default.not-Case (c.symbol.ensures ∙ q))
    (λ q. c.in_default.not-Default (c.symbol.ensures ∙ q))

pub returns-in_err-last : goal.returns-in_err-last
returns-in_err-last g c =
    passed _ _ _ _ c.from_residual-in_err-last.ensures
    (clauses_default_error (strict c.args.self.now.depth) (below strict c.args.self.now.depth)
    (context_of c.args.context.now) _ _ _
    (record { defaulted = c.loop-turn.defaulted; found = c.loop-turn.found }) _ _ _
    c.loop-turn.invariant c.loop-turn-test.true (sym c.symbol.ensures ∙ c.in-Default.is)
    c.if-defaulted.false c.in_err-last.ensures)

pub loop-turn-preserved : goal.loop-turn-preserved
loop-turn-preserved g c =
    rw c.in_ok-push.ensures.ok
    (clauses_default (strict c.args.self.now.depth) (below strict c.args.self.now.depth)
    (context_of c.args.context.now) _ _ _
    (record { defaulted = c.loop-turn.defaulted; found = c.loop-turn.found }) _ _ _
    c.loop-turn.invariant c.loop-turn-test.true (sym c.symbol.ensures ∙ c.in-Default.is)
    c.if-defaulted.false c.in_ok-last.ensures)

pub returns-in_err-expect : goal.returns-in_err-expect
returns-in_err-expect g c =
    let e = clauses_none (strict c.args.self.now.depth) (below strict c.args.self.now.depth)
    (context_of c.args.context.now) _ _ _
    (record { defaulted = c.loop-turn.defaulted; found = c.loop-turn.found }) _
    c.loop-turn.invariant c.loop-turn-test.false in
    first_of (search rules, grind (arith, common_steps))

pub returns : goal.returns
returns g c =
    let e = clauses_none (strict c.args.self.now.depth) (below strict c.args.self.now.depth)
    (context_of c.args.context.now) _ _ _
    (record { defaulted = c.loop-turn.defaulted; found = c.loop-turn.found }) _
    c.loop-turn.invariant c.loop-turn-test.false in
    first_of (search rules, grind (arith, common_steps))
