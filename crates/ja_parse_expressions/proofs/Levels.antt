-- What is read one level below.
use Rattle.std.proofs.Common.{◌≡◌, ℕ, zero, suc, ◌<◌, ◌-◌, refl, arith}
use Rattle.ja_grammar.specs.declared.part.ExpressionPart.{ExpressionPart}
use Rattle.ja_grammar.specs.declared.part.StatementPart.{StatementPart}
use Rattle.ja_grammar.specs.declared.fault.Refusal.TheVariants.{Deep}
use Rattle.ja_grammar.specs.Contexts.{Context}
use Rattle.ja_grammar.specs.Input.{Tokens, Refused, strict}
use Rattle.ja_grammar.specs.ReadExpression.{expression_part}
use Rattle.ja_grammar.specs.ReadStatement.{below, statement_part}

pub expression_below : (d : ℕ) (part : ExpressionPart) (i : Tokens) → 0 < d
    → (below strict d).expression part i ≡ expression_part (strict (d - 1)) (below strict (d - 1))
    part i
unfolding below
expression_below zero part i h = absurd (omega (arith, h))
expression_below (suc d) part i h = let e : suc d - 1 ≡ d = omega arith in rw e refl

pub statement_below : (d : ℕ) (c : Context) (part : StatementPart) (i : Tokens) → 0 < d
    → (below strict d).statement c part i ≡ statement_part (strict (d - 1)) (below strict (d - 1)) c
    part i
unfolding below
statement_below zero c part i h = absurd (omega (arith, h))
statement_below (suc d) c part i h = let e : suc d - 1 ≡ d = omega arith in rw e refl

pub no_expression_below : (d : ℕ) (part : ExpressionPart) (i : Tokens) → d ≡ 0
    → (below strict d).expression part i ≡ Refused Deep i
unfolding below
no_expression_below d part i h = rw h refl

pub no_statement_below : (d : ℕ) (c : Context) (part : StatementPart) (i : Tokens) → d ≡ 0
    → (below strict d).statement c part i ≡ Refused Deep i
unfolding below
no_statement_below d c part i h = rw h refl
