-- The laws of the rules at every number of levels; and a text spells one program.
use Rattle.std.proofs.Common.{◌≡◌, ℕ, zero, suc, ◌≤◌, true, List, refl, le_of_suc-le-suc, arith}
use Rattle.ja_syntax.specs.declared.symbol.Symbol.TheVariants.{End}
use Rattle.ja_syntax.specs.declared.tree.Statement.{Statement}
use Rattle.ja_grammar.specs.declared.fault.Refusal.TheVariants.{Unexpected}
use Rattle.ja_grammar.specs.Contexts.{program_context}
use Rattle.ja_grammar.specs.Input.{Tokens, next, Done, Rules, strict}
use Rattle.ja_grammar.specs.Productions.{At}
use Rattle.ja_grammar.specs.ExpressionGrammar.{Nested}
use Rattle.ja_grammar.specs.ReadExpression.{Below, expression_part}
use Rattle.ja_grammar.specs.ReadStatement.{single, statement_part, below, is_end, program}
use Rattle.ja_grammar.specs.StatementGrammar.{Single, nested, IsProgram}
use Rattle.ja_grammar.proofs.Agree.{Covers, Agrees}
use Rattle.ja_grammar.proofs.ExpressionComplete.{expression_part_all}
use Rattle.ja_grammar.proofs.ExpressionSound.{expression_part_is}
use Rattle.ja_grammar.proofs.Outcomes.{refused_not_done, same_symbol_is, same_symbol_true, same_symbol_refl}
use Rattle.ja_grammar.proofs.Starts.{BelowStarts, assignment_starts, single_starts, no_end}
use Rattle.ja_grammar.proofs.StatementComplete.{single_all, statement_part_all}
use Rattle.ja_grammar.proofs.StatementSound.{single_is, statement_part_is}
use Rattle.ja_grammar.proofs.StatementTakes.{single_takes, below_takes}
use Rattle.ja_grammar.proofs.Strict.{strict_milder, strict_asks}
use Rattle.ja_grammar.proofs.Until.{until_all, until_is}

pub below_starts : (rules : ℕ → Rules) (d : ℕ) → BelowStarts (below rules d)
unfolding below expression_part statement_part
below_starts rules zero =
    record {
      expression = λ no_in i x r e. absurd (refused_not_done e);
      statement = λ c labels outermost i x r e. absurd (refused_not_done e);
    }
below_starts rules (suc d) =
    record {
      expression = assignment_starts (rules d) (below rules d);
      statement = single_starts (rules d) (below rules d);
    }

-- what the grammar of the language says with few levels is read with as many, or more
pub covers : (low d : ℕ) → low ≤ d → Covers (nested strict low) (below strict d)
unfolding nested below
covers zero d more =
    record { expression_all = λ p i x r h. absurd h; statement_all = λ c p i x r h. absurd h }
covers (suc low) zero more = absurd (omega (arith, more))
covers (suc low) (suc d) more = record {
  expression_all =
      expression_part_all (strict low) (strict d) (strict_milder low d (le_of_suc-le-suc more))
      (nested strict low) (below strict d) (below_takes strict d) (below_starts strict d)
      (covers low d (le_of_suc-le-suc more));
  statement_all =
      statement_part_all (strict low) (strict d) (strict_milder low d (le_of_suc-le-suc more))
      (nested strict low) (below strict d) (below_takes strict d) (below_starts strict d)
      (covers low d (le_of_suc-le-suc more));
}

-- no rule that is asked always is left out
abbrev pub Asks : (ℕ → Rules) → Type 0
Asks rules = (d : ℕ) (i : Tokens) → rules d Unexpected i ≡ true

-- the rules of the language are such
pub strict_rules : Asks strict
strict_rules d i = strict_asks d Unexpected i refl

-- what agrees covers
as_covers : {n : Nested} {b : Below} → Agrees n b → Covers n b
as_covers a = record { expression_all = a.expression_all; statement_all = a.statement_all }

-- by any rules, what the grammar says is read, and what is read is the grammar's
pub agrees : (rules : ℕ → Rules) → Asks rules → (d : ℕ) → Agrees (nested rules d) (below rules d)
unfolding nested below
agrees rules asks zero = record {
  expression_all = λ p i x r h. absurd h;
  expression_is = λ p i x r e. absurd (refused_not_done e);
  statement_all = λ c p i x r h. absurd h;
  statement_is = λ c p i x r e. absurd (refused_not_done e);
}
agrees rules asks (suc d) = record {
  expression_all =
      expression_part_all (rules d) (rules d) (λ why i off. off) (nested rules d) (below rules d)
      (below_takes rules d) (below_starts rules d) (as_covers (agrees rules asks d));
  expression_is =
      expression_part_is (rules d) (nested rules d) (below rules d) (below_takes rules d)
      (agrees rules asks d);
  statement_all =
      statement_part_all (rules d) (rules d) (λ why i off. off) (nested rules d) (below rules d)
      (below_takes rules d) (below_starts rules d) (as_covers (agrees rules asks d));
  statement_is =
      statement_part_is (rules d) (nested rules d) (below rules d) (below_takes rules d)
      (agrees rules asks d) (asks d);
}

-- ---- programs

-- a program of few levels is read with as many, or more
pub program_covers : (low d : ℕ) → low ≤ d → (i : Tokens) (xs : List Statement) (r : Tokens)
    → IsProgram strict low i xs r → program strict d i ≡ Done xs r
unfolding program
program_covers low d more i xs r h =
    until_all is_end (single (strict d) (below strict d) program_context 0 true)
    (Single (strict low) (nested strict low) program_context 0 true) (At End)
    (single_takes (strict d) (below_takes strict d) program_context 0 true)
    (same_symbol_refl End) (λ r at. same_symbol_is (next r) End at)
    (λ i x r one. no_end (next i) (single_starts (strict d) (below strict d) program_context 0
    true i x r (reads i x r one))) reads i xs r h
  where
    reads : (i : Tokens) (x : Statement) (r : Tokens)
        → Single (strict low) (nested strict low) program_context 0 true i x r
        → single (strict d) (below strict d) program_context 0 true i ≡ Done x r
    reads =
        single_all (strict low) (strict d) (strict_milder low d more) (nested strict low)
        (below strict d) (below_takes strict d) (below_starts strict d) (covers low d more)
        program_context 0 true

-- a program of the grammar is read, by any rules
pub program_all : (rules : ℕ → Rules) → Asks rules
    → (d : ℕ) (i : Tokens) (xs : List Statement) (r : Tokens) → IsProgram rules d i xs r
    → program rules d i ≡ Done xs r
unfolding program
program_all rules asks d i xs r h =
    until_all is_end (single (rules d) (below rules d) program_context 0 true)
    (Single (rules d) (nested rules d) program_context 0 true) (At End)
    (single_takes (rules d) (below_takes rules d) program_context 0 true) (same_symbol_refl End)
    (λ r at. same_symbol_is (next r) End at)
    (λ i x r one. no_end (next i) (single_starts (rules d) (below rules d) program_context 0
    true i x r (reads i x r one))) reads i xs r h
  where
    reads : (i : Tokens) (x : Statement) (r : Tokens)
        → Single (rules d) (nested rules d) program_context 0 true i x r
        → single (rules d) (below rules d) program_context 0 true i ≡ Done x r
    reads =
        single_all (rules d) (rules d) (λ why i off. off) (nested rules d) (below rules d)
        (below_takes rules d) (below_starts rules d) (as_covers (agrees rules asks d))
        program_context 0 true

-- what is read is a program of the grammar
pub program_is : (rules : ℕ → Rules) → Asks rules
    → (d : ℕ) (i : Tokens) (xs : List Statement) (r : Tokens) → program rules d i ≡ Done xs r
    → IsProgram rules d i xs r
unfolding program
program_is rules asks d i xs r e =
    until_is is_end (single (rules d) (below rules d) program_context 0 true)
    (Single (rules d) (nested rules d) program_context 0 true) (At End)
    (single_takes (rules d) (below_takes rules d) program_context 0 true)
    (same_symbol_refl End) (λ i x r _ e. single_is (rules d) (nested rules d) (below rules d)
    (below_takes rules d) (agrees rules asks d) (asks d) program_context 0 true i x r e) i xs r
    (λ h. same_symbol_true (next r) End h) e
