-- The place laws at every number of levels, and so the place law of the program.
use Rattle.std.proofs.Common.{◌≡◌, ℕ, zero, suc, ◌+◌, ◌<◌, ◌≤◌, Bool, true, false, not, ◌&&◌, [], ◌∷◌, refl, ap, ◌∙◌, arith}
use Rattle.ja_base.specs.declared.ids.Place.{Place}
use Rattle.ja_syntax.specs.declared.symbol.Symbol.TheVariants.{End}
use Rattle.ja_grammar.specs.declared.fault.Refusal.{Refusal}
use Rattle.ja_grammar.specs.declared.fault.Refusal.TheVariants.{Deep, DeepLabel}
use Rattle.ja_grammar.specs.declared.part.ExpressionPart.TheVariants as of_expression
use Rattle.ja_grammar.specs.Contexts.{program_context}
use Rattle.ja_grammar.specs.Input.{Tokens, next, strict}
use Rattle.ja_grammar.specs.Language.{max_levels, is_level, is_same, without}
use Rattle.ja_grammar.specs.Productions.{HasRoom}
use Rattle.ja_grammar.specs.ReadExpression.{expression_part}
use Rattle.ja_grammar.specs.ReadStatement.{single, below, is_end, program}
use Rattle.ja_grammar.proofs.Explaining.{PlaceLaw}
use Rattle.ja_grammar.proofs.ExpressionGood.{expression_part_good, expression_part_sample}
use Rattle.ja_grammar.proofs.ExpressionSamples.{named, whole_name}
use Rattle.ja_grammar.proofs.Good.{Sample, Any, weaken_good}
use Rattle.ja_grammar.proofs.Known.{known, known_reasons}
use Rattle.ja_grammar.proofs.LeftHandAhead.{created_ahead}
use Rattle.ja_grammar.proofs.Levels.{EndsExpression, Ahead, BelowGood, BelowSamples}
use Rattle.ja_grammar.proofs.Outcomes.{same_symbol_is, same_symbol_refl}
use Rattle.ja_grammar.proofs.Roomier.{Roomier}
use Rattle.ja_grammar.proofs.SampleTokens.{name, name_real}
use Rattle.ja_grammar.proofs.SingleGood.{single_good}
use Rattle.ja_grammar.proofs.StatementGood.{statement_part_good}
use Rattle.ja_grammar.proofs.StatementSamples.{end_ends, statement_part_sample}
use Rattle.ja_grammar.proofs.StatementTakes.{single_takes, below_takes}
use Rattle.ja_grammar.proofs.Strict.{strict_asks, strict_room, strict_room_label}
use Rattle.ja_grammar.proofs.Until.{until_good}

-- ---- the rules without one of them

and_true : (b : Bool) → (b && true) ≡ b
and_true true = refl
and_true false = refl

and_false : (b : Bool) → (b && false) ≡ false
and_false true = refl
and_false false = refl

without_room : (O : Refusal) (d : ℕ) → 0 < d → (i : Tokens) → HasRoom (without O d) i
unfolding without
without_room O d some i =
    ap (λ b. not (is_same O Deep) && b) (strict_room d i some) ∙ and_false (not (is_same O Deep))

without_room_label : (O : Refusal) (d : ℕ) → 0 < d → (place : Place) (i : Tokens)
    → without O d (DeepLabel place) i ≡ false
unfolding without
without_room_label O d some place i =
    ap (λ b. not (is_same O (DeepLabel place)) && b) (strict_room_label d place i some)
    ∙ and_false (not (is_same O (DeepLabel place)))

without_asks : (O : Refusal) (d : ℕ) (why : Refusal) → is_level why ≡ false → (i : Tokens)
    → without O d why i ≡ not (is_same O why)
unfolding without
without_asks O d why level i =
    ap (λ b. not (is_same O why) && b) (strict_asks d why i level) ∙ and_true (not (is_same O why))

-- ---- samples

-- a name is an expression below a level
whole_sample : (O : Refusal) (d : ℕ) → 0 < d
    → Sample [] ((below (without O) d).expression (of_expression.Whole false)) Any EndsExpression
    Any
unfolding below expression_part
whole_sample O zero some = absurd (omega (arith, some))
whole_sample O (suc d) some =
    record {
      more = name ∷ [];
      value = named;
      real = (name_real, tt);
      fits = tt;
      follows = λ tail _. tt;
      reads = λ tail ends.
          whole_name (without O d) (below (without O) d) false tail ends;
    }

-- with two levels each part can be written
below_samples : (O : Refusal) (d : ℕ) → 2 ≤ d → BelowSamples (below (without O) d)
unfolding below
below_samples O zero more = absurd (omega (arith, more))
below_samples O (suc d) more = record {
  expression =
      expression_part_sample (without O d) (below (without O) d)
      (without_room O d (omega (arith, more)));
  statement =
      statement_part_sample (without O d) (below (without O) d)
      (without_room O d (omega (arith, more))) (whole_sample O d (omega (arith, more)));
}

-- ---- every number of levels

-- what the place laws of the rules take for granted
roomier : (O : Refusal) (d d' : ℕ) → d + 2 ≤ d'
    → (0 < d → BelowGood (known O) (below strict d) (below (without O) d') × Ahead (below strict d))
    → Roomier (known O) d (without O d') (below strict d) (below (without O) d')
roomier O d d' more laws = record {
  reasons = known_reasons O;
  takes = below_takes strict d;
  takes_more = below_takes (without O) d';
  good = λ some. (laws some).0;
  ahead = λ some. (laws some).1;
  samples = below_samples O d' (omega (arith, more));
  some = without_room O d' (omega (arith, more));
  some_label = without_room_label O d' (omega (arith, more));
  asks = without_asks O d';
}

-- the laws of each part, where a level is left
below_laws : (O : Refusal) (d d' : ℕ) → d + 2 ≤ d' → 0 < d
    → BelowGood (known O) (below strict d) (below (without O) d') × Ahead (below strict d)
unfolding below expression_part
below_laws O zero d' more some = absurd (omega (arith, some))
below_laws O (suc d) zero more some = absurd (omega (arith, more))
below_laws O (suc d) (suc d') more some =
    let h = roomier O d d' (omega (arith, more)) (below_laws O d d' (omega (arith, more))) in (
      record {
        expression = λ U. expression_part_good {U = U} h;
        statement = λ U. statement_part_good {U = U} h;
      },
      record { created = created_ahead h },
    )

-- the place law of the program
pub place_law : PlaceLaw
unfolding program
place_law O i =
    until_good is_end (single (strict max_levels) (below strict max_levels) program_context 0 true)
    (single (without O 202) (below (without O) 202) program_context 0 true) (known_reasons O).closed
    (same_symbol_refl End)
    (single_takes (strict max_levels) (below_takes strict max_levels) program_context 0 true)
    (single_takes (without O 202) (below_takes (without O) 202) program_context 0 true)
    (λ i _. weaken_good i (λ tail at. end_ends (next tail) at) (λ x w. w) (λ why w r j. j)
    (single_good (roomier O max_levels 202 (omega arith)
    (below_laws O max_levels 202 (omega arith))) program_context (record { all = tt }) 0 true
    i))
    (λ tail at. same_symbol_is (next tail) End at) i
