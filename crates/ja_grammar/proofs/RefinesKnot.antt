-- Programs read by two towers of rules: the same is read, unless the first refuses for want of what
-- the second doesn't ask. The second may have spare levels.
use Rattle.std.proofs.Common.{◌≡◌, ◌⊎◌, ℕ, zero, suc, ◌+◌, true, false, refl, sym, ◌∙◌, subst, true≢false, suc-add}
use Rattle.ja_grammar.specs.declared.fault.Refusal.{Refusal}
use Rattle.ja_grammar.specs.declared.fault.Refusal.TheVariants.{Deep}
use Rattle.ja_grammar.specs.Contexts.{program_context}
use Rattle.ja_grammar.specs.Input.{Tokens, Rules}
use Rattle.ja_grammar.specs.Language.{is_level}
use Rattle.ja_grammar.specs.ReadStatement.{single, below, is_end, program}
use Rattle.ja_grammar.proofs.Refines.{Lenient, Refines, AsksEach, RefinesBelow, until_refines}
use Rattle.ja_grammar.proofs.RefinesExpressions.{expression_part_refines}
use Rattle.ja_grammar.proofs.RefinesStatements.{single_refines, statement_part_refines}
use Rattle.ja_grammar.proofs.StatementTakes.{single_takes, below_takes}

module _ (C : Lenient) (rules rules' : ℕ → Rules) (k : ℕ)
    (asks : (d : ℕ) (why : Refusal) (i : Tokens)
    → (rules d why i ≡ rules' (d + k) why i)
    ⊎ ((rules d why i ≡ true) × (rules' (d + k) why i ≡ false) × C why i))
    (full : (why : Refusal) (i : Tokens) → is_level why ≡ true → rules 0 why i ≡ true) where
  -- one level more
  step : (d e : ℕ) → AsksEach C (rules (suc d)) (rules' (suc e))
      → RefinesBelow C (rules d) (rules' e) (below rules d) (below rules' e)
      → RefinesBelow C (rules (suc d)) (rules' (suc e)) (below rules (suc d)) (below rules' (suc e))
  unfolding below
  step d e each h = record {
    asks = each;
    expression = λ i room p j. expression_part_refines h p j;
    statement = λ why i level room c p j. statement_part_refines h c p j;
    takes = below_takes rules' (suc e);
  }

  -- the parts below every number of levels
  pub below_refines : (d : ℕ) → RefinesBelow C (rules d) (rules' (d + k)) (below rules d)
      (below rules' (d + k))
  below_refines zero = record {
    asks = asks zero;
    expression = λ i room p j. absurd (true≢false (sym (full Deep i refl) ∙ room));
    statement = λ why i level room c p j. absurd (true≢false (sym (full why i level) ∙ room));
    takes = below_takes rules' (zero + k);
  }
  below_refines (suc d) =
      subst (λ e. RefinesBelow C (rules (suc d)) (rules' e) (below rules (suc d)) (below rules' e))
      (sym (suc-add d k))
      (step d (d + k) (subst (λ e. AsksEach C (rules (suc d)) (rules' e)) (suc-add d k)
      (asks (suc d))) (below_refines d))

  -- of every program
  pub program_refines : (d : ℕ) (i : Tokens)
      → Refines C (program rules d i) (program rules' (d + k) i)
  unfolding program
  program_refines d i =
      until_refines (single (rules d) (below rules d) program_context 0 true)
      (single (rules' (d + k)) (below rules' (d + k)) program_context 0 true)
      (single_refines (below_refines d) program_context 0 true)
      (single_takes (rules' (d + k)) (below_takes rules' (d + k)) program_context 0 true) is_end
      i
