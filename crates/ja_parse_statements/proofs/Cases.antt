-- The turns of the loop that reads the clauses of a `switch`.
use Rattle.std.proofs.Common.{◌≡◌, ◌≢◌, ℕ, suc, ◌+◌, ◌-◌, ◌<◌, ◌≤◌, true, false, List, [], ◌∷◌, ◌++◌, length, Err, refl, ◌∙◌, arith}
use Rattle.ja_syntax.specs.declared.symbol.Symbol.{Symbol}
use Rattle.ja_syntax.specs.declared.symbol.Symbol.TheVariants as k
use Rattle.ja_syntax.specs.declared.tree.Case.{Case}
use Rattle.ja_syntax.specs.Symbols.{same_symbol}
use Rattle.ja_grammar.specs.declared.fault.Refusal.{Refusal}
use Rattle.ja_grammar.specs.declared.fault.Refusal.TheVariants.{Unexpected}
use Rattle.ja_grammar.specs.declared.fault.Stop.{Stop}
use Rattle.ja_grammar.specs.Contexts.{Context}
use Rattle.ja_grammar.specs.Input.{Rules, Tokens, Outcome, Done, Refused, ◌>>◌, pure, expect, next, behind, many_from}
use Rattle.ja_grammar.specs.code.Input.{Follows}
use Rattle.ja_grammar.specs.ReadExpression.{Below}
use Rattle.ja_grammar.specs.ReadStatement.{Clauses, clause_by, case, default}
use Rattle.ja_parse_statements.specs.code.Clauses.{clauses_from, clauses_behind}
use Rattle.ja_parse_cursor.proofs.Turns.{one_more, no_more, same_error}

module _ (g : Rules) (b : Below) (c : Context) where
  pub clauses_start : (n : ℕ) (i : Tokens) → n ≡ length i
      → clauses_behind g b c i ≡ clauses_from g b c (n - 0)
      (record { defaulted = false; found = [] }) i
  unfolding clauses_behind clauses_from
  clauses_start n i h = let e : n - 0 ≡ length i = omega (arith, h) in rw e refl

  clauses_turn : (whole : Outcome (List Case)) (n at : ℕ) (cs : Clauses) (i : Tokens)
      → whole ≡ clauses_from g b c (n - at) cs i → at < n
      → whole ≡ clauses_from g b c (suc (n - (at + 1))) cs i
  clauses_turn whole n at cs i w h = w ∙ one_more (λ n. clauses_from g b c n cs i) n at h

  closes : (cs : Clauses) (i : Tokens) → next i ≡ k.CloseBrace
      → (expect k.CloseBrace >> pure cs.found) i ≡ Done cs.found (behind i)
  unfolding expect same_symbol
  closes cs i e = rw e refl

  pub clauses_close : (whole : Outcome (List Case)) (n at : ℕ) (cs : Clauses) (i : Tokens)
      → whole ≡ clauses_from g b c (n - at) cs i → at < n
      → next i ≡ k.CloseBrace → whole ≡ Done cs.found (behind i)
  unfolding clauses_from many_from
  clauses_close whole n at cs i w h e = clauses_turn whole n at cs i w h ∙ rw e (closes cs i e)

  pub clauses_none : (whole : Outcome (List Case)) (n at : ℕ) (cs : Clauses) (i : Tokens)
      → whole ≡ clauses_from g b c (n - at) cs i → n ≤ at
      → whole ≡ (expect k.CloseBrace >> pure cs.found) i
  unfolding clauses_from many_from
  clauses_none whole n at cs i w h = w ∙ no_more (λ n. clauses_from g b c n cs i) n at h

  pub clauses_case : (whole : Outcome (List Case)) (n at : ℕ) (cs : Clauses) (i j : Tokens)
      (x : Case) → whole ≡ clauses_from g b c (n - at) cs i
      → at < n → next i ≡ k.Case → case g b c i ≡ Done x j
      → whole ≡ clauses_from g b c (n - (at + 1))
      (record { defaulted = cs.defaulted; found = cs.found ++ x ∷ [] }) j
  unfolding clauses_from many_from
  clauses_case whole n at cs i j x w h e q = clauses_turn whole n at cs i w h ∙ rw (e, q) refl

  clauses_case_refused : (whole : Outcome (List Case)) (n at : ℕ) (cs : Clauses) (i j : Tokens)
      (why : Refusal) → whole ≡ clauses_from g b c (n - at) cs i
      → at < n → next i ≡ k.Case → case g b c i ≡ Refused why j → whole ≡ Refused why j
  unfolding clauses_from many_from
  clauses_case_refused whole n at cs i j why w h e q =
      clauses_turn whole n at cs i w h ∙ rw (e, q) refl

  pub clauses_case_error : (whole : Outcome (List Case)) (n at : ℕ) (cs : Clauses) (i j : Tokens)
      (r : Stop) → whole ≡ clauses_from g b c (n - at) cs i
      → at < n → next i ≡ k.Case → Follows (case g b c i) (Err r) j → Follows whole (Err r) j
  clauses_case_error whole n at cs i j r w h e q =
      same_error (case g b c i) whole r j (λ why z.
      clauses_case_refused whole n at cs i j why w h e z) q

  pub clauses_default : (whole : Outcome (List Case)) (n at : ℕ) (cs : Clauses) (i j : Tokens)
      (x : Case) → whole ≡ clauses_from g b c (n - at) cs i
      → at < n → next i ≡ k.Default → cs.defaulted ≡ false → default g b c i ≡ Done x j
      → whole ≡ clauses_from g b c (n - (at + 1))
      (record { defaulted = true; found = cs.found ++ x ∷ [] }) j
  unfolding clauses_from many_from
  clauses_default whole n at cs i j x w h e f q =
      clauses_turn whole n at cs i w h ∙ rw (e, f, q) refl

  clauses_default_refused : (whole : Outcome (List Case)) (n at : ℕ) (cs : Clauses) (i j : Tokens)
      (why : Refusal) → whole ≡ clauses_from g b c (n - at) cs i
      → at < n → next i ≡ k.Default → cs.defaulted ≡ false → default g b c i ≡ Refused why j
      → whole ≡ Refused why j
  unfolding clauses_from many_from
  clauses_default_refused whole n at cs i j why w h e f q =
      clauses_turn whole n at cs i w h ∙ rw (e, f, q) refl

  pub clauses_default_error : (whole : Outcome (List Case)) (n at : ℕ) (cs : Clauses) (i j : Tokens)
      (r : Stop) → whole ≡ clauses_from g b c (n - at) cs i
      → at < n → next i ≡ k.Default → cs.defaulted ≡ false → Follows (default g b c i) (Err r) j
      → Follows whole (Err r) j
  clauses_default_error whole n at cs i j r w h e f q =
      same_error (default g b c i) whole r j
      (λ why z. clauses_default_refused whole n at cs i j why w h e f z) q

  pub clauses_twice : (whole : Outcome (List Case)) (n at : ℕ) (cs : Clauses) (i : Tokens)
      → whole ≡ clauses_from g b c (n - at) cs i → at < n
      → next i ≡ k.Default → cs.defaulted ≡ true → whole ≡ Refused Unexpected i
  unfolding clauses_from many_from
  clauses_twice whole n at cs i w h e f = clauses_turn whole n at cs i w h ∙ rw (e, f) refl

  none_of : (cs : Clauses) (s : Symbol) (i : Tokens) → s ≢ k.CloseBrace → s ≢ k.Case → s ≢ k.Default
      → clause_by g b c cs s i ≡ Refused Unexpected i
  none_of cs k.CloseBrace i p q r = absurd (p refl)
  none_of cs k.Case i p q r = absurd (q refl)
  none_of cs k.Default i p q r = absurd (r refl)
  none_of cs _ i p q r = refl

  pub clauses_other : (whole : Outcome (List Case)) (n at : ℕ) (cs : Clauses) (i : Tokens)
      → whole ≡ clauses_from g b c (n - at) cs i → at < n
      → next i ≢ k.CloseBrace → next i ≢ k.Case → next i ≢ k.Default → whole ≡ Refused Unexpected i
  unfolding clauses_from many_from
  clauses_other whole n at cs i w h p q r =
      clauses_turn whole n at cs i w h ∙ rw (none_of cs (next i) i p q r) refl
