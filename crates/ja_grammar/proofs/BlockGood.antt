-- The place laws of blocks, of expressions in parentheses, of `switch` and `try` (12.1, 12.11,
-- 12.14).
use Rattle.std.proofs.Common.{◌≡◌, ℕ, zero, suc, ◌<◌, ◌≤◌, Bool, true, false, List, [], ◌∷◌, length, Option, Some, None, refl, sym, ap, ◌∙◌, subst}
use Rattle.ja_base.proofs.Options.{none_not_some}
use Rattle.ja_lex.specs.declared.token.Token.{Token}
use Rattle.ja_syntax.specs.declared.symbol.Symbol.{Symbol}
use Rattle.ja_syntax.specs.declared.symbol.Symbol.TheVariants as k
use Rattle.ja_syntax.specs.declared.tree.Case.{Case, roll-Case}
use Rattle.ja_syntax.specs.declared.tree.Expression.{Expression}
use Rattle.ja_syntax.specs.declared.tree.Statement.{Statement}
use Rattle.ja_syntax.specs.declared.tree.Statement.TheVariants as s
use Rattle.ja_grammar.specs.declared.fault.Refusal.{Refusal}
use Rattle.ja_grammar.specs.declared.part.ExpressionPart.TheVariants as of_expression
use Rattle.ja_grammar.specs.declared.part.StatementPart.TheVariants as part
use Rattle.ja_grammar.specs.Contexts.{Context, switch_context}
use Rattle.ja_grammar.specs.Forms.{ends_clause}
use Rattle.ja_grammar.specs.Input.{Tokens, head, next, behind, symbol, Outcome, Done, Refused, Parser, and_then, ◌>>=◌, ◌>>◌, pure, look, expect, after_turn, many_from, many, until, Rules, strict}
use Rattle.ja_grammar.specs.Productions.{At}
use Rattle.ja_grammar.specs.ReadExpression.{Below, is_close_brace}
use Rattle.ja_grammar.specs.ReadStatement.{Clauses, inner, block, bracketed, clause, case, default, with_case, with_default, default_by, clause_by, cases, switch}
use Rattle.ja_grammar.proofs.Agree.{BelowTakes}
use Rattle.ja_grammar.proofs.Closing.{parenthesis_closes, colon_closes}
use Rattle.ja_grammar.proofs.Good.{Follow, Reason, Sample, GoodAt, Any, pure_good, bind_good, look_good, weaken_good}
use Rattle.ja_grammar.proofs.LabelNames.{switch_names}
use Rattle.ja_grammar.proofs.Levels.{EndsExpression, EndsStatement, AreNames}
use Rattle.ja_grammar.proofs.Opening.{opening_inverse}
use Rattle.ja_grammar.proofs.Outcomes.{end_is, done_value, expect_refused, refused_not_done}
use Rattle.ja_grammar.proofs.Roomier.{Roomier, token_sample, expected_sample, any_first, then_pure, expects, unexpected, closes_pure, opens, below_sample}
use Rattle.ja_grammar.proofs.SampleTokens.{open_brace, open_brace_is, open_brace_real, close_parenthesis, close_parenthesis_is, close_parenthesis_real, close_brace, close_brace_is, close_brace_real, colon, colon_is, colon_real}
use Rattle.ja_grammar.proofs.Shrinks.{value_leaves}
use Rattle.ja_grammar.proofs.StatementSamples.{brace_ends, block_sample, bracketed_sample, opened_sample}
use Rattle.ja_grammar.proofs.StatementTakes.{case_takes, default_takes}
use Rattle.ja_grammar.proofs.Steps.{pure_sample, bind_sample, end_sample}
use Rattle.ja_grammar.proofs.Strict.{room_strict}
use Rattle.ja_grammar.proofs.Taken.{token_good}
use Rattle.ja_grammar.proofs.Turns.{Turns, OfSome, many_good, many_end}
use Rattle.ja_grammar.proofs.Until.{until_good, until_sample}

-- an expression that is followed by a parenthesis
pub parenthesis_follows : (tail : Tokens) → EndsExpression (close_parenthesis ∷ tail)
parenthesis_follows tail = parenthesis_closes (symbol close_parenthesis) close_parenthesis_is

-- what is read of the clauses so far, where the text ends: it is missed behind them
module _ (g : Rules) (b : Below) (c : Context) where
  abbrev clause_turn : Clauses → Parser (Option Clauses)
  clause_turn cs = look (λ t. clause_by g b c cs (symbol t))

  abbrev last_by : Clauses → Symbol → Parser (Option Clauses)
  last_by cs k.End = pure None
  last_by cs κ = clause_by g b c cs κ

  abbrev last_turn : Clauses → Parser (Option Clauses)
  last_turn cs = look (λ t. last_by cs (symbol t))

  abbrev closed_clauses : Clauses → Parser (List Case)
  closed_clauses cs = expect k.CloseBrace >> pure cs.found

  -- the two tests of the end agree
  last_from : (n : ℕ) (cs : Clauses) (i : Tokens)
      → and_then (many_from clause_turn n cs i) closed_clauses
      ≡ and_then (many_from last_turn n cs i) closed_clauses
  unfolding many_from
  last_from zero cs i = refl
  last_from (suc n) cs i = go (last_from n) (next i) refl
    where
      same : ((cs : Clauses) (i : Tokens) → and_then (many_from clause_turn n cs i) closed_clauses
          ≡ and_then (many_from last_turn n cs i) closed_clauses) → (o : Outcome (Option Clauses))
          → and_then (and_then o (after_turn cs (many_from clause_turn n))) closed_clauses
          ≡ and_then (and_then o (after_turn cs (many_from last_turn n))) closed_clauses
      same rest (Done None r) = refl
      same rest (Done (Some ds) r) = rest ds r
      same rest (Refused why r) = refl

      go : ((cs : Clauses) (i : Tokens) → and_then (many_from clause_turn n cs i) closed_clauses
          ≡ and_then (many_from last_turn n cs i) closed_clauses) → (κ : Symbol) → next i ≡ κ
          → and_then (and_then (clause_by g b c cs κ i) (after_turn cs (many_from clause_turn n)))
          closed_clauses
          ≡ and_then (and_then (last_by cs κ i) (after_turn cs (many_from last_turn n)))
          closed_clauses
      go rest k.End is =
          sym (ap (λ o. and_then o (λ _. pure cs.found))
          (expect_refused k.CloseBrace i (λ at. cc (is, at))))
      go rest κ is = same rest (clause_by g b c cs κ i)

  last_many : (cs : Clauses) → (many clause_turn cs >>= closed_clauses)
      ≡ (many last_turn cs >>= closed_clauses)
  last_many cs = λ n. λ i. last_from (length i) cs i n

-- no clause begins with a brace
turn_stops : (g : Rules) (b : Below) (c : Context) (cs : Clauses) (tail : Tokens)
    → next tail ≡ k.CloseBrace → last_turn g b c cs tail ≡ Done None tail
turn_stops g b c cs tail at = ap (λ κ. last_by g b c cs κ tail) at

module _ (g : Rules) (b : Below) (c : Context) (takes : BelowTakes b) where
  last_turns : Turns (last_turn g b c)
  last_turns =
      record {
        takes = λ cs i ds r e. go cs i ds r (next i) refl e;
        ends = λ cs. ap (λ κ. last_by g b c cs κ []) end_is;
      }
    where
      defaults : (cs : Clauses) (i : Tokens) (ds : Clauses) (r : Tokens) (a : Bool)
          → default_by g b c cs a i ≡ Done (Some ds) r → suc (length r) ≤ length i
      defaults cs i ds r true e = absurd (refused_not_done e)
      defaults cs i ds r false e = (value_leaves _ (default_takes g takes c i)).leaves (Some ds) r e

      go : (cs : Clauses) (i : Tokens) (ds : Clauses) (r : Tokens) (κ : Symbol) → next i ≡ κ
          → last_by g b c cs κ i ≡ Done (Some ds) r → suc (length r) ≤ length i
      go cs i ds r k.End is e = absurd (none_not_some (done_value e))
      go cs i ds r k.CloseBrace is e = absurd (none_not_some (done_value e))
      go cs i ds r k.Case is e = (value_leaves _ (case_takes g takes c i)).leaves (Some ds) r e
      go cs i ds r k.Default is e = defaults cs i ds r cs.defaulted e
      go cs i ds r _ is e = absurd (refused_not_done e)

module _ {U : Tokens} {O : Refusal} {J : Reason O} {d : ℕ} {g' : Rules} {b b' : Below}
    (h : Roomier J d g' b b') where
  -- tokens that complete
  pub brackets : Sample U (bracketed g' b') Any Any Any
  brackets = bracketed_sample g' b' h.some (below_sample h (of_expression.Whole false))

  pub braces : (c : Context) → Sample U (block g' b' c) Any Any Any
  braces c = block_sample g' b' h.some (below_sample h (of_expression.Whole false)) c

  -- statements up to a brace
  pub until_brace_good : (ends : Symbol → Bool) → ends k.End ≡ true → ends k.CloseBrace ≡ true
      → 0 < d → (c : Context) → AreNames U c → (i : Tokens)
      → GoodAt U J (until ends (inner (strict d) b c)) (until ends (inner g' b' c))
      (At k.CloseBrace) Any i
  until_brace_good ends last brace some c names i =
      until_good ends (inner (strict d) b c) (inner g' b' c) h.reasons.closed last
      (h.takes.statement c (part.Whole 0 false)) (h.takes_more.statement c (part.Whole 0 false))
      (λ i _. weaken_good i (λ tail at. brace_ends (next tail) at) (λ x w. w) (λ why w r j. j)
      ((h.good some).statement U c names (part.Whole 0 false) i))
      (λ tail at. ap ends at ∙ brace) i

  pub block_good : (c : Context) → AreNames U c → (i : Tokens)
      → GoodAt U J (block (strict d) b c) (block g' b' c) Any Any i
  unfolding block
  block_good c names i =
      bind_good i h.reasons.closed (opens h k.OpenBrace i (λ e. cc e) (λ e. cc e))
      (λ t r q. bind_good r h.reasons.closed
      (until_brace_good is_close_brace refl refl
      (room_strict d i (opening_inverse (strict d) k.OpenBrace i (λ e. cc e) q).0) c names r)
      (λ xs m _. closes_pure h k.CloseBrace xs tt m (λ e. cc e))
      (λ xs _. token_sample k.CloseBrace close_brace close_brace_is close_brace_real
      (λ tail. close_brace_is) xs tt))
      (λ t _. any_first (bind_sample (until_sample {F = At k.CloseBrace} is_close_brace
      (inner g' b' c) (λ tail at. ap is_close_brace at))
      (λ xs _. token_sample k.CloseBrace close_brace close_brace_is close_brace_real
      (λ tail. close_brace_is) xs tt)))

  pub bracketed_good : (i : Tokens) → GoodAt U J (bracketed (strict d) b) (bracketed g' b') Any Any
      i
  unfolding bracketed
  bracketed_good i =
      bind_good i h.reasons.closed (opens h k.OpenParenthesis i (λ e. cc e) (λ e. cc e))
      (λ t r q. bind_good r h.reasons.closed
      ((h.good (room_strict d i (opening_inverse (strict d) k.OpenParenthesis i (λ e. cc e)
      q).0)).expression U (of_expression.Whole false) r)
      (λ x m _. closes_pure h k.CloseParenthesis x tt m (λ e. cc e))
      (λ x _. token_sample k.CloseParenthesis close_parenthesis close_parenthesis_is
      close_parenthesis_real parenthesis_follows x tt))
      (λ t _. bind_sample (below_sample h (of_expression.Whole false))
      (λ x _. token_sample k.CloseParenthesis close_parenthesis close_parenthesis_is
      close_parenthesis_real parenthesis_follows x tt))

  -- ---- `switch`

  clause_good : 0 < d → (c : Context) → AreNames U c → (i : Tokens)
      → GoodAt U J (clause (strict d) b c) (clause g' b' c) (At k.CloseBrace) Any i
  unfolding clause ends_clause
  clause_good some c names i =
      bind_good i h.reasons.closed (expects h k.Colon i (λ e. cc e))
      (λ t r _. until_brace_good ends_clause refl refl some c names r)
      (λ t _. any_first (until_sample {F = At k.CloseBrace} ends_clause (inner g' b' c)
      (λ tail at. ap ends_clause at)))

  -- a colon
  clause_sample : {F : Follow} → ((tail : Tokens) → F (colon ∷ tail)) → (c : Context)
      → Sample U (clause g' b' c) F (At k.CloseBrace) Any
  unfolding clause ends_clause
  clause_sample starts c =
      expected_sample {G = At k.CloseBrace} (λ _. until ends_clause (inner g' b' c)) k.Colon colon
      colon_is colon_real starts
      (until_sample {F = At k.CloseBrace} ends_clause (inner g' b' c)
      (λ tail at. ap ends_clause at))

  case_good : 0 < d → (c : Context) → AreNames U c → (i : Tokens) → next i ≡ k.Case
      → GoodAt U J (case (strict d) b c) (case g' b' c) (At k.CloseBrace) Any i
  unfolding case
  case_good some c names i is =
      token_good (rest (strict d) b) (rest g' b') i h.reasons.closed (λ ends. cc (is, ends))
      (bind_good (behind i) h.reasons.closed
      ((h.good some).expression U (of_expression.Whole false) (behind i))
      (λ x m _. bind_good m h.reasons.closed (clause_good some c names m)
      (λ xs l _. pure_good J (At k.CloseBrace) Any _ l) (λ xs _. pure_sample _ tt))
      (λ x _. behind_it x))
      (bind_sample (below_sample h (of_expression.Whole false)) (λ x _. behind_it x))
    where
      made : Expression → List Statement → Case
      made x xs = roll-Case (record { test = Some x; body = xs; place = (head i).place })

      rest : (g : Rules) (b : Below) → Token → Parser Case
      rest g b t =
          b.expression (of_expression.Whole false) >>=
          (λ x. clause g b c >>= (λ xs. pure (roll-Case
          (record { test = Some x; body = xs; place = t.place }))))

      behind_it : (x : Expression) → Sample U (clause g' b' c >>= (λ xs. pure (made x xs)))
          EndsExpression (At k.CloseBrace) Any
      behind_it x =
          then_pure (made x) (clause_sample (λ tail. colon_closes (symbol colon) colon_is) c)

  default_good : 0 < d → (c : Context) → AreNames U c → (i : Tokens) → next i ≡ k.Default
      → GoodAt U J (default (strict d) b c) (default g' b' c) (At k.CloseBrace) Any i
  unfolding default
  default_good some c names i is =
      token_good (rest (strict d) b) (rest g' b') i h.reasons.closed (λ ends. cc (is, ends))
      (bind_good (behind i) h.reasons.closed (clause_good some c names (behind i))
      (λ xs l _. pure_good J (At k.CloseBrace) Any _ l) (λ xs _. pure_sample _ tt))
      (then_pure made (clause_sample {F = Any} (λ tail. tt) c))
    where
      made : List Statement → Case
      made xs = roll-Case (record { test = None; body = xs; place = (head i).place })

      rest : (g : Rules) (b : Below) → Token → Parser Case
      rest g b t =
          clause g b c >>= (λ xs. pure (roll-Case
          (record { test = None; body = xs; place = t.place })))

  turn_good : 0 < d → (c : Context) → AreNames U c → (cs : Clauses) (i : Tokens)
      → GoodAt U J (last_turn (strict d) b c cs) (last_turn g' b' c cs) (At k.CloseBrace)
      (OfSome Any) i
  turn_good some c names cs i =
      look_good (λ t. last_by (strict d) b c cs (symbol t)) (λ t. last_by g' b' c cs (symbol t)) i
      (go (next i) refl)
    where
      defaults : (a : Bool) → next i ≡ k.Default
          → GoodAt U J (default_by (strict d) b c cs a) (default_by g' b' c cs a) (At k.CloseBrace)
          (OfSome Any) i
      defaults true is = unexpected h (At k.CloseBrace) (OfSome Any) i
      defaults false is =
          bind_good i h.reasons.closed (default_good some c names i is)
          (λ x r _. pure_good J (At k.CloseBrace) (OfSome Any)
          (Some (with_default (strict d) b cs x)) r) (λ x _. pure_sample _ tt)

      go : (κ : Symbol) → next i ≡ κ → GoodAt U J (last_by (strict d) b c cs κ)
          (last_by g' b' c cs κ) (At k.CloseBrace) (OfSome Any) i
      go k.End is = pure_good J (At k.CloseBrace) (OfSome Any) None i
      go k.CloseBrace is = pure_good J (At k.CloseBrace) (OfSome Any) None i
      go k.Case is =
          bind_good i h.reasons.closed (case_good some c names i is)
          (λ x r _. pure_good J (At k.CloseBrace) (OfSome Any) (Some (with_case (strict d) b cs x))
          r) (λ x _. pure_sample _ tt)
      go k.Default is = defaults cs.defaulted is
      go _ is = unexpected h (At k.CloseBrace) (OfSome Any) i

  -- the clauses, and a brace
  clauses_good : 0 < d → (c : Context) → AreNames U c → (cs : Clauses) (i : Tokens)
      → GoodAt U J (many (clause_turn (strict d) b c) cs >>= closed_clauses (strict d) b c)
      (many (clause_turn g' b' c) cs >>= closed_clauses g' b' c) Any Any i
  clauses_good some c names cs i =
      subst (λ p. GoodAt U J p (many (clause_turn g' b' c) cs >>= closed_clauses g' b' c) Any Any i)
      (sym (last_many (strict d) b c cs))
      (subst (λ q. GoodAt U J (many (last_turn (strict d) b c) cs >>= closed_clauses (strict d) b c)
      q Any Any i) (sym (last_many g' b' c cs))
      (bind_good i h.reasons.closed
      (many_good {W = Any} (last_turn (strict d) b c) (last_turn g' b' c) h.reasons.closed
      (last_turns (strict d) b c h.takes) (last_turns g' b' c h.takes_more)
      (turn_good some c names) (turn_stops g' b' c) cs i)
      (λ ds m _. closes_pure h k.CloseBrace ds.found tt m (λ e. cc e))
      (λ ds _. token_sample k.CloseBrace close_brace close_brace_is close_brace_real
      (λ tail. close_brace_is) ds.found tt)))

  -- a brace
  clauses_sample : (c : Context) (cs : Clauses)
      → Sample U (many (clause_turn g' b' c) cs >>= closed_clauses g' b' c) Any Any Any
  clauses_sample c cs =
      any_first (bind_sample {F = At k.CloseBrace} {V = Any}
      (end_sample cs tt (λ tail at. at) (λ tail at.
      many_end (clause_turn g' b' c) cs tail (ap (λ κ. clause_by g' b' c cs κ tail) at)))
      (λ ds _. token_sample k.CloseBrace close_brace close_brace_is close_brace_real
      (λ tail. close_brace_is) ds.found tt))

  cases_good : (c : Context) → AreNames U c → (i : Tokens)
      → GoodAt U J (cases (strict d) b c) (cases g' b' c) Any Any i
  unfolding cases
  cases_good c names i =
      bind_good i h.reasons.closed (opens h k.OpenBrace i (λ e. cc e) (λ e. cc e))
      (λ t r q. clauses_good (room_strict d i
      (opening_inverse (strict d) k.OpenBrace i (λ e. cc e) q).0) c names
      (record { defaulted = false; found = [] }) r)
      (λ t _. clauses_sample c (record { defaulted = false; found = [] }))

  cases_sample : (c : Context) → Sample U (cases g' b' c) Any Any Any
  unfolding cases
  cases_sample c =
      opened_sample g' h.some _ k.OpenBrace open_brace open_brace_is open_brace_real
      (clauses_sample c (record { defaulted = false; found = [] }))

  pub switch_good : (c : Context) → AreNames U c → (i : Tokens) → next i ≡ k.Switch
      → GoodAt U J (switch (strict d) b c) (switch g' b' c) EndsStatement Any i
  unfolding switch
  switch_good c names i is =
      token_good (rest (strict d) b) (rest g' b') i h.reasons.closed (λ ends. cc (is, ends))
      (bind_good (behind i) h.reasons.closed (bracketed_good (behind i))
      (λ x m _. bind_good m h.reasons.closed
      (cases_good (switch_context c) (switch_names c names) m)
      (λ cs l _. pure_good J EndsStatement Any (s.Switch x cs (head i).place) l)
      (λ cs _. end_sample (s.Switch x cs (head i).place) tt (λ tail _. tt) (λ tail _. refl)))
      (λ x _. behind_it x))
      (bind_sample brackets (λ x _. behind_it x))
    where
      rest : (g : Rules) (b : Below) → Token → Parser Statement
      rest g b t =
          bracketed g b >>= (λ x. cases g b (switch_context c) >>=
          (λ cs. pure (s.Switch x cs t.place)))

      behind_it : (x : Expression) → Sample U
          (cases g' b' (switch_context c) >>= (λ cs. pure (s.Switch x cs (head i).place))) Any
          EndsStatement Any
      behind_it x =
          bind_sample (cases_sample (switch_context c))
          (λ cs _. end_sample (s.Switch x cs (head i).place) tt (λ tail _. tt) (λ tail _. refl))
