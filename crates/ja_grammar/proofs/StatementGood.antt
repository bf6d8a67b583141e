-- The place law of each part of a statement (12.5, 12.6).
use Rattle.std.proofs.Common.{◌≡◌, ◌≢◌, ℕ, ◌<◌, Bool, true, false, List, [], ◌∷◌, ◌++◌, Option, Some, None, refl, sym, ap, ◌∙◌}
use Rattle.ja_base.specs.declared.ids.Place.{Place}
use Rattle.ja_lex.specs.declared.token.Token.{Token}
use Rattle.ja_syntax.specs.declared.symbol.Symbol.{Symbol}
use Rattle.ja_syntax.specs.declared.symbol.Symbol.TheVariants as k
use Rattle.ja_syntax.specs.declared.tree.Declaration.{Declaration}
use Rattle.ja_syntax.specs.declared.tree.Expression.{Expression}
use Rattle.ja_syntax.specs.declared.tree.ForFirst.{ForFirst}
use Rattle.ja_syntax.specs.declared.tree.ForFirst.TheVariants as first
use Rattle.ja_syntax.specs.declared.tree.ForTarget.{ForTarget}
use Rattle.ja_syntax.specs.declared.tree.ForTarget.TheVariants as target
use Rattle.ja_syntax.specs.declared.tree.Statement.{Statement}
use Rattle.ja_syntax.specs.declared.tree.Statement.TheVariants as s
use Rattle.ja_syntax.specs.References.{is_reference}
use Rattle.ja_syntax.specs.Symbols.{same_symbol}
use Rattle.ja_grammar.specs.declared.fault.Refusal.{Refusal}
use Rattle.ja_grammar.specs.declared.part.ExpressionPart.TheVariants as of_expression
use Rattle.ja_grammar.specs.declared.part.StatementPart.{StatementPart}
use Rattle.ja_grammar.specs.declared.part.StatementPart.TheVariants as part
use Rattle.ja_grammar.specs.Contexts.{Context, loop_context}
use Rattle.ja_grammar.specs.Input.{Tokens, next, behind, symbol, Parser, ◌>>=◌, ◌>>◌, pure, look, expect, separated, Rules, strict}
use Rattle.ja_grammar.specs.Productions.{Is}
use Rattle.ja_grammar.specs.ReadExpression.{Below}
use Rattle.ja_grammar.specs.ReadStatement.{variable, single, else_by, if_part, do_part, while_part, optional_by, optional, for_rest, in_rest, for_variables_by, for_variables, in_reference_by, for_expression_by, for_expression, for_by, for_part, statement_part}
use Rattle.ja_grammar.proofs.Real.{IsRealAfter}
use Rattle.ja_grammar.proofs.BlockGood.{brackets, bracketed_good, parenthesis_follows}
use Rattle.ja_grammar.proofs.Good.{Reason, Sample, GoodAt, Any, pure_good, bind_good, look_good}
use Rattle.ja_grammar.proofs.JumpGood.{semicolon_goes, ended_then_good, statement_sample}
use Rattle.ja_grammar.proofs.LabelNames.{loop_names}
use Rattle.ja_grammar.proofs.Levels.{EndsExpression, EndsStatement, AreNames}
use Rattle.ja_grammar.proofs.Opening.{opening_inverse}
use Rattle.ja_grammar.proofs.Outcomes.{same_symbol_true, bind_done, expect_done}
use Rattle.ja_grammar.proofs.Roomier.{Roomier, token_sample, expected_sample, then_pure, enters, lower, expects, unexpected, takes_pure, closes_pure, opens, below_sample}
use Rattle.ja_grammar.proofs.SampleTokens.{semicolon, semicolon_is, semicolon_real, close_parenthesis, close_parenthesis_is, close_parenthesis_real}
use Rattle.ja_grammar.proofs.SingleGood.{declarations_good, declarations_sample, single_good}
use Rattle.ja_grammar.proofs.StatementSamples.{any_after, ended_then_sample, else_sample, optional_sample, single_sample, while_sample, for_rest_sample, for_sample}
use Rattle.ja_grammar.proofs.Steps.{pure_sample, bind_sample}
use Rattle.ja_grammar.proofs.Strict.{room_strict}
use Rattle.ja_grammar.proofs.Taken.{token_good}

module _ {U : Tokens} {O : Refusal} {J : Reason O} {d : ℕ} {g' : Rules} {b b' : Below}
    (h : Roomier J d g' b b') where
  -- ---- `if`, `do` and `while`

  else_good : (c : Context) → AreNames U c
      → (place : Place) (x : Expression) (y : Statement) (i : Tokens)
      → GoodAt U J (look (λ t. else_by (strict d) b c place x y (symbol t)))
      (look (λ t. else_by g' b' c place x y (symbol t))) EndsStatement Any i
  else_good c names place x y i =
      look_good (λ t. else_by (strict d) b c place x y (symbol t))
      (λ t. else_by g' b' c place x y (symbol t)) i (go (next i) refl)
    where
      go : (κ : Symbol) → next i ≡ κ → GoodAt U J (else_by (strict d) b c place x y κ)
          (else_by g' b' c place x y κ) EndsStatement Any i
      go k.Else is =
          bind_good i h.reasons.closed (enters h i (λ ends. cc (is, ends))
          (λ colon. cc (is, colon)))
          (λ t r q. bind_good r h.reasons.closed
          ((lower h i q).statement U c names (part.Whole 0 false) r)
          (λ z m _. pure_good J EndsStatement Any (s.If x y (Some z) place) m)
          (λ z _. pure_sample (s.If x y (Some z) place) tt))
          (λ t _. bind_sample (statement_sample h c (part.Whole 0 false))
          (λ z _. pure_sample (s.If x y (Some z) place) tt))
      go _ is = pure_good J EndsStatement Any (s.If x y None place) i

  if_good : (c : Context) → AreNames U c → (place : Place) (i : Tokens)
      → GoodAt U J (if_part (strict d) b c place) (if_part g' b' c place) EndsStatement Any i
  unfolding if_part
  if_good c names place i = bind_good i h.reasons.closed (bracketed_good h i)
      (λ x m _. bind_good m h.reasons.closed (single_good h c names 0 false m)
      (λ y l _. else_good c names place x y l) (λ y _. else_sample g' b' c place x y))
      (λ x _. bind_sample (single_sample {H = EndsStatement} g' b' c 0 false)
      (λ y _. else_sample g' b' c place x y))

  do_good : (c : Context) → AreNames U c → (place : Place) (labels : ℕ) (i : Tokens)
      → GoodAt U J (do_part (strict d) b c place labels) (do_part g' b' c place labels)
      EndsStatement Any i
  unfolding do_part
  do_good c names place labels i =
      bind_good i h.reasons.closed (single_good h (loop_context c labels)
      (loop_names c labels names) 0 false i)
      (λ x m _. bind_good m h.reasons.closed (expects h k.While m (λ e. cc e))
      (λ t l _. bind_good l h.reasons.closed (bracketed_good h l)
      (λ y n _. ended_then_good h (s.Do x y place) n)
      (λ y _. ended_then_sample (s.Do x y place) (λ tail. tt)))
      (λ t _. bind_sample (brackets h) (λ y _. ended_then_sample (s.Do x y place) (λ tail. tt))))
      (λ x _. any_after (while_sample g' b' h.some (below_sample h (of_expression.Whole false))
      place x))

  while_good : (c : Context) → AreNames U c → (place : Place) (labels : ℕ) (i : Tokens)
      → GoodAt U J (while_part (strict d) b c place labels) (while_part g' b' c place labels)
      EndsStatement Any i
  unfolding while_part
  while_good c names place labels i = bind_good i h.reasons.closed (bracketed_good h i)
      (λ x m _. bind_good m h.reasons.closed
      (single_good h (loop_context c labels) (loop_names c labels names) 0 false m)
      (λ y l _. pure_good J EndsStatement Any (s.While x y place) l)
      (λ y _. pure_sample (s.While x y place) tt))
      (λ x _. then_pure (λ y. s.While x y place)
      (single_sample {H = EndsStatement} g' b' (loop_context c labels) 0 false))

  -- ---- `for`

  optional_good : 0 < d → (close : Symbol) → close ≢ k.End → (u : Token) → Is close u
      → IsRealAfter U u → ((tail : Tokens) → EndsExpression (u ∷ tail)) → (i : Tokens)
      → GoodAt U J (optional (strict d) b close) (optional g' b' close) Any Any i
  unfolding optional
  optional_good some close more u is real follows i =
      look_good (λ t. optional_by (strict d) b close (same_symbol (symbol t) close))
      (λ t. optional_by g' b' close (same_symbol (symbol t) close)) i
      (go (same_symbol (next i) close) refl)
    where
      go : (x : Bool) → same_symbol (next i) close ≡ x
          → GoodAt U J (optional_by (strict d) b close x) (optional_by g' b' close x) Any Any i
      go true e =
          takes_pure h None tt i (λ ends. more (sym (same_symbol_true (next i) close e) ∙ ends))
      go false e =
          bind_good i h.reasons.closed ((h.good some).expression U (of_expression.Whole false) i)
          (λ x m _. closes_pure h close (Some x) tt m more)
          (λ x _. token_sample close u is real follows (Some x) tt)

  for_rest_good : 0 < d → (c : Context) → AreNames U c
      → (place : Place) (x : ForFirst Expression) (i : Tokens)
      → GoodAt U J (for_rest (strict d) b c place x) (for_rest g' b' c place x) EndsStatement Any i
  unfolding for_rest
  for_rest_good some c names place x i =
      bind_good i h.reasons.closed (optional_good some k.Semicolon (λ e. cc e) semicolon
      semicolon_is semicolon_real semicolon_goes i)
      (λ y m _. bind_good m h.reasons.closed
      (optional_good some k.CloseParenthesis (λ e. cc e) close_parenthesis close_parenthesis_is
      close_parenthesis_real parenthesis_follows m)
      (λ z l _. bind_good l h.reasons.closed (single_good h c names 0 false l)
      (λ w n _. pure_good J EndsStatement Any (s.For x y z w place) n)
      (λ w _. pure_sample (s.For x y z w place) tt))
      (λ z _. body y z))
      (λ y _. bind_sample (optional_sample {H = Any} g' b' k.CloseParenthesis close_parenthesis
      close_parenthesis_is close_parenthesis_real) (λ z _. body y z))
    where
      body : (y z : Option Expression) → Sample U
          (single g' b' c 0 false >>= (λ w. pure (s.For x y z w place))) Any EndsStatement Any
      body y z =
          then_pure (λ w. s.For x y z w place) (single_sample {H = EndsStatement} g' b' c 0 false)

  -- a `;` and what follows it
  semicolon_good : 0 < d → (c : Context) → AreNames U c
      → (place : Place) (x : ForFirst Expression) (i : Tokens)
      → GoodAt U J (expect k.Semicolon >> for_rest (strict d) b c place x)
      (expect k.Semicolon >> for_rest g' b' c place x) EndsStatement Any i
  semicolon_good some c names place x i =
      bind_good i h.reasons.closed (expects h k.Semicolon i (λ e. cc e))
      (λ t r _. for_rest_good some c names place x r)
      (λ t _. any_after (for_rest_sample g' b' h.some (below_sample h (of_expression.Whole false)) c
      place x))

  in_rest_good : 0 < d → (c : Context) → AreNames U c
      → (place : Place) (x : ForTarget Expression) (i : Tokens) → next i ≡ k.In
      → GoodAt U J (in_rest (strict d) b c place x) (in_rest g' b' c place x) EndsStatement Any i
  unfolding in_rest
  in_rest_good some c names place x i is =
      token_good (λ _. rest (strict d) b) (λ _. rest g' b') i h.reasons.closed
      (λ ends. cc (is, ends))
      (bind_good (behind i) h.reasons.closed
      ((h.good some).expression U (of_expression.Whole false) (behind i))
      (λ y m _. bind_good m h.reasons.closed (expects h k.CloseParenthesis m (λ e. cc e))
      (λ u l _. bind_good l h.reasons.closed (single_good h c names 0 false l)
      (λ z n _. pure_good J EndsStatement Any (s.ForIn x y z place) n)
      (λ z _. pure_sample (s.ForIn x y z place) tt))
      (λ u _. body y))
      (λ y _. close y))
      (bind_sample (below_sample h (of_expression.Whole false)) (λ y _. close y))
    where
      rest : (g : Rules) (b : Below) → Parser Statement
      rest g b =
          b.expression (of_expression.Whole false) >>=
          (λ y. expect k.CloseParenthesis >>= (λ _.
          single g b c 0 false >>= (λ z. pure (s.ForIn x y z place))))

      body : (y : Expression) → Sample U (single g' b' c 0 false >>=
          (λ z. pure (s.ForIn x y z place))) Any EndsStatement Any
      body y =
          then_pure (λ z. s.ForIn x y z place) (single_sample {H = EndsStatement} g' b' c 0 false)

      close : (y : Expression) → Sample U (expect k.CloseParenthesis >>=
          (λ _. single g' b' c 0 false >>= (λ z. pure (s.ForIn x y z place)))) EndsExpression
          EndsStatement Any
      close y =
          expected_sample _ k.CloseParenthesis close_parenthesis close_parenthesis_is
          close_parenthesis_real parenthesis_follows (body y)

  -- behind the variables of a `for`
  variables_by_good : 0 < d → (c : Context) → AreNames U c
      → (place : Place) (xs : List (Declaration Expression)) (i : Tokens)
      → GoodAt U J (look (λ t. for_variables_by (strict d) b c place xs (symbol t)))
      (look (λ t. for_variables_by g' b' c place xs (symbol t))) EndsStatement Any i
  variables_by_good some c names place xs i =
      look_good (λ t. for_variables_by (strict d) b c place xs (symbol t))
      (λ t. for_variables_by g' b' c place xs (symbol t)) i (go xs (next i) refl)
    where
      go : (xs : List (Declaration Expression)) (κ : Symbol) → next i ≡ κ
          → GoodAt U J (for_variables_by (strict d) b c place xs κ)
          (for_variables_by g' b' c place xs κ) EndsStatement Any i
      go (x ∷ []) k.In is = in_rest_good some c names place (target.Variable x) i is
      go xs _ is = semicolon_good some c names place (first.Variables xs) i

  -- a `;` behind them
  variables_by_sample : (c : Context) (place : Place) (xs : List (Declaration Expression))
      → Sample U (look (λ t. for_variables_by g' b' c place xs (symbol t))) EndsExpression
      EndsStatement Any
  variables_by_sample c place xs = record {
    more = semicolon ∷ r.more;
    value = r.value;
    real = (semicolon_real, r.real);
    fits = tt;
    follows = λ tail _. semicolon_goes (r.more ++ tail);
    reads =
        λ tail _. ap (λ κ. for_variables_by g' b' c place xs κ (semicolon ∷ (r.more ++ tail)))
        semicolon_is ∙ ap (λ p. p (semicolon ∷ (r.more ++ tail))) (go xs)
        ∙ bind_done (expect k.Semicolon) _ (expect_done k.Semicolon semicolon (r.more ++ tail)
        semicolon_is) (r.reads tail tt);
  }
    where
      r : Sample U (for_rest g' b' c place (first.Variables xs)) Any Any Any
      r =
          for_rest_sample g' b' h.some (below_sample h (of_expression.Whole false)) c place
          (first.Variables xs)

      go : (xs : List (Declaration Expression))
          → for_variables_by g' b' c place xs k.Semicolon
          ≡ (expect k.Semicolon >> for_rest g' b' c place (first.Variables xs))
      go [] = refl
      go (x ∷ []) = refl
      go (x ∷ y ∷ ys) = refl

  variables_good : 0 < d → (c : Context) → AreNames U c → (place : Place) (i : Tokens)
      → next i ≡ k.Var → GoodAt U J (for_variables (strict d) b c place)
      (for_variables g' b' c place) EndsStatement Any i
  unfolding for_variables
  variables_good some c names place i is =
      token_good (λ _. rest (strict d) b) (λ _. rest g' b') i h.reasons.closed
      (λ ends. cc (is, ends))
      (bind_good (behind i) h.reasons.closed
      (declarations_good h (b.expression (of_expression.Assignment true))
      (b'.expression (of_expression.Assignment true))
      (h.takes.expression (of_expression.Assignment true))
      (h.takes_more.expression (of_expression.Assignment true))
      ((h.good some).expression U (of_expression.Assignment true))
      (below_sample h (of_expression.Assignment true)) (behind i))
      (λ xs m _. variables_by_good some c names place xs m)
      (λ xs _. variables_by_sample c place xs))
      (bind_sample (declarations_sample h (b'.expression (of_expression.Assignment true)))
      (λ xs _. variables_by_sample c place xs))
    where
      rest : (g : Rules) (b : Below) → Parser Statement
      rest g b =
          separated (variable g (b.expression (of_expression.Assignment true))) >>=
          (λ xs. look (λ t. for_variables_by g b c place xs (symbol t)))

  -- behind the expression of a `for`
  expression_by_good : 0 < d → (c : Context) → AreNames U c
      → (place : Place) (x : Expression) (i : Tokens)
      → GoodAt U J (look (λ t. for_expression_by (strict d) b c place x (symbol t)))
      (look (λ t. for_expression_by g' b' c place x (symbol t))) EndsStatement Any i
  expression_by_good some c names place x i =
      look_good (λ t. for_expression_by (strict d) b c place x (symbol t))
      (λ t. for_expression_by g' b' c place x (symbol t)) i (go (next i) refl)
    where
      references : (found : Bool) → next i ≡ k.In
          → GoodAt U J (in_reference_by (strict d) b c place x found)
          (in_reference_by g' b' c place x found) EndsStatement Any i
      references true is = in_rest_good some c names place (target.Reference x) i is
      references false is = unexpected h EndsStatement Any i

      go : (κ : Symbol) → next i ≡ κ → GoodAt U J (for_expression_by (strict d) b c place x κ)
          (for_expression_by g' b' c place x κ) EndsStatement Any i
      go k.In is = references (is_reference x) is
      go _ is = semicolon_good some c names place (first.Expression x) i

  expression_by_sample : (c : Context) (place : Place) (x : Expression)
      → Sample U (look (λ t. for_expression_by g' b' c place x (symbol t))) EndsExpression
      EndsStatement Any
  expression_by_sample c place x = record {
    more = semicolon ∷ r.more;
    value = r.value;
    real = (semicolon_real, r.real);
    fits = tt;
    follows = λ tail _. semicolon_goes (r.more ++ tail);
    reads =
        λ tail _. ap (λ κ. for_expression_by g' b' c place x κ (semicolon ∷ (r.more ++ tail)))
        semicolon_is
        ∙ bind_done (expect k.Semicolon) _ (expect_done k.Semicolon semicolon (r.more ++ tail)
        semicolon_is) (r.reads tail tt);
  }
    where
      r : Sample U (for_rest g' b' c place (first.Expression x)) Any Any Any
      r =
          for_rest_sample g' b' h.some (below_sample h (of_expression.Whole false)) c place
          (first.Expression x)

  expression_good : 0 < d → (c : Context) → AreNames U c → (place : Place) (i : Tokens)
      → GoodAt U J (for_expression (strict d) b c place) (for_expression g' b' c place)
      EndsStatement Any i
  unfolding for_expression
  expression_good some c names place i =
      bind_good i h.reasons.closed ((h.good some).expression U (of_expression.Whole true) i)
      (λ x m _. expression_by_good some c names place x m) (λ x _. expression_by_sample c place x)

  for_by_good : 0 < d → (c : Context) → AreNames U c → (place : Place) (i : Tokens)
      → GoodAt U J (look (λ t. for_by (strict d) b c place (symbol t)))
      (look (λ t. for_by g' b' c place (symbol t))) EndsStatement Any i
  for_by_good some c names place i =
      look_good (λ t. for_by (strict d) b c place (symbol t)) (λ t. for_by g' b' c place (symbol t))
      i (go (next i) refl)
    where
      go : (κ : Symbol) → next i ≡ κ → GoodAt U J (for_by (strict d) b c place κ)
          (for_by g' b' c place κ) EndsStatement Any i
      go k.Var is = variables_good some c names place i is
      go k.Semicolon is =
          token_good (λ _. for_rest (strict d) b c place first.Nothing)
          (λ _. for_rest g' b' c place first.Nothing) i h.reasons.closed (λ ends. cc (is, ends))
          (for_rest_good some c names place first.Nothing (behind i))
          (any_after (for_rest_sample g' b' h.some (below_sample h (of_expression.Whole false))
          c place first.Nothing))
      go _ is = expression_good some c names place i

  for_good : (c : Context) → AreNames U c → (place : Place) (labels : ℕ) (i : Tokens)
      → GoodAt U J (for_part (strict d) b c place labels) (for_part g' b' c place labels)
      EndsStatement Any i
  unfolding for_part
  for_good c names place labels i =
      bind_good i h.reasons.closed (opens h k.OpenParenthesis i (λ e. cc e) (λ e. cc e))
      (λ t r q. for_by_good (room_strict d i
      (opening_inverse (strict d) k.OpenParenthesis i (λ e. cc e) q).0) (loop_context c labels)
      (loop_names c labels names) place r)
      (λ t _. any_after (for_sample g' b' h.some (below_sample h (of_expression.Whole false))
      (loop_context c labels) place))

  -- ---- each part

  pub statement_part_good : (c : Context) → AreNames U c → (p : StatementPart) (i : Tokens)
      → GoodAt U J (statement_part (strict d) b c p) (statement_part g' b' c p) EndsStatement Any i
  unfolding statement_part
  statement_part_good c names (part.Whole labels outermost) i =
      single_good h c names labels outermost i
  statement_part_good c names (part.If place) i = if_good c names place i
  statement_part_good c names (part.Do place labels) i = do_good c names place labels i
  statement_part_good c names (part.While place labels) i = while_good c names place labels i
  statement_part_good c names (part.For place labels) i = for_good c names place labels i
