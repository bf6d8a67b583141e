-- The place laws of `try` (12.14).
use Rattle.std.proofs.Common.{◌≡◌, ◌≢◌, ℕ, List, ◌∷◌, ◌++◌, Some, None, refl, ap, ◌∙◌}
use Rattle.ja_lex.specs.declared.token.Token.{Token}
use Rattle.ja_syntax.specs.declared.symbol.Symbol.{Symbol}
use Rattle.ja_syntax.specs.declared.symbol.Symbol.TheVariants as k
use Rattle.ja_syntax.specs.declared.tree.CatchOf.{CatchOf}
use Rattle.ja_syntax.specs.declared.tree.Name.{Name}
use Rattle.ja_syntax.specs.declared.tree.Statement.{Statement}
use Rattle.ja_syntax.specs.declared.tree.Statement.TheVariants as s
use Rattle.ja_grammar.specs.declared.fault.Refusal.{Refusal}
use Rattle.ja_grammar.specs.Contexts.{Context}
use Rattle.ja_grammar.specs.Input.{Tokens, head, next, behind, symbol, Done, Parser, ◌>>=◌, pure, look, opening, expect, Rules, strict}
use Rattle.ja_grammar.specs.ReadExpression.{Below, declared}
use Rattle.ja_grammar.specs.ReadStatement.{block, catch, finally, finally_by, handlers_by, try}
use Rattle.ja_grammar.proofs.BlockGood.{braces, block_good}
use Rattle.ja_grammar.proofs.ExpressionSamples.{declared_sample}
use Rattle.ja_grammar.proofs.Good.{Reason, Sample, GoodAt, Any, pure_good, bind_good, look_good}
use Rattle.ja_grammar.proofs.Levels.{EndsStatement, AreNames}
use Rattle.ja_grammar.proofs.LiteralGood.{declared_good}
use Rattle.ja_grammar.proofs.Roomier.{Roomier, expected_sample, then_pure, expects, unexpected, opens}
use Rattle.ja_grammar.proofs.SampleTokens.{open_parenthesis, open_parenthesis_is, open_parenthesis_real, close_parenthesis, close_parenthesis_is, close_parenthesis_real, finally_word, finally_word_is, finally_word_real}
use Rattle.ja_grammar.proofs.StatementSamples.{ends_no_finally, opened_sample, pure_after}
use Rattle.ja_grammar.proofs.Steps.{pure_sample, bind_sample, end_sample}
use Rattle.ja_grammar.proofs.Taken.{token_good}

module _ {U : Tokens} {O : Refusal} {J : Reason O} {d : ℕ} {g' : Rules} {b b' : Below}
    (h : Roomier J d g' b b') where
  catch_good : (c : Context) → AreNames U c → (i : Tokens) → next i ≡ k.Catch
      → GoodAt U J (catch (strict d) b c) (catch g' b' c) Any Any i
  unfolding catch
  catch_good c names i is =
      token_good (λ _. rest (strict d) b) (λ _. rest g' b') i h.reasons.closed
      (λ ends. cc (is, ends))
      (bind_good (behind i) h.reasons.closed
      (opens h k.OpenParenthesis (behind i) (λ e. cc e) (λ e. cc e))
      (λ t r _. bind_good r h.reasons.closed (declared_good h r)
      (λ x m _. bind_good m h.reasons.closed (expects h k.CloseParenthesis m (λ e. cc e))
      (λ u l _. bind_good l h.reasons.closed (block_good h c names l)
      (λ xs n _. pure_good J Any Any (made x xs) n) (λ xs _. pure_sample (made x xs) tt))
      (λ u _. then_pure (made x) (braces h c)))
      (λ x _. close x))
      (λ t _. named))
      (opened_sample g' h.some _ k.OpenParenthesis open_parenthesis open_parenthesis_is
      open_parenthesis_real named)
    where
      made : Name → List Statement → CatchOf Statement
      made x xs = record { parameter = x; body = xs }

      rest : (g : Rules) (b : Below) → Parser (CatchOf Statement)
      rest g b =
          opening g k.OpenParenthesis >>= (λ _.
          declared g >>= (λ x. expect k.CloseParenthesis >>=
          (λ _. block g b c >>= (λ xs. pure (made x xs)))))

      close : (x : Name) → Sample U (expect k.CloseParenthesis >>=
          (λ _. block g' b' c >>= (λ xs. pure (made x xs)))) Any Any Any
      close x =
          expected_sample _ k.CloseParenthesis close_parenthesis close_parenthesis_is
          close_parenthesis_real (λ tail. tt) (then_pure (made x) (braces h c))

      named : Sample U (declared g' >>= (λ x.
          expect k.CloseParenthesis >>= (λ _. block g' b' c >>= (λ xs. pure (made x xs))))) Any Any
          Any
      named = bind_sample (declared_sample g') (λ x _. close x)

  finally_good : (c : Context) → AreNames U c → (i : Tokens) → next i ≡ k.Finally
      → GoodAt U J (finally (strict d) b c) (finally g' b' c) Any Any i
  unfolding finally
  finally_good c names i is =
      token_good (λ _. block (strict d) b c) (λ _. block g' b' c) i h.reasons.closed
      (λ ends. cc (is, ends)) (block_good h c names (behind i)) (braces h c)

  -- behind the block of a `try`: `finally`
  handlers_sample : (c : Context) (t : Token) (xs : List Statement)
      → Sample U (look (λ u. handlers_by g' b' c t xs (symbol u))) Any EndsStatement Any
  unfolding finally
  handlers_sample c t xs = record {
    more = finally_word ∷ rest.more;
    value = rest.value;
    real = (finally_word_real, rest.real);
    fits = tt;
    follows = λ tail _. tt;
    reads =
        λ tail _. ap (λ κ. handlers_by g' b' c t xs κ (finally_word ∷ (rest.more ++ tail)))
        finally_word_is ∙ rest.reads tail tt;
  }
    where
      rest : Sample U (block g' b' c >>= (λ ys. pure (s.Try xs None (Some ys) t.place))) Any Any Any
      rest = then_pure (λ ys. s.Try xs None (Some ys) t.place) (braces h c)

  finally_by_good : (c : Context) → AreNames U c
      → (t : Token) (xs : List Statement) (x : CatchOf Statement) (i : Tokens)
      → GoodAt U J (look (λ u. finally_by (strict d) b c t xs x (symbol u)))
      (look (λ u. finally_by g' b' c t xs x (symbol u))) EndsStatement Any i
  finally_by_good c names t xs x i =
      look_good (λ u. finally_by (strict d) b c t xs x (symbol u))
      (λ u. finally_by g' b' c t xs x (symbol u)) i (go (next i) refl)
    where
      go : (κ : Symbol) → next i ≡ κ → GoodAt U J (finally_by (strict d) b c t xs x κ)
          (finally_by g' b' c t xs x κ) EndsStatement Any i
      go k.Finally is =
          bind_good i h.reasons.closed (finally_good c names i is)
          (λ ys m _. pure_good J EndsStatement Any (s.Try xs (Some x) (Some ys) t.place) m)
          (λ ys _. pure_after (s.Try xs (Some x) (Some ys) t.place))
      go _ is = pure_good J EndsStatement Any (s.Try xs (Some x) None t.place) i

  -- nothing is needed behind a `catch`
  no_finally : (c : Context) (t : Token) (xs : List Statement) (x : CatchOf Statement)
      → Sample U (look (λ u. finally_by g' b' c t xs x (symbol u))) Any EndsStatement Any
  no_finally c t xs x =
      end_sample (s.Try xs (Some x) None t.place) tt (λ tail _. tt)
      (λ tail ends. go tail (next tail) (ends_no_finally (next tail) ends))
    where
      go : (tail : Tokens) (κ : Symbol) → κ ≢ k.Finally
          → finally_by g' b' c t xs x κ tail ≡ Done (s.Try xs (Some x) None t.place) tail
      go tail k.Finally other = absurd (other refl)
      go tail _ other = refl

  handlers_good : (c : Context) → AreNames U c → (t : Token) (xs : List Statement) (i : Tokens)
      → GoodAt U J (look (λ u. handlers_by (strict d) b c t xs (symbol u)))
      (look (λ u. handlers_by g' b' c t xs (symbol u))) EndsStatement Any i
  handlers_good c names t xs i =
      look_good (λ u. handlers_by (strict d) b c t xs (symbol u))
      (λ u. handlers_by g' b' c t xs (symbol u)) i (go (next i) refl)
    where
      go : (κ : Symbol) → next i ≡ κ → GoodAt U J (handlers_by (strict d) b c t xs κ)
          (handlers_by g' b' c t xs κ) EndsStatement Any i
      go k.Catch is =
          bind_good i h.reasons.closed (catch_good c names i is)
          (λ x m _. finally_by_good c names t xs x m) (λ x _. no_finally c t xs x)
      go k.Finally is =
          bind_good i h.reasons.closed (finally_good c names i is)
          (λ ys m _. pure_good J EndsStatement Any (s.Try xs None (Some ys) t.place) m)
          (λ ys _. pure_after (s.Try xs None (Some ys) t.place))
      go _ is = unexpected h EndsStatement Any i

  pub try_good : (c : Context) → AreNames U c → (i : Tokens) → next i ≡ k.Try
      → GoodAt U J (try (strict d) b c) (try g' b' c) EndsStatement Any i
  unfolding try
  try_good c names i is =
      token_good (rest (strict d) b) (rest g' b') i h.reasons.closed (λ ends. cc (is, ends))
      (bind_good (behind i) h.reasons.closed (block_good h c names (behind i))
      (λ xs m _. handlers_good c names (head i) xs m) (λ xs _. handlers_sample c (head i) xs))
      (bind_sample (braces h c) (λ xs _. handlers_sample c (head i) xs))
    where
      rest : (g : Rules) (b : Below) → Token → Parser Statement
      rest g b t = block g b c >>= (λ xs. look (λ u. handlers_by g b c t xs (symbol u)))
