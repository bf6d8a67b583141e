-- The place laws of names, functions, literals and primary expressions (11.1, 13).
use Rattle.std.proofs.Common.{◌≡◌, ◌≢◌, ℕ, ◌<◌, Bool, true, false, List, [], ◌∷◌, ◌++◌, Option, Some, None, refl, ap, ◌∙◌}
use Rattle.ja_prim.specs.declared.primitive.Primitive.{Primitive}
use Rattle.ja_lex.specs.declared.token.Token.{Token}
use Rattle.ja_syntax.specs.declared.symbol.Symbol.{Symbol}
use Rattle.ja_syntax.specs.declared.symbol.Symbol.TheVariants as k
use Rattle.ja_syntax.specs.declared.tree.Expression.{Expression}
use Rattle.ja_syntax.specs.declared.tree.Expression.TheVariants as e
use Rattle.ja_syntax.specs.declared.tree.Name.{Name}
use Rattle.ja_syntax.specs.declared.tree.Property.{Property}
use Rattle.ja_syntax.specs.declared.tree.PropertyName.{PropertyName}
use Rattle.ja_syntax.specs.declared.tree.PropertyName.TheVariants as property
use Rattle.ja_syntax.specs.Symbols.{is_arguments}
use Rattle.ja_grammar.specs.declared.fault.Refusal.{Refusal}
use Rattle.ja_grammar.specs.declared.fault.Refusal.TheVariants.{Unexpected, RegExp, Arguments}
use Rattle.ja_grammar.specs.declared.part.ExpressionPart.TheVariants as part
use Rattle.ja_grammar.specs.declared.part.StatementPart.TheVariants as of_statement
use Rattle.ja_grammar.specs.Contexts.{function_context}
use Rattle.ja_grammar.specs.Forms.{word, name_of, literal_of, property_name, property_name_by}
use Rattle.ja_grammar.specs.Input.{Tokens, head, next, symbol, Parser, and_then, ◌>>=◌, ◌>>◌, pure, take_token, until, expect, Rules, strict}
use Rattle.ja_grammar.specs.Productions.{At}
use Rattle.ja_grammar.specs.ReadExpression.{Below, declared, declared_by, declared_name, function_name, function_name_by, is_close_brace, is_close_bracket, element, element_by, element_close, element_close_by, property, property_by, function_body, parameters, function, array, object, parenthesized, literal, literal_by, regular_expression, primary, primary_by}
use Rattle.ja_grammar.proofs.Closing.{bracket_closes, brace_closes, parenthesis_closes, literal_more, property_more}
use Rattle.ja_grammar.proofs.ExpressionSamples.{declared_reads, declared_sample}
use Rattle.ja_grammar.proofs.ExpressionTakes.{declared_takes, element_takes, property_takes}
use Rattle.ja_grammar.proofs.Good.{Reason, Sample, GoodAt, Any, pure_good, bind_good, look_good, weaken_good}
use Rattle.ja_grammar.proofs.Levels.{EndsExpression, EndsStatement, ends_block}
use Rattle.ja_grammar.proofs.Lists.{listed_good, listed_sample}
use Rattle.ja_grammar.proofs.Opening.{opening_inverse}
use Rattle.ja_grammar.proofs.Outcomes.{entered}
use Rattle.ja_grammar.proofs.Roomier.{Roomier, token_sample, expected_sample, any_first, then_pure, enters, lower, expects, takes_one, unexpected, takes_pure, closes_pure, opens, opens_sample, below_sample}
use Rattle.ja_grammar.proofs.SampleTokens.{name, name_is, name_real, open_parenthesis, open_parenthesis_is, open_parenthesis_real, close_parenthesis, close_parenthesis_is, close_parenthesis_real, open_brace, open_brace_is, open_brace_real, close_brace, close_brace_is, close_brace_real, close_bracket, close_bracket_is, close_bracket_real, colon, colon_is, colon_real}
use Rattle.ja_grammar.proofs.Steps.{pure_sample, bind_sample, end_sample, unless_good}
use Rattle.ja_grammar.proofs.Strict.{room_strict}
use Rattle.ja_grammar.proofs.Until.{until_good, until_sample}

-- the name of a sample property
property_name_is : property_name name ≡ Some (property.Word (word name))
unfolding property_name
property_name_is = ap (λ κ. property_name_by κ name) name_is

-- a property of an object literal
abbrev property_of : PropertyName → Token → Expression → Property Expression
property_of x t v = record { name = x; value = v; place = t.place }

pub brace_ends_statement : (tail : Tokens) → At k.CloseBrace tail → EndsStatement tail
unfolding ends_block
brace_ends_statement tail at = ap ends_block at

module _ {U : Tokens} {O : Refusal} {J : Reason O} {d : ℕ} {g' : Rules} {b b' : Below}
    (h : Roomier J d g' b b') where
  -- ---- names

  pub declared_good : (i : Tokens) → GoodAt U J (declared (strict d)) (declared g') Any Any i
  unfolding declared
  declared_good i =
      look_good (λ t. declared_by (strict d) t (symbol t)) (λ t. declared_by g' t (symbol t)) i
      (go (next i) refl)
    where
      take_name : Parser Name
      take_name = take_token >> pure (name_of (head i))

      named : (found : Bool) → next i ≡ k.Name
          → GoodAt U J (declared_name (strict d) (head i) found) (declared_name g' (head i) found)
          Any Any i
      named true is =
          unless_good J Any Any d g' Arguments take_name take_name i refl (h.asks Arguments refl)
          (h.reasons.free Arguments [] i refl)
          (λ _. (head i ∷ [], name_of (head i), tt, λ tail ends. (refl, refl), tt))
      named false is = takes_pure h (name_of (head i)) tt i (λ ends. cc (is, ends))

      go : (κ : Symbol) → next i ≡ κ → GoodAt U J (declared_by (strict d) (head i) κ)
          (declared_by g' (head i) κ) Any Any i
      go k.Name is = named (is_arguments (head i).kind) is
      go _ is = unexpected h Any Any i

  pub function_name_good : (required : Bool) (i : Tokens)
      → GoodAt U J (function_name (strict d) required) (function_name g' required) Any Any i
  unfolding function_name
  function_name_good required i =
      look_good (λ t. function_name_by (strict d) required (symbol t))
      (λ t. function_name_by g' required (symbol t)) i (go required (next i))
    where
      go : (required : Bool) (κ : Symbol) → GoodAt U J (function_name_by (strict d) required κ)
          (function_name_by g' required κ) Any Any i
      go required k.Name =
          bind_good i h.reasons.closed (declared_good i) (λ x r _. pure_good J Any Any (Some x) r)
          (λ x _. pure_sample (Some x) tt)
      go true _ = unexpected h Any Any i
      go false _ = pure_good J Any Any None i

  pub function_name_sample : (required : Bool) → Sample U (function_name g' required) Any Any Any
  unfolding function_name
  function_name_sample required = record {
    more = name ∷ [];
    value = Some (name_of name);
    real = (name_real, tt);
    fits = tt;
    follows = λ tail _. tt;
    reads =
        λ tail _. ap (λ κ. function_name_by g' required κ (name ∷ tail)) name_is
        ∙ ap (λ o. and_then o (λ x. pure (Some x))) (declared_reads g' tail);
  }

  -- ---- functions

  pub parameters_good : (i : Tokens) → GoodAt U J (parameters (strict d) b) (parameters g' b') Any
      Any i
  unfolding parameters
  parameters_good i =
      bind_good i h.reasons.closed (opens h k.OpenParenthesis i (λ e. cc e) (λ e. cc e))
      (λ t r _. listed_good {F = Any} {W = Any} k.CloseParenthesis (declared (strict d))
      (declared g') (λ e. cc e) (λ e. cc e) h.reasons.closed (declared_takes (strict d))
      (declared_takes g')
      declared_good (declared_sample g') (λ tail at. tt) close_parenthesis close_parenthesis_is
      close_parenthesis_real (λ r _. h.reasons.free Unexpected [] r refl) r)
      (λ t _. listed_sample k.CloseParenthesis (declared g') close_parenthesis close_parenthesis_is
      close_parenthesis_real tt (λ tail _. tt))

  pub parameters_sample : Sample U (parameters g' b') Any Any Any
  unfolding parameters
  parameters_sample =
      opens_sample h _ k.OpenParenthesis open_parenthesis open_parenthesis_is open_parenthesis_real
      (λ tail. tt)
      (listed_sample {F = Any} {G = Any} k.CloseParenthesis (declared g') close_parenthesis
      close_parenthesis_is close_parenthesis_real tt (λ tail _. tt))

  pub function_body_good : (i : Tokens) → GoodAt U J (function_body (strict d) b)
      (function_body g' b') Any Any i
  unfolding function_body
  function_body_good i =
      bind_good i h.reasons.closed (opens h k.OpenBrace i (λ e. cc e) (λ e. cc e))
      (λ t r q. bind_good r h.reasons.closed
      (statements (room_strict d i (opening_inverse (strict d) k.OpenBrace i (λ e. cc e) q).0)
      r)
      (λ body m _. closes_pure h k.CloseBrace body tt m (λ e. cc e))
      (λ body _. token_sample k.CloseBrace close_brace close_brace_is close_brace_real
      (λ tail. close_brace_is) body tt))
      (λ t _. any_first (bind_sample (until_sample {F = At k.CloseBrace} is_close_brace
      (b'.statement function_context (of_statement.Whole 0 true))
      (λ tail at. ap is_close_brace at))
      (λ body _. token_sample k.CloseBrace close_brace close_brace_is close_brace_real
      (λ tail. close_brace_is) body tt)))
    where
      statements : 0 < d → (r : Tokens) → GoodAt U J
          (until is_close_brace (b.statement function_context (of_statement.Whole 0 true)))
          (until is_close_brace (b'.statement function_context (of_statement.Whole 0 true)))
          (At k.CloseBrace) Any r
      statements some r =
          until_good is_close_brace (b.statement function_context (of_statement.Whole 0 true))
          (b'.statement function_context (of_statement.Whole 0 true)) h.reasons.closed refl
          (h.takes.statement function_context (of_statement.Whole 0 true))
          (h.takes_more.statement function_context (of_statement.Whole 0 true))
          (λ i _. weaken_good i brace_ends_statement (λ x w. w) (λ why w r j. j)
          ((h.good some).statement U function_context (record { all = tt })
          (of_statement.Whole 0 true) i)) (λ tail at. ap is_close_brace at) r

  pub function_body_sample : Sample U (function_body g' b') Any Any Any
  unfolding function_body
  function_body_sample =
      opens_sample h _ k.OpenBrace open_brace open_brace_is open_brace_real (λ tail. tt)
      (bind_sample (until_sample {F = At k.CloseBrace} is_close_brace
      (b'.statement function_context (of_statement.Whole 0 true))
      (λ tail at. ap is_close_brace at))
      (λ body _. token_sample k.CloseBrace close_brace close_brace_is close_brace_real
      (λ tail. close_brace_is) body tt))

  pub function_good : (required : Bool) (i : Tokens)
      → GoodAt U J (function (strict d) b required) (function g' b' required) Any Any i
  unfolding function
  function_good required i = bind_good i h.reasons.closed (expects h k.Function i (λ e. cc e))
      (λ t r _. bind_good r h.reasons.closed (function_name_good required r)
      (λ x m _. bind_good m h.reasons.closed (parameters_good m)
      (λ xs n _. bind_good n h.reasons.closed (function_body_good n)
      (λ body o _. pure_good J Any Any _ o) (λ body _. pure_sample _ tt))
      (λ xs _. then_pure _ function_body_sample))
      (λ x _. bind_sample parameters_sample (λ xs _. then_pure _ function_body_sample)))
      (λ t _. bind_sample (function_name_sample required)
      (λ x _. bind_sample parameters_sample (λ xs _. then_pure _ function_body_sample)))

  -- ---- array and object literals

  element_close_good : (x : Expression) (i : Tokens)
      → GoodAt U J (element_close (strict d) b x) (element_close g' b' x) (At k.CloseBracket) Any i
  unfolding element_close
  element_close_good x i =
      look_good (λ t. element_close_by (strict d) b x (symbol t))
      (λ t. element_close_by g' b' x (symbol t)) i (go (next i) refl)
    where
      go : (κ : Symbol) → next i ≡ κ → GoodAt U J (element_close_by (strict d) b x κ)
          (element_close_by g' b' x κ) (At k.CloseBracket) Any i
      go k.Comma is = takes_pure h (Some x) tt i (λ ends. cc (is, ends))
      go k.CloseBracket is = pure_good J (At k.CloseBracket) Any (Some x) i
      go _ is = unexpected h (At k.CloseBracket) Any i

  element_close_sample : (x : Expression) → Sample U (element_close g' b' x) EndsExpression
      (At k.CloseBracket) Any
  unfolding element_close
  element_close_sample x =
      end_sample (Some x) tt (λ tail at. bracket_closes (next tail) at)
      (λ tail at. ap (λ κ. element_close_by g' b' x κ tail) at)

  pub element_good : 0 < d → (i : Tokens) → GoodAt U J (element (strict d) b) (element g' b')
      (At k.CloseBracket) Any i
  unfolding element
  element_good some i =
      look_good (λ t. element_by (strict d) b (symbol t)) (λ t. element_by g' b' (symbol t)) i
      (go (next i) refl)
    where
      go : (κ : Symbol) → next i ≡ κ → GoodAt U J (element_by (strict d) b κ) (element_by g' b' κ)
          (At k.CloseBracket) Any i
      go k.Comma is = takes_pure h None tt i (λ ends. cc (is, ends))
      go _ is =
          bind_good i h.reasons.closed ((h.good some).expression U (part.Assignment false) i)
          (λ x r _. element_close_good x r) (λ x _. element_close_sample x)

  pub array_good : (i : Tokens) → next i ≢ k.End → next i ≢ k.Colon
      → GoodAt U J (array (strict d) b) (array g' b') Any Any i
  unfolding array
  array_good i more other = bind_good i h.reasons.closed (enters h i more other)
      (λ t r q. bind_good r h.reasons.closed
      (until_good is_close_bracket (element (strict d) b) (element g' b') h.reasons.closed refl
      (element_takes (strict d) h.takes) (element_takes g' h.takes_more)
      (λ j _. element_good (room_strict d i (entered (strict d) i q)) j)
      (λ tail at. ap is_close_bracket at) r)
      (λ xs m _. closes_pure h k.CloseBracket (e.Array xs t.place) tt m (λ e. cc e))
      (λ xs _. rest t xs))
      (λ t _. any_first (bind_sample (until_sample {F = At k.CloseBracket} is_close_bracket
      (element g' b') (λ tail at. ap is_close_bracket at)) (λ xs _. rest t xs)))
    where
      rest : (t : Token) (xs : List (Option Expression))
          → Sample U (expect k.CloseBracket >> pure (e.Array xs t.place)) (At k.CloseBracket) Any
          Any
      rest t xs =
          token_sample k.CloseBracket close_bracket close_bracket_is close_bracket_real
          (λ tail. close_bracket_is) (e.Array xs t.place) tt

  pub property_good : 0 < d → (i : Tokens)
      → GoodAt U J (property (strict d) b) (property g' b') EndsExpression Any i
  unfolding property
  property_good some i =
      look_good (λ t. property_by (strict d) b t (property_name t))
      (λ t. property_by g' b' t (property_name t)) i (go (property_name (head i)) refl)
    where
      value : PropertyName → Parser (Property Expression)
      value x = b'.expression (part.Assignment false) >>= (λ v. pure (property_of x (head i) v))

      rest : (x : PropertyName) → Sample U (value x) Any EndsExpression Any
      rest x = then_pure (property_of x (head i)) (below_sample h (part.Assignment false))

      go : (found : Option PropertyName) → property_name (head i) ≡ found
          → GoodAt U J (property_by (strict d) b (head i) found) (property_by g' b' (head i) found)
          EndsExpression Any i
      go None is = unexpected h EndsExpression Any i
      go (Some x) is = bind_good i h.reasons.closed (takes_one h i (property_more (head i) x is))
          (λ t r _. bind_good r h.reasons.closed (expects h k.Colon r (λ e. cc e))
          (λ u m _. bind_good m h.reasons.closed
          ((h.good some).expression U (part.Assignment false) m)
          (λ v n _. pure_good J EndsExpression Any (property_of x (head i) v) n)
          (λ v _. pure_sample (property_of x (head i) v) tt))
          (λ u _. rest x))
          (λ t _. expected_sample (λ _. value x) k.Colon colon colon_is colon_real (λ tail. tt)
          (rest x))

  pub property_sample : Sample U (property g' b') Any EndsExpression Any
  unfolding property
  property_sample = record {
    more = name ∷ s.more;
    value = s.value;
    real = (name_real, s.real);
    fits = tt;
    follows = λ tail _. tt;
    reads =
        λ tail ends. ap (λ o. property_by g' b' name o (name ∷ (s.more ++ tail))) property_name_is
        ∙ s.reads tail ends;
  }
    where
      s : Sample U (expect k.Colon >>= (λ _.
          b'.expression (part.Assignment false) >>=
          (λ v. pure (property_of (property.Word (word name)) name v)))) Any EndsExpression Any
      s =
          expected_sample _ k.Colon colon colon_is colon_real (λ tail. tt)
          (then_pure _ (below_sample h (part.Assignment false)))

  pub object_good : (i : Tokens) → next i ≢ k.End → next i ≢ k.Colon
      → GoodAt U J (object (strict d) b) (object g' b') Any Any i
  unfolding object
  object_good i more other = bind_good i h.reasons.closed (enters h i more other)
      (λ t r q. bind_good r h.reasons.closed
      (listed_good {F = EndsExpression} {G = Any} k.CloseBrace (property (strict d) b)
      (property g' b') (λ e. cc e) (λ e. cc e) h.reasons.closed
      (property_takes (strict d) h.takes) (property_takes g' h.takes_more)
      (property_good (room_strict d i (entered (strict d) i q))) property_sample
      (λ tail at. brace_closes (next tail) at) close_brace close_brace_is close_brace_real
      (λ r _. h.reasons.free Unexpected [] r refl) r)
      (λ xs m _. pure_good J Any Any (e.Object xs t.place) m)
      (λ xs _. pure_sample (e.Object xs t.place) tt))
      (λ t _. then_pure {W = Any} _ (listed_sample {F = Any} {G = Any} k.CloseBrace (property g' b')
      close_brace close_brace_is close_brace_real tt (λ tail _. tt)))

  -- ---- primary expressions

  parenthesized_good : (i : Tokens) → next i ≢ k.End → next i ≢ k.Colon
      → GoodAt U J (parenthesized (strict d) b) (parenthesized g' b') Any Any i
  unfolding parenthesized
  parenthesized_good i more other = bind_good i h.reasons.closed (enters h i more other)
      (λ t r q. bind_good r h.reasons.closed ((lower h i q).expression U (part.Whole false) r)
      (λ x m _. closes_pure h k.CloseParenthesis x tt m (λ e. cc e)) (λ x _. rest x))
      (λ t _. bind_sample (below_sample h (part.Whole false)) (λ x _. rest x))
    where
      rest : (x : Expression) → Sample U (expect k.CloseParenthesis >> pure x) EndsExpression Any
          Any
      rest x =
          token_sample k.CloseParenthesis close_parenthesis close_parenthesis_is
          close_parenthesis_real (λ tail. parenthesis_closes (symbol close_parenthesis)
          close_parenthesis_is) x tt

  literal_good : (i : Tokens) → GoodAt U J (literal (strict d) b) (literal g' b') Any Any i
  unfolding literal
  literal_good i =
      look_good (λ t. literal_by (strict d) b t (literal_of t))
      (λ t. literal_by g' b' t (literal_of t)) i (go (literal_of (head i)) refl)
    where
      go : (found : Option Primitive) → literal_of (head i) ≡ found
          → GoodAt U J (literal_by (strict d) b (head i) found) (literal_by g' b' (head i) found)
          Any Any i
      go None is = unexpected h Any Any i
      go (Some v) is = takes_pure h (e.Literal v (head i).place) tt i (literal_more (head i) v is)

  pub primary_good : (i : Tokens) → GoodAt U J (primary (strict d) b) (primary g' b') Any Any i
  unfolding primary
  primary_good i =
      look_good (λ t. primary_by (strict d) b t (symbol t)) (λ t. primary_by g' b' t (symbol t)) i
      (go (next i) refl)
    where
      take_this : Parser Expression
      take_this = take_token >> pure (e.This (head i).place)

      pattern : GoodAt U J (regular_expression (strict d) b (head i))
          (regular_expression g' b' (head i)) Any Any i
      pattern =
          unless_good J Any Any d g' RegExp take_this take_this i refl (h.asks RegExp refl)
          (h.reasons.free RegExp [] i refl)
          (λ _. (head i ∷ [], e.This (head i).place, tt, λ tail ends. (refl, refl), tt))

      go : (κ : Symbol) → next i ≡ κ → GoodAt U J (primary_by (strict d) b (head i) κ)
          (primary_by g' b' (head i) κ) Any Any i
      go k.This is = takes_pure h (e.This (head i).place) tt i (λ ends. cc (is, ends))
      go k.Name is = takes_pure h (e.Name (name_of (head i))) tt i (λ ends. cc (is, ends))
      go k.OpenBracket is = array_good i (λ ends. cc (is, ends)) (λ other. cc (is, other))
      go k.OpenBrace is = object_good i (λ ends. cc (is, ends)) (λ other. cc (is, other))
      go k.OpenParenthesis is =
          parenthesized_good i (λ ends. cc (is, ends)) (λ other. cc (is, other))
      go k.Function is =
          bind_good i h.reasons.closed (function_good false i)
          (λ f r _. pure_good J Any Any (e.Function f) r) (λ f _. pure_sample (e.Function f) tt)
      go k.Divide is = pattern
      go k.DivideAssign is = pattern
      go _ is = literal_good i
