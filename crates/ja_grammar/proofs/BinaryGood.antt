-- The place laws of operators between operands (11.5 to 11.14).
use Rattle.std.proofs.Common.{◌≡◌, ◌≢◌, ℕ, zero, suc, Bool, true, false, is_none, [], ◌∷◌, Option, Some, None, refl, ap}
use Rattle.ja_base.specs.declared.ids.Place.{Place}
use Rattle.ja_lex.specs.declared.token.Token.{Token}
use Rattle.ja_syntax.specs.declared.symbol.Symbol.{Symbol}
use Rattle.ja_syntax.specs.declared.symbol.Symbol.TheVariants as k
use Rattle.ja_syntax.specs.declared.tree.BinaryOperator.{BinaryOperator}
use Rattle.ja_syntax.specs.declared.tree.Expression.{Expression}
use Rattle.ja_syntax.specs.declared.tree.Expression.TheVariants as e
use Rattle.ja_syntax.specs.declared.tree.Operation.{Operation}
use Rattle.ja_syntax.specs.References.{is_reference}
use Rattle.ja_grammar.specs.declared.fault.Refusal.{Refusal}
use Rattle.ja_grammar.specs.declared.part.ExpressionPart.TheVariants as part
use Rattle.ja_grammar.specs.Forms.{operated, sequence}
use Rattle.ja_grammar.specs.Input.{Tokens, head, next, symbol, Done, Parser, ◌>>=◌, pure, look, expect, until, separated, Rules, strict}
use Rattle.ja_grammar.specs.Operators.{binary_operator, levels, assignment_operator}
use Rattle.ja_grammar.specs.ReadExpression.{Below, operation, operation_by, level, binary, conditional, conditional_by, assigned, assignment, assignment_by, whole}
use Rattle.ja_grammar.proofs.Closing.{end_no_operator, no_comma_closes, no_binary_closes, no_assignment_closes, no_question_closes, colon_closes, binary_more, assignment_more, assignment_no_colon}
use Rattle.ja_grammar.proofs.ExpressionSamples.{named, binary_name, assignment_name, whole_name}
use Rattle.ja_grammar.proofs.ExpressionTakes.{operation_takes, binary_takes, assignment_takes}
use Rattle.ja_grammar.proofs.Good.{Reason, Sample, GoodAt, Any, pure_good, bind_good, look_good}
use Rattle.ja_grammar.proofs.Levels.{EndsExpression}
use Rattle.ja_grammar.proofs.Lists.{separated_good}
use Rattle.ja_grammar.proofs.OperatorGood.{unary_good}
use Rattle.ja_grammar.proofs.Roomier.{Roomier, expected_sample, then_pure, enters, lower, expects, takes_one, unexpected, below_sample}
use Rattle.ja_grammar.proofs.SampleTokens.{name, name_real, colon, colon_is, colon_real}
use Rattle.ja_grammar.proofs.Shrinks.{Takes}
use Rattle.ja_grammar.proofs.Steps.{pure_sample, bind_sample, end_sample}
use Rattle.ja_grammar.proofs.Until.{until_good, until_sample}

-- what ends the operations of a level
abbrev no_operator : Bool → ℕ → Symbol → Bool
no_operator no_in l found = is_none (binary_operator no_in l found)

ends_operations : (no_in : Bool) (l : ℕ) (tail : Tokens) → EndsExpression tail
    → no_operator no_in l (next tail) ≡ true
ends_operations no_in l tail ends = ap is_none (no_binary_closes no_in l (next tail) ends)

-- an operation
abbrev operation_of : BinaryOperator → Token → Expression → Operation Expression
operation_of o t x = record { operator = o; right = x; place = t.place }

-- ---- samples

module _ (g : Rules) (b : Below) where
  pub binary_sample : {U : Tokens} (no_in : Bool) (l : ℕ)
      → Sample U (binary g b no_in l) Any EndsExpression Any
  binary_sample no_in l =
      record {
        more = name ∷ [];
        value = named;
        real = (name_real, tt);
        fits = tt;
        follows = λ tail _. tt;
        reads = λ tail ends. binary_name g b no_in l tail ends;
      }

  pub assignment_sample : {U : Tokens} (no_in : Bool)
      → Sample U (assignment g b no_in) Any EndsExpression Any
  assignment_sample no_in =
      record {
        more = name ∷ [];
        value = named;
        real = (name_real, tt);
        fits = tt;
        follows = λ tail _. tt;
        reads = λ tail ends. assignment_name g b no_in tail ends;
      }

  pub whole_sample : {U : Tokens} (no_in : Bool) → Sample U (whole g b no_in) Any EndsExpression Any
  whole_sample no_in =
      record {
        more = name ∷ [];
        value = named;
        real = (name_real, tt);
        fits = tt;
        follows = λ tail _. tt;
        reads = λ tail ends. whole_name g b no_in tail ends;
      }

module _ {U : Tokens} {O : Refusal} {J : Reason O} {d : ℕ} {g' : Rules} {b b' : Below}
    (h : Roomier J d g' b b') where
  -- ---- binary operators

  module _ (no_in : Bool) (l : ℕ) (one next_one : Parser Expression) (takes : Takes one)
      (takes' : Takes next_one)
      (good : (i : Tokens) → GoodAt U J one next_one EndsExpression Any i)
      (sample : Sample U next_one Any EndsExpression Any) where
    operation_good : (i : Tokens) → GoodAt U J (operation (strict d) b no_in l one)
        (operation g' b' no_in l next_one) EndsExpression Any i
    unfolding operation
    operation_good i =
        look_good (λ t. operation_by (strict d) b one t (binary_operator no_in l (symbol t)))
        (λ t. operation_by g' b' next_one t (binary_operator no_in l (symbol t))) i
        (go (binary_operator no_in l (next i)) refl)
      where
        go : (found : Option BinaryOperator) → binary_operator no_in l (next i) ≡ found
            → GoodAt U J (operation_by (strict d) b one (head i) found)
            (operation_by g' b' next_one (head i) found) EndsExpression Any i
        go None is = unexpected h EndsExpression Any i
        go (Some o) is =
            bind_good i h.reasons.closed (takes_one h i (binary_more no_in l (next i) o is))
            (λ t r _. bind_good r h.reasons.closed (good r)
            (λ x m _. pure_good J EndsExpression Any (operation_of o (head i) x) m)
            (λ x _. pure_sample (operation_of o (head i) x) tt))
            (λ t _. then_pure (operation_of o (head i)) sample)

    level_good : (i : Tokens) → GoodAt U J (level (strict d) b no_in l one)
        (level g' b' no_in l next_one) EndsExpression Any i
    unfolding level
    level_good i =
        look_good (by one (operation (strict d) b no_in l one))
        (by next_one (operation g' b' no_in l next_one)) i
        (bind_good i h.reasons.closed (good i)
        (λ x r _. bind_good r h.reasons.closed
        (until_good (no_operator no_in l) (operation (strict d) b no_in l one)
        (operation g' b' no_in l next_one) h.reasons.closed (end_no_operator no_in l)
        (operation_takes (strict d) h.takes no_in l takes)
        (operation_takes g' h.takes_more no_in l takes') (λ i _. operation_good i)
        (ends_operations no_in l) r)
        (λ os m _. pure_good J EndsExpression Any (operated (head i).place x os) m)
        (λ os _. pure_sample (operated (head i).place x os) tt))
        (λ x _. then_pure {W = Any} (operated (head i).place x)
        (until_sample (no_operator no_in l) (operation g' b' no_in l next_one)
        (ends_operations no_in l))))
      where
        by : Parser Expression → Parser (Operation Expression) → Token → Parser Expression
        by one other t =
            one >>= (λ x. until (no_operator no_in l) other >>=
            (λ os. pure (operated t.place x os)))

  pub binary_good : (no_in : Bool) (l : ℕ) (i : Tokens)
      → GoodAt U J (binary (strict d) b no_in l) (binary g' b' no_in l) EndsExpression Any i
  unfolding binary
  binary_good no_in zero i = unary_good h i
  binary_good no_in (suc l) i =
      level_good no_in (suc l) (binary (strict d) b no_in l) (binary g' b' no_in l)
      (binary_takes (strict d) h.takes no_in l) (binary_takes g' h.takes_more no_in l)
      (binary_good no_in l) (binary_sample g' b' no_in l) i

  -- ---- conditionals

  questioned_good : (no_in : Bool) (place : Place) (x : Expression) (r : Tokens)
      → next r ≡ k.Question
      → GoodAt U J (conditional_by (strict d) b no_in place x k.Question)
      (conditional_by g' b' no_in place x k.Question) EndsExpression Any r
  questioned_good no_in place x r is =
      bind_good r h.reasons.closed (enters h r (λ ends. cc (is, ends)) (λ other. cc (is, other)))
      (λ t m q. bind_good m h.reasons.closed ((lower h r q).expression U (part.Assignment no_in) m)
      (λ y n _. bind_good n h.reasons.closed (expects h k.Colon n (λ e. cc e))
      (λ u o _. bind_good o h.reasons.closed ((lower h r q).expression U (part.Assignment no_in) o)
      (λ z p _. pure_good J EndsExpression Any (e.Conditional x y z place) p)
      (λ z _. pure_sample (e.Conditional x y z place) tt))
      (λ u _. last y))
      (λ y _. from_colon y))
      (λ t _. bind_sample (below_sample h (part.Assignment no_in)) (λ y _. from_colon y))
    where
      last : (y : Expression) → Sample U (b'.expression (part.Assignment no_in) >>=
          (λ z. pure (e.Conditional x y z place))) Any EndsExpression Any
      last y = then_pure (λ z. e.Conditional x y z place) (below_sample h (part.Assignment no_in))

      from_colon : (y : Expression) → Sample U
          (expect k.Colon >>= (λ _. b'.expression (part.Assignment no_in) >>=
          (λ z. pure (e.Conditional x y z place)))) EndsExpression EndsExpression Any
      from_colon y =
          expected_sample _ k.Colon colon colon_is colon_real
          (λ tail. colon_closes (symbol colon) colon_is) (last y)

  conditional_sample : (no_in : Bool) (place : Place) (x : Expression)
      → Sample U (look (λ u. conditional_by g' b' no_in place x (symbol u))) EndsExpression
      EndsExpression Any
  conditional_sample no_in place x =
      end_sample x tt (λ tail ends. ends) (λ tail ends.
      go tail (next tail) (no_question_closes (next tail) ends))
    where
      go : (tail : Tokens) (κ : Symbol) → κ ≢ k.Question
          → conditional_by g' b' no_in place x κ tail ≡ Done x tail
      go tail k.Question other = absurd (other refl)
      go tail _ other = refl

  pub conditional_good : (no_in : Bool) (i : Tokens)
      → GoodAt U J (conditional (strict d) b no_in) (conditional g' b' no_in) EndsExpression Any i
  unfolding conditional
  conditional_good no_in i =
      look_good (λ t. binary (strict d) b no_in levels >>=
      (λ x. look (λ u. conditional_by (strict d) b no_in t.place x (symbol u))))
      (λ t. binary g' b' no_in levels >>= (λ x.
      look (λ u. conditional_by g' b' no_in t.place x (symbol u)))) i
      (bind_good i h.reasons.closed (binary_good no_in levels i)
      (λ x r _. look_good (λ u. conditional_by (strict d) b no_in (head i).place x (symbol u))
      (λ u. conditional_by g' b' no_in (head i).place x (symbol u)) r (go x r (next r) refl))
      (λ x _. conditional_sample no_in (head i).place x))
    where
      go : (x : Expression) (r : Tokens) (κ : Symbol) → next r ≡ κ
          → GoodAt U J (conditional_by (strict d) b no_in (head i).place x κ)
          (conditional_by g' b' no_in (head i).place x κ) EndsExpression Any r
      go x r k.Question is = questioned_good no_in (head i).place x r is
      go x r _ is = pure_good J EndsExpression Any x r

  -- ---- assignments, and expressions with commas

  assigned_good : (no_in : Bool) (x : Expression) (o : Option BinaryOperator) (r : Tokens)
      → next r ≢ k.End → next r ≢ k.Colon → (found : Bool)
      → GoodAt U J (assigned (strict d) b no_in x (head r) o found)
      (assigned g' b' no_in x (head r) o found) EndsExpression Any r
  assigned_good no_in x o r more other false = unexpected h EndsExpression Any r
  assigned_good no_in x o r more other true = bind_good r h.reasons.closed (enters h r more other)
      (λ t m q. bind_good m h.reasons.closed ((lower h r q).expression U (part.Assignment no_in) m)
      (λ y n _. pure_good J EndsExpression Any (e.Assign x o y (head r).place) n)
      (λ y _. pure_sample (e.Assign x o y (head r).place) tt))
      (λ t _. then_pure (λ y. e.Assign x o y (head r).place)
      (below_sample h (part.Assignment no_in)))

  pub assignment_good : (no_in : Bool) (i : Tokens)
      → GoodAt U J (assignment (strict d) b no_in) (assignment g' b' no_in) EndsExpression Any i
  unfolding assignment
  assignment_good no_in i = bind_good i h.reasons.closed (conditional_good no_in i)
      (λ x r _. look_good (λ t. assignment_by (strict d) b no_in x t
      (assignment_operator (symbol t))) (λ t.
      assignment_by g' b' no_in x t (assignment_operator (symbol t))) r
      (go x r (assignment_operator (next r)) refl))
      (λ x _. end_sample x tt (λ tail ends. ends)
      (λ tail ends. ap (λ o. assignment_by g' b' no_in x (head tail) o tail)
      (no_assignment_closes (next tail) ends)))
    where
      go : (x : Expression) (r : Tokens) (found : Option (Option BinaryOperator))
          → assignment_operator (next r) ≡ found
          → GoodAt U J (assignment_by (strict d) b no_in x (head r) found)
          (assignment_by g' b' no_in x (head r) found) EndsExpression Any r
      go x r None is = pure_good J EndsExpression Any x r
      go x r (Some o) is =
          assigned_good no_in x o r (assignment_more (next r) o is)
          (assignment_no_colon (next r) o is) (is_reference x)

  pub whole_good : (no_in : Bool) (i : Tokens)
      → GoodAt U J (whole (strict d) b no_in) (whole g' b' no_in) EndsExpression Any i
  unfolding whole
  whole_good no_in i =
      look_good (λ t. separated (assignment (strict d) b no_in) >>=
      (λ xs. pure (sequence t.place xs))) (λ t.
      separated (assignment g' b' no_in) >>= (λ xs. pure (sequence t.place xs))) i
      (bind_good i h.reasons.closed
      (separated_good {F = EndsExpression} {G = EndsExpression} (assignment (strict d) b no_in)
      (assignment g' b' no_in) h.reasons.closed
      (assignment_takes (strict d) h.takes no_in) (assignment_takes g' h.takes_more no_in)
      (assignment_good no_in) (assignment_sample g' b' no_in) (λ tail ends. ends)
      (λ tail ends. no_comma_closes (next tail) ends) i)
      (λ xs r _. pure_good J EndsExpression Any (sequence (head i).place xs) r)
      (λ xs _. pure_sample (sequence (head i).place xs) tt))
