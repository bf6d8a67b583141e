-- The levels of operators between operands.
use Rattle.std.proofs.Common.{◌≡◌, ℕ, zero, suc, ◌+◌, ◌-◌, ◌<◌, ◌≤◌, Bool, true, false, not, is_none, is_some, Option, sym, List, Err, refl, ◌∙◌, arith}
use Rattle.ja_syntax.specs.declared.symbol.Symbol.{Symbol}
use Rattle.ja_syntax.specs.declared.tree.BinaryOperator.{BinaryOperator}
use Rattle.ja_syntax.specs.declared.tree.Expression.{Expression}
use Rattle.ja_syntax.specs.declared.tree.Operation.{Operation}
use Rattle.ja_grammar.specs.declared.fault.Refusal.{Refusal}
use Rattle.ja_grammar.specs.declared.fault.Stop.{Stop}
use Rattle.ja_grammar.specs.Forms.{operated}
use Rattle.ja_grammar.specs.Input.{Rules, Tokens, Parser, Done, Refused, head, until}
use Rattle.ja_grammar.specs.code.Input.{Follows}
use Rattle.ja_grammar.specs.Operators.{binary_operator}
use Rattle.ja_grammar.specs.ReadExpression.{Below, unary, binary, level, operation}
use Rattle.ja_parse_cursor.proofs.Turns.{same_error}

-- the operators of the level above one, with their right operands
abbrev pub operations : Rules → Below → Bool → ℕ → Parser (List (Operation Expression))
operations g b no_in l =
    until (λ found. is_none (binary_operator no_in (suc l) found))
    (operation g b no_in (suc l) (binary g b no_in l))

not_not : (r : Bool) → not (not r) ≡ r
not_not true = refl
not_not false = refl

pub ends_at : (no_in : Bool) (l : ℕ) (o : Option BinaryOperator) (s k : Symbol) (r : Bool) → s ≡ k
    → o ≡ binary_operator no_in (l + 1) s
    → is_some o ≡ not r → is_none (binary_operator no_in (suc l) k) ≡ r
ends_at no_in l o s k r e f h = let n : suc l ≡ l + 1 = omega arith in
    rw (n, sym e, sym f, h) (not_not r)

module _ (g : Rules) (b : Below) (no_in : Bool) where
  pub binary_none : (i : Tokens) → binary g b no_in 0 i ≡ unary g b i
  unfolding binary
  binary_none i = refl

  step : (l : ℕ) (i j r : Tokens) (x : Expression) (os : List (Operation Expression))
      → binary g b no_in l i ≡ Done x j → operations g b no_in l j ≡ Done os r
      → binary g b no_in (suc l) i ≡ Done (operated (head i).place x os) r
  unfolding binary level
  step l i j r x os e f = rw (e, f) refl

  pub binary_up : (l : ℕ) (i j r : Tokens) (x y : Expression) (os : List (Operation Expression))
      → binary g b no_in l i ≡ Done x j → operations g b no_in l j ≡ Done os r
      → y ≡ operated (head i).place x os → binary g b no_in (l + 1) i ≡ Done y r
  binary_up l i j r x y os e f q = let n : l + 1 ≡ suc l = omega arith in
      rw (n, q) (step l i j r x os e f)

  stuck : (l : ℕ) (i j : Tokens) (why : Refusal) → binary g b no_in l i ≡ Refused why j
      → binary g b no_in (suc l) i ≡ Refused why j
  unfolding binary level
  stuck l i j why e = rw e refl

  stuck_more : (more l : ℕ) (i j : Tokens) (why : Refusal) → binary g b no_in l i ≡ Refused why j
      → binary g b no_in (more + l) i ≡ Refused why j
  stuck_more zero l i j why e = let n : 0 + l ≡ l = omega arith in rw n e
  stuck_more (suc more) l i j why e = let n : suc more + l ≡ suc (more + l) = omega arith in
      rw n (stuck (more + l) i j why (stuck_more more l i j why e))

  stuck_from : (m l : ℕ) (i j : Tokens) (why : Refusal) → l ≤ m
      → binary g b no_in l i ≡ Refused why j → binary g b no_in m i ≡ Refused why j
  stuck_from m l i j why h e = let n : m ≡ (m - l) + l = omega arith in
      rw n (stuck_more (m - l) l i j why e)

  step_refused : (l : ℕ) (i j r : Tokens) (x : Expression) (why : Refusal)
      → binary g b no_in l i ≡ Done x j → operations g b no_in l j ≡ Refused why r
      → binary g b no_in (suc l) i ≡ Refused why r
  unfolding binary level
  step_refused l i j r x why e f = rw (e, f) refl

  pub binary_error_first : (m : ℕ) (i j : Tokens) (r : Stop) → Follows (unary g b i) (Err r) j
      → Follows (binary g b no_in m i) (Err r) j
  binary_error_first m i j r f =
      same_error (unary g b i) (binary g b no_in m i) r j
      (λ why q. stuck_from m 0 i j why (omega arith) (binary_none i ∙ q)) f

  pub binary_error : (m l : ℕ) (i j k : Tokens) (x : Expression) (r : Stop) → l < m
      → binary g b no_in l i ≡ Done x j → Follows (operations g b no_in l j) (Err r) k
      → Follows (binary g b no_in m i) (Err r) k
  binary_error m l i j k x r h e f =
      same_error (operations g b no_in l j) (binary g b no_in m i) r k
      (λ why q. stuck_from m (suc l) i k why (omega (arith, h))
      (step_refused l i j k x why e q)) f
