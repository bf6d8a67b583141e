-- Statements whose reading functions are named by words of the programming language.
use Rattle.std.proofs.Common.{◌≡◌, ℕ, Bool, refl}
use Rattle.ja_syntax.specs.declared.symbol.Symbol.TheVariants as k
use Rattle.ja_grammar.specs.Contexts.{Context, may_break}
use Rattle.ja_grammar.specs.Input.{Rules, Tokens, next}
use Rattle.ja_grammar.specs.ReadExpression.{Below}
use Rattle.ja_grammar.specs.ReadStatement.{single, continue, continue_by, break, break_by, return, return_by, try}
use Rattle.ja_parse_statements.specs.code.Clauses.{try_whole}

module _ (g : Rules) (b : Below) (c : Context) (labels : ℕ) (outermost : Bool) where
  pub continue_is : (i : Tokens) → next i ≡ k.Continue
      → single g b c labels outermost i ≡ continue_by g b c c.in_loop i
  unfolding single continue
  continue_is i e = rw e refl

  pub break_is : (i : Tokens) → next i ≡ k.Break
      → single g b c labels outermost i ≡ break_by g b c (may_break c) i
  unfolding single break
  break_is i e = rw e refl

  pub return_is : (i : Tokens) → next i ≡ k.Return
      → single g b c labels outermost i ≡ return_by g b c.in_function i
  unfolding single return
  return_is i e = rw e refl

  pub try_is : (i : Tokens) → next i ≡ k.Try → single g b c labels outermost i ≡ try_whole g b c i
  unfolding single try
  try_is i e = rw e refl
