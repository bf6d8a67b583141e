-- What the rules of the language refuse in an expression.
use Rattle.std.proofs.Common.{◌≡◌, ℕ, true, refl}
use Rattle.ja_base.specs.declared.ids.Place.{Place}
use Rattle.ja_syntax.specs.declared.symbol.Symbol.TheVariants as k
use Rattle.ja_grammar.specs.declared.fault.Refusal.TheVariants.{RegExp, Broken}
use Rattle.ja_grammar.specs.Forms.{is_prefix}
use Rattle.ja_grammar.specs.Input.{Tokens, Refused, next, strict}
use Rattle.ja_grammar.specs.ReadExpression.{Below, primary, updated}

module _ (d : ℕ) (b : Below) (i : Tokens) where
  -- a regular expression
  pub at_divide : next i ≡ k.Divide → primary (strict d) b i ≡ Refused RegExp i
  unfolding primary strict
  at_divide h = rw h refl

  pub at_divide_assign : next i ≡ k.DivideAssign → primary (strict d) b i ≡ Refused RegExp i
  unfolding primary strict
  at_divide_assign h = rw h refl

  -- a prefix operator behind the `++` or `--` at a place
  pub at_prefix : (place : Place) → is_prefix (next i) ≡ true
      → updated (strict d) b place i ≡ Refused (Broken place) i
  unfolding updated strict
  at_prefix place h = rw h refl
