-- A `for` behind its variables.
use Rattle.std.proofs.Common.{◌≡◌, ◌≢◌, List, [], ◌∷◌, length, Some, slice_get, refl, arith}
use Rattle.ja_base.specs.declared.ids.Place.{Place}
use Rattle.ja_syntax.specs.declared.symbol.Symbol.{Symbol}
use Rattle.ja_syntax.specs.declared.symbol.Symbol.TheVariants as k
use Rattle.ja_syntax.specs.declared.tree.Declaration.{Declaration}
use Rattle.ja_syntax.specs.declared.tree.Expression.{Expression}
use Rattle.ja_syntax.specs.declared.tree.ForFirst.TheVariants as first
use Rattle.ja_syntax.specs.declared.tree.ForTarget.TheVariants as target
use Rattle.ja_grammar.specs.Contexts.{Context}
use Rattle.ja_grammar.specs.Input.{Rules, Tokens, next}
use Rattle.ja_grammar.specs.ReadExpression.{Below}
use Rattle.ja_grammar.specs.ReadStatement.{in_rest, for_variables_by}
use Rattle.ja_parse_statements.specs.code.Clauses.{for_rest_behind, variables_behind}

module _ (g : Rules) (b : Below) (c : Context) (place : Place) where
  by_in : (xs : List (Declaration Expression)) (x : Declaration Expression) (i : Tokens)
      → length xs ≡ 1 → slice_get xs 0 ≡ Some x
      → for_variables_by g b c place xs k.In i ≡ in_rest g b c place (target.Variable x) i
  by_in [] x i h e = absurd (omega (arith, h))
  by_in (y ∷ []) x i h e = cc e
  by_in (y ∷ z ∷ ys) x i h e = absurd (omega (arith, h))

  pub variable_in : (xs : List (Declaration Expression)) (x : Declaration Expression) (i : Tokens)
      → length xs ≡ 1 → slice_get xs 0 ≡ Some x → next i ≡ k.In
      → variables_behind g b c place xs i ≡ in_rest g b c place (target.Variable x) i
  variable_in xs x i h e q = rw q (by_in xs x i h e)

  by_many : (xs : List (Declaration Expression)) (s : Symbol) (i : Tokens) → length xs ≢ 1
      → for_variables_by g b c place xs s i ≡ for_rest_behind g b c place (first.Variables xs) i
  by_many [] s i h = refl
  by_many (y ∷ []) s i h = absurd (h refl)
  by_many (y ∷ z ∷ ys) s i h = refl

  pub variables_many : (xs : List (Declaration Expression)) (i : Tokens) → length xs ≢ 1
      → variables_behind g b c place xs i ≡ for_rest_behind g b c place (first.Variables xs) i
  variables_many xs i h = by_many xs (next i) i h

  by_other : (xs : List (Declaration Expression)) (s : Symbol) (i : Tokens) → s ≢ k.In
      → for_variables_by g b c place xs s i ≡ for_rest_behind g b c place (first.Variables xs) i
  by_other [] s i h = refl
  by_other (y ∷ []) k.In i h = absurd (h refl)
  by_other (y ∷ []) _ i h = refl
  by_other (y ∷ z ∷ ys) s i h = refl

  pub variables_other : (xs : List (Declaration Expression)) (i : Tokens) → next i ≢ k.In
      → variables_behind g b c place xs i ≡ for_rest_behind g b c place (first.Variables xs) i
  variables_other xs i h = by_other xs (next i) i h
