-- The place law of each part of an expression, and tokens that are read as the part.
use Rattle.std.proofs.Common.{◌≡◌, ℕ, false, [], ◌∷◌, ◌++◌, sym, ap, ◌∙◌}
use Rattle.ja_base.specs.declared.ids.Place.{Place}
use Rattle.ja_syntax.specs.declared.tree.Expression.{Expression}
use Rattle.ja_syntax.specs.declared.tree.Expression.TheOpen.{Expression-F}
use Rattle.ja_syntax.specs.declared.tree.Expression.TheVariants as e
use Rattle.ja_syntax.specs.declared.tree.Expression.TheViews.{out-Expression, out-roll-Expression}
use Rattle.ja_syntax.specs.References.{is_reference, is_reference_at}
use Rattle.ja_grammar.specs.declared.fault.Refusal.{Refusal}
use Rattle.ja_grammar.specs.declared.part.ExpressionPart.{ExpressionPart}
use Rattle.ja_grammar.specs.declared.part.ExpressionPart.TheVariants as part
use Rattle.ja_grammar.specs.Forms.{name_of, is_prefix}
use Rattle.ja_grammar.specs.Input.{Tokens, head, next, symbol, Done, and_then, look, Rules, strict}
use Rattle.ja_grammar.specs.Operators.{unary_operator, prefix_update}
use Rattle.ja_grammar.specs.Productions.{HasRoom}
use Rattle.ja_grammar.specs.ReadExpression.{Below, created, created_by, operand_close, updated, updated_by, expression_part}
use Rattle.ja_grammar.proofs.Real.{AreRealAfter}
use Rattle.ja_grammar.proofs.BinaryGood.{assignment_good, whole_good}
use Rattle.ja_grammar.proofs.ChainGood.{IsReference, created_good, created_reads, parenthesis_ends_member}
use Rattle.ja_grammar.proofs.Closing.{no_postfix_closes, no_suffix_closes}
use Rattle.ja_grammar.proofs.ExpressionSamples.{named, member_name, left_hand_name, unary_name, assignment_name, whole_name}
use Rattle.ja_grammar.proofs.Good.{Reason, GoodAt, Any}
use Rattle.ja_grammar.proofs.Levels.{EndsExpression, follow_of, reason_of}
use Rattle.ja_grammar.proofs.OperatorGood.{updated_good, unary_good, operand_reads}
use Rattle.ja_grammar.proofs.Roomier.{Roomier}
use Rattle.ja_grammar.proofs.SampleTokens.{name, name_is, name_real, open_parenthesis, open_parenthesis_is, open_parenthesis_real, close_parenthesis, close_parenthesis_real}

pub expression_part_good : {U : Tokens} {O : Refusal} {J : Reason O} {d : ℕ} {g' : Rules}
    {b b' : Below} → Roomier J d g' b b' → (p : ExpressionPart) (i : Tokens)
    → GoodAt U (reason_of J p) (expression_part (strict d) b p) (expression_part g' b' p)
    (follow_of p) Any i
unfolding expression_part
expression_part_good h (part.Whole no_in) i = whole_good h no_in i
expression_part_good h (part.Assignment no_in) i = assignment_good h no_in i
expression_part_good h part.Unary i = unary_good h i
expression_part_good h (part.Updated place) i = updated_good h place i
expression_part_good h (part.Created place) i = created_good h place i

-- a name can be written to
named_reference : IsReference named
unfolding is_reference
named_reference =
    ap (λ y. is_reference_at (out-Expression y)) (sym (e.rolls-Name (name_of name)))
    ∙ ap is_reference_at (out-roll-Expression (Expression-F.Name (name_of name)))

-- a name is no prefix operator
name_no_prefix : is_prefix (symbol name) ≡ false
unfolding is_prefix unary_operator prefix_update
name_no_prefix = ap is_prefix name_is

module _ (g : Rules) (b : Below) where
  updated_name : (place : Place) (tail : Tokens) → EndsExpression tail
      → updated g b place (name ∷ tail) ≡ Done named tail
  unfolding updated
  updated_name place tail ends =
      ap (λ found. updated_by g b place found (name ∷ tail)) name_no_prefix
      ∙ ap (λ o. and_then o (operand_close g b place))
      (left_hand_name g b tail (no_suffix_closes (next tail) ends))
      ∙ operand_reads g b place named tail named_reference (no_postfix_closes (head tail) ends)

  created_name : ((i : Tokens) → HasRoom g i) → (place : Place) (tail : Tokens)
      → created g b place (name ∷ open_parenthesis ∷ close_parenthesis ∷ tail)
      ≡ Done (e.New named [] place) tail
  unfolding created
  created_name room place tail =
      ap (λ o. and_then o (λ x. look (λ t. created_by g b place x (symbol t))))
      (member_name g b (open_parenthesis ∷ close_parenthesis ∷ tail)
      (parenthesis_ends_member (symbol open_parenthesis) open_parenthesis_is))
      ∙ created_reads g b room place named tail

  -- tokens, real behind any, that are read as the part
  pub expression_part_sample : {U : Tokens} → ((i : Tokens) → HasRoom g i) → (p : ExpressionPart)
      → (w : Tokens) × (v : Expression) × AreRealAfter U w
      × ((tail : Tokens) → follow_of p tail → expression_part g b p (w ++ tail) ≡ Done v tail)
  unfolding expression_part
  expression_part_sample room (part.Whole no_in) =
      (name ∷ [], named, (name_real, tt), λ tail ends. whole_name g b no_in tail ends)
  expression_part_sample room (part.Assignment no_in) =
      (name ∷ [], named, (name_real, tt), λ tail ends. assignment_name g b no_in tail ends)
  expression_part_sample room part.Unary =
      (name ∷ [], named, (name_real, tt), λ tail ends. unary_name g b tail ends)
  expression_part_sample room (part.Updated place) =
      (name ∷ [], named, (name_real, tt), λ tail ends. updated_name place tail ends)
  expression_part_sample room (part.Created place) = (
    name ∷ open_parenthesis ∷ close_parenthesis ∷ [],
    e.New named [] place,
    (name_real, (open_parenthesis_real, (close_parenthesis_real, tt))),
    λ tail ends. created_name room place tail,
  )
