-- Every rule of expressions takes a token, or at least adds none, and so where it is refused.
use Rattle.std.proofs.Common.{◌≡◌, ℕ, zero, suc, Bool, true, false, Option, Some, None, refl}
use Rattle.ja_base.specs.declared.ids.Place.{Place}
use Rattle.ja_prim.specs.declared.primitive.Primitive.{Primitive}
use Rattle.ja_lex.specs.declared.token.Token.{Token}
use Rattle.ja_syntax.specs.declared.symbol.Symbol.{Symbol}
use Rattle.ja_syntax.specs.declared.symbol.Symbol.TheVariants as k
use Rattle.ja_syntax.specs.declared.tree.BinaryOperator.{BinaryOperator}
use Rattle.ja_syntax.specs.declared.tree.Expression.{Expression}
use Rattle.ja_syntax.specs.declared.tree.PropertyName.{PropertyName}
use Rattle.ja_syntax.specs.declared.tree.UnaryOperator.{UnaryOperator}
use Rattle.ja_syntax.specs.declared.tree.UpdateOperator.{UpdateOperator}
use Rattle.ja_syntax.specs.References.{is_reference}
use Rattle.ja_syntax.specs.Symbols.{is_arguments}
use Rattle.ja_grammar.specs.declared.fault.Refusal.TheVariants.{RegExp, Arguments, Broken, Operand}
use Rattle.ja_grammar.specs.declared.part.ExpressionPart.{ExpressionPart}
use Rattle.ja_grammar.specs.declared.part.ExpressionPart.TheVariants as part
use Rattle.ja_grammar.specs.declared.part.StatementPart.TheVariants as of_statement
use Rattle.ja_grammar.specs.Contexts.{function_context}
use Rattle.ja_grammar.specs.Forms.{literal_of, property_name, postfix_of, is_prefix}
use Rattle.ja_grammar.specs.Input.{head, next, behind, Parser, Rules}
use Rattle.ja_grammar.specs.Operators.{binary_operator, levels, unary_operator, prefix_update, assignment_operator}
use Rattle.ja_grammar.specs.ReadExpression.{Below, declared, declared_by, declared_name, function_name, function_name_by, is_close_brace, is_close_bracket, element, element_by, element_close, element_close_by, property, property_by, function_body, parameters, function, array, object, parenthesized, literal, literal_by, primary, primary_by, chain_head, head_by, dotted, indexed, property_suffix, property_suffix_by, arguments, any_suffix, any_suffix_by, member, created, created_by, left_hand, postfix, postfix_by, updated_behind, operand_close, operand_by, updated, updated_by, unary, unary_by, operation, operation_by, level, binary, conditional, conditional_by, assigned, assignment, assignment_by, whole, expression_part}
use Rattle.ja_grammar.proofs.Agree.{BelowTakes}
use Rattle.ja_grammar.proofs.Closing.{literal_more}
use Rattle.ja_grammar.proofs.Shrinks.{Leaves, Takes, Shrinks, takes_shrinks, pure_shrinks, refuse_leaves, behind_leaves, token_shrinks, token_takes, unless_leaves, enter_shrinks, expect_shrinks, expect_takes, opening_takes, bind_leaves, value_leaves, until_shrinks, separated_takes, listed_takes}

-- ---- names

module _ (g : Rules) where
  pub declared_takes : Takes (declared g)
  unfolding declared
  declared_takes i = go (next i) refl
    where
      named : (x : Bool) → next i ≡ k.Name → Leaves true (declared_name g (head i) x i) i
      named true is = unless_leaves g Arguments (token_takes (λ ends. cc (is, ends)))
      named false is = token_takes (λ ends. cc (is, ends))

      go : (κ : Symbol) → next i ≡ κ → Leaves true (declared_by g (head i) κ i) i
      go k.Name is = named (is_arguments (head i).kind) is
      go _ is = refuse_leaves

  pub function_name_shrinks : (required : Bool) → Shrinks (function_name g required)
  unfolding function_name
  function_name_shrinks required i = go required (next i)
    where
      go : (required : Bool) (κ : Symbol) → Leaves false (function_name_by g required κ i) i
      go required k.Name = value_leaves _ (takes_shrinks (declared_takes i))
      go true _ = refuse_leaves
      go false _ = pure_shrinks

module _ (g : Rules) {b : Below} (h : BelowTakes b) where
  -- ---- array and object literals, functions

  pub element_close_shrinks : (x : Expression) → Shrinks (element_close g b x)
  unfolding element_close
  element_close_shrinks x i = go (next i)
    where
      go : (κ : Symbol) → Leaves false (element_close_by g b x κ i) i
      go k.Comma = token_shrinks
      go k.CloseBracket = pure_shrinks
      go _ = refuse_leaves

  pub element_takes : Takes (element g b)
  unfolding element
  element_takes i = go (next i) refl
    where
      go : (κ : Symbol) → next i ≡ κ → Leaves true (element_by g b κ i) i
      go k.Comma is = token_takes (λ ends. cc (is, ends))
      go _ is = bind_leaves (h.expression (part.Assignment false) i) element_close_shrinks

  pub property_takes : Takes (property g b)
  unfolding property
  property_takes i = go (property_name (head i))
    where
      go : (o : Option PropertyName) → Leaves true (property_by g b (head i) o i) i
      go None = refuse_leaves
      go (Some name) = behind_leaves (bind_leaves (expect_shrinks k.Colon (behind i))
          (λ t r. value_leaves _ (h.expression (part.Assignment false) r)))

  pub function_body_takes : Takes (function_body g b)
  unfolding function_body
  function_body_takes i = bind_leaves (opening_takes g k.OpenBrace (λ e. cc e) i) (λ t r.
      bind_leaves (until_shrinks (h.statement function_context (of_statement.Whole 0 true))
      is_close_brace r) (λ body s. value_leaves _ (expect_shrinks k.CloseBrace s)))

  pub parameters_takes : Takes (parameters g b)
  unfolding parameters
  parameters_takes i = bind_leaves (opening_takes g k.OpenParenthesis (λ e. cc e) i)
      (λ t. listed_takes (declared_takes g) k.CloseParenthesis (λ e. cc e))

  pub function_takes : (required : Bool) → Takes (function g b required)
  unfolding function
  function_takes required i = bind_leaves (expect_shrinks k.Function i) (λ t r.
      bind_leaves (function_name_shrinks g required r) (λ name s.
      bind_leaves (parameters_takes s) (λ xs l. value_leaves _ (function_body_takes l))))

  -- ---- primary expressions

  array_takes : Takes (array g b)
  unfolding array
  array_takes i = bind_leaves (enter_shrinks g i) (λ t r.
      bind_leaves (until_shrinks element_takes is_close_bracket r) (λ xs s.
      value_leaves _ (expect_takes k.CloseBracket (λ e. cc e) s)))

  object_takes : Takes (object g b)
  unfolding object
  object_takes i = bind_leaves (enter_shrinks g i) (λ t r.
      value_leaves _ (listed_takes property_takes k.CloseBrace (λ e. cc e) r))

  parenthesized_takes : Takes (parenthesized g b)
  unfolding parenthesized
  parenthesized_takes i = bind_leaves (enter_shrinks g i) (λ t r.
      bind_leaves (h.expression (part.Whole false) r) (λ x s.
      value_leaves _ (expect_shrinks k.CloseParenthesis s)))

  literal_takes : Takes (literal g b)
  unfolding literal
  literal_takes i = go (literal_of (head i)) refl
    where
      go : (o : Option Primitive) → literal_of (head i) ≡ o
          → Leaves true (literal_by g b (head i) o i) i
      go None is = refuse_leaves
      go (Some value) is = token_takes (literal_more (head i) value is)

  pub primary_takes : Takes (primary g b)
  unfolding primary
  primary_takes i = go (next i) refl
    where
      go : (κ : Symbol) → next i ≡ κ → Leaves true (primary_by g b (head i) κ i) i
      go k.This is = token_takes (λ ends. cc (is, ends))
      go k.Name is = token_takes (λ ends. cc (is, ends))
      go k.OpenBracket is = array_takes i
      go k.OpenBrace is = object_takes i
      go k.OpenParenthesis is = parenthesized_takes i
      go k.Function is = value_leaves _ (function_takes false i)
      go k.Divide is = unless_leaves g RegExp (token_takes (λ ends. cc (is, ends)))
      go k.DivideAssign is = unless_leaves g RegExp (token_takes (λ ends. cc (is, ends)))
      go _ is = literal_takes i

  -- ---- members and calls

  pub chain_head_takes : Takes (chain_head g b)
  unfolding chain_head
  chain_head_takes i = go (next i)
    where
      go : (κ : Symbol) → Leaves true (head_by g b (head i) κ i) i
      go k.New = bind_leaves (enter_shrinks g i) (λ t. h.expression (part.Created (head i).place))
      go _ = primary_takes i

  dotted_takes : Takes (dotted g b)
  unfolding dotted
  dotted_takes i = behind_leaves (value_leaves _ (expect_takes k.Name (λ e. cc e) (behind i)))

  indexed_takes : Takes (indexed g b)
  unfolding indexed
  indexed_takes i = bind_leaves (enter_shrinks g i) (λ t r.
      bind_leaves (h.expression (part.Whole false) r) (λ x s.
      value_leaves _ (expect_shrinks k.CloseBracket s)))

  pub property_suffix_takes : Takes (property_suffix g b)
  unfolding property_suffix
  property_suffix_takes i = go (next i)
    where
      go : (κ : Symbol) → Leaves true (property_suffix_by g b κ i) i
      go k.Dot = dotted_takes i
      go k.OpenBracket = indexed_takes i
      go _ = refuse_leaves

  arguments_takes : Takes (arguments g b)
  unfolding arguments
  arguments_takes i = bind_leaves (enter_shrinks g i)
      (λ t. listed_takes (h.expression (part.Assignment false)) k.CloseParenthesis (λ e. cc e))

  pub any_suffix_takes : Takes (any_suffix g b)
  unfolding any_suffix
  any_suffix_takes i = go (next i)
    where
      go : (κ : Symbol) → Leaves true (any_suffix_by g b (head i) κ i) i
      go k.OpenParenthesis = value_leaves _ (arguments_takes i)
      go _ = property_suffix_takes i

  member_takes : Takes (member g b)
  unfolding member
  member_takes i = bind_leaves (chain_head_takes i)
      (λ x r. value_leaves _ (until_shrinks property_suffix_takes _ r))

  pub created_by_shrinks : (place : Place) (x : Expression) (κ : Symbol)
      → Shrinks (created_by g b place x κ)
  created_by_shrinks place x k.OpenParenthesis i =
      takes_shrinks (value_leaves _ (arguments_takes i))
  created_by_shrinks place x _ i = pure_shrinks

  created_takes : (place : Place) → Takes (created g b place)
  unfolding created
  created_takes place i =
      bind_leaves (member_takes i) (λ x r. created_by_shrinks place x (next r) r)

  pub left_hand_takes : Takes (left_hand g b)
  unfolding left_hand
  left_hand_takes i = bind_leaves (chain_head_takes i)
      (λ x r. value_leaves _ (until_shrinks any_suffix_takes _ r))

  -- ---- operators

  updated_behind_shrinks : (x : Expression) (t : Token) (o : UpdateOperator) (c : Bool)
      → Shrinks (updated_behind g b x t o c)
  updated_behind_shrinks x t o false i = refuse_leaves
  updated_behind_shrinks x t o true i = token_shrinks

  pub postfix_by_shrinks : (x : Expression) (t : Token) (o : Option UpdateOperator)
      → Shrinks (postfix_by g b x t o)
  postfix_by_shrinks x t None i = pure_shrinks
  postfix_by_shrinks x t (Some o) i = updated_behind_shrinks x t o (is_reference x) i

  postfix_takes : Takes (postfix g b)
  unfolding postfix
  postfix_takes i = bind_leaves (left_hand_takes i)
      (λ x r. postfix_by_shrinks x (head r) (postfix_of (head r)) r)

  pub unary_takes : Takes (unary g b)
  unfolding unary
  unary_takes i = go (unary_operator (next i)) (prefix_update (next i))
    where
      go : (o : Option UnaryOperator) (update : Option UpdateOperator)
          → Leaves true (unary_by g b (head i) o update i) i
      go (Some o) update = bind_leaves (enter_shrinks g i)
          (λ t r. value_leaves _ (h.expression part.Unary r))
      go None (Some o) = bind_leaves (enter_shrinks g i)
          (λ t r. value_leaves _ (h.expression (part.Updated (head i).place) r))
      go None None = postfix_takes i

  pub operand_close_shrinks : (place : Place) (x : Expression) → Shrinks (operand_close g b place x)
  unfolding operand_close
  operand_close_shrinks place x i = go (is_reference x) (postfix_of (head i))
    where
      go : (c : Bool) (o : Option UpdateOperator)
          → Leaves false (operand_by g b place x (head i) c o i) i
      go false o = unless_leaves g (Operand place) pure_shrinks
      go true None = pure_shrinks
      go true (Some o) = unless_leaves g (Broken place) token_shrinks

  updated_takes : (place : Place) → Takes (updated g b place)
  unfolding updated
  updated_takes place i = go (is_prefix (next i))
    where
      go : (c : Bool) → Leaves true (updated_by g b place c i) i
      go true = unless_leaves g (Broken place) (unary_takes i)
      go false = bind_leaves (left_hand_takes i) (operand_close_shrinks place)

  module _ (no_in : Bool) (l : ℕ) {one : Parser Expression} (takes : Takes one) where
    pub operation_takes : Takes (operation g b no_in l one)
    unfolding operation
    operation_takes i = go (binary_operator no_in l (next i))
      where
        go : (o : Option BinaryOperator) → Leaves true (operation_by g b one (head i) o i) i
        go None = refuse_leaves
        go (Some o) = behind_leaves (value_leaves _ (takes (behind i)))

    level_takes : Takes (level g b no_in l one)
    unfolding level
    level_takes i =
        bind_leaves (takes i) (λ x r. value_leaves _ (until_shrinks operation_takes _ r))

  pub binary_takes : (no_in : Bool) (l : ℕ) → Takes (binary g b no_in l)
  unfolding binary
  binary_takes no_in zero = unary_takes
  binary_takes no_in (suc l) = level_takes no_in (suc l) (binary_takes no_in l)

  pub conditional_by_shrinks : (no_in : Bool) (place : Place) (x : Expression) (κ : Symbol)
      → Shrinks (conditional_by g b no_in place x κ)
  conditional_by_shrinks no_in place x k.Question i = takes_shrinks (bind_leaves
      (enter_shrinks g i) (λ t r. bind_leaves (h.expression (part.Assignment no_in) r) (λ y l.
      bind_leaves (expect_shrinks k.Colon l) (λ u m.
      value_leaves _ (h.expression (part.Assignment no_in) m)))))
  conditional_by_shrinks no_in place x _ i = pure_shrinks

  conditional_takes : (no_in : Bool) → Takes (conditional g b no_in)
  unfolding conditional
  conditional_takes no_in i = bind_leaves (binary_takes no_in levels i)
      (λ x r. conditional_by_shrinks no_in (head i).place x (next r) r)

  assigned_shrinks : (no_in : Bool) (x : Expression) (t : Token) (o : Option BinaryOperator)
      (c : Bool) → Shrinks (assigned g b no_in x t o c)
  assigned_shrinks no_in x t o false i = refuse_leaves
  assigned_shrinks no_in x t o true i = takes_shrinks (bind_leaves (enter_shrinks g i)
      (λ u r. value_leaves _ (h.expression (part.Assignment no_in) r)))

  pub assignment_by_shrinks : (no_in : Bool) (x : Expression) (t : Token)
      (o : Option (Option BinaryOperator)) → Shrinks (assignment_by g b no_in x t o)
  assignment_by_shrinks no_in x t None i = pure_shrinks
  assignment_by_shrinks no_in x t (Some o) i = assigned_shrinks no_in x t o (is_reference x) i

  pub assignment_takes : (no_in : Bool) → Takes (assignment g b no_in)
  unfolding assignment
  assignment_takes no_in i = bind_leaves (conditional_takes no_in i)
      (λ x r. assignment_by_shrinks no_in x (head r) (assignment_operator (next r)) r)

  pub whole_takes : (no_in : Bool) → Takes (whole g b no_in)
  unfolding whole
  whole_takes no_in i = value_leaves _ (separated_takes (assignment_takes no_in) i)

  -- each part
  pub expression_part_takes : (p : ExpressionPart) → Takes (expression_part g b p)
  unfolding expression_part
  expression_part_takes (part.Whole no_in) = whole_takes no_in
  expression_part_takes (part.Assignment no_in) = assignment_takes no_in
  expression_part_takes part.Unary = unary_takes
  expression_part_takes (part.Updated place) = updated_takes place
  expression_part_takes (part.Created place) = created_takes place
