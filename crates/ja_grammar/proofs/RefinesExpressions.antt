-- Every rule of expressions reads the same by both rules, unless the first refuses for want of what
-- the second doesn't ask.
use Rattle.std.proofs.Common.{◌≡◌, ℕ, zero, suc, Bool, true, false, not, length, Option, Some, None, is_none, refl, le_refl}
use Rattle.ja_base.specs.declared.ids.Place.{Place}
use Rattle.ja_prim.specs.declared.primitive.Primitive.{Primitive}
use Rattle.ja_lex.specs.declared.token.Token.{Token}
use Rattle.ja_syntax.specs.declared.symbol.Symbol.{Symbol}
use Rattle.ja_syntax.specs.declared.symbol.Symbol.TheVariants as k
use Rattle.ja_syntax.specs.declared.tree.BinaryOperator.{BinaryOperator}
use Rattle.ja_syntax.specs.declared.tree.Expression.{Expression}
use Rattle.ja_syntax.specs.declared.tree.PropertyName.{PropertyName}
use Rattle.ja_syntax.specs.declared.tree.UnaryOperator.{UnaryOperator}
use Rattle.ja_syntax.specs.declared.tree.UpdateOperator.{UpdateOperator}
use Rattle.ja_syntax.specs.References.{is_reference}
use Rattle.ja_syntax.specs.Symbols.{is_arguments}
use Rattle.ja_grammar.specs.declared.fault.Refusal.TheVariants.{RegExp, Arguments, Broken, Operand, Deep}
use Rattle.ja_grammar.specs.declared.part.ExpressionPart.{ExpressionPart}
use Rattle.ja_grammar.specs.declared.part.ExpressionPart.TheVariants as part
use Rattle.ja_grammar.specs.declared.part.StatementPart.TheVariants as of_statement
use Rattle.ja_grammar.specs.Contexts.{function_context}
use Rattle.ja_grammar.specs.Forms.{literal_of, property_name, begins_property, begins_suffix, postfix_of, is_prefix}
use Rattle.ja_grammar.specs.Input.{Tokens, head, next, behind, Done, Parser, enter, expect, Rules}
use Rattle.ja_grammar.specs.Operators.{binary_operator, levels, unary_operator, prefix_update, assignment_operator}
use Rattle.ja_grammar.specs.Productions.{HasRoom}
use Rattle.ja_grammar.specs.ReadExpression.{Below, declared, declared_by, declared_name, function_name, function_name_by, is_close_brace, is_close_bracket, element, element_by, element_close, property, property_by, function_body, parameters, function, array, object, parenthesized, literal, literal_by, regular_expression, primary, primary_by, chain_head, head_by, dotted, indexed, property_suffix, property_suffix_by, arguments, any_suffix, any_suffix_by, member, created, created_by, left_hand, postfix, postfix_by, updated_behind, operand_close, operand_by, updated, updated_by, unary, unary_by, operation, operation_by, level, binary, conditional, conditional_by, assigned, assignment, assignment_by, whole, expression_part}
use Rattle.ja_grammar.proofs.Outcomes.{entered}
use Rattle.ja_grammar.proofs.Refines.{Lenient, Refines, same, AsksEach, RefinesBelow, bind_refines, then_refines, tail_refines, value_refines, unless_refines, enter_refines, opening_refines, opened, until_refines, separated_refines, listed_refines}
use Rattle.ja_grammar.proofs.Shrinks.{Takes, bind_leaves, value_leaves, behind_shrinks, expect_shrinks, until_shrinks, listed_takes}
use Rattle.ja_grammar.proofs.ExpressionTakes.{declared_takes, element_takes, element_close_shrinks, property_takes, function_body_takes, parameters_takes, property_suffix_takes, any_suffix_takes, created_by_shrinks, postfix_by_shrinks, unary_takes, operand_close_shrinks, operation_takes, binary_takes, conditional_by_shrinks, assignment_by_shrinks, assignment_takes}

-- ---- names

module _ {C : Lenient} {g g' : Rules} (asks : AsksEach C g g') where
  pub declared_refines : (i : Tokens) → Refines C (declared g i) (declared g' i)
  unfolding declared
  declared_refines i = go (next i)
    where
      named : (x : Bool) → Refines C (declared_name g (head i) x i) (declared_name g' (head i) x i)
      named true =
          unless_refines g g' Arguments i (asks Arguments i) (λ _. same refl) (behind_shrinks i)
      named false = same refl

      go : (κ : Symbol) → Refines C (declared_by g (head i) κ i) (declared_by g' (head i) κ i)
      go k.Name = named (is_arguments (head i).kind)
      go _ = same refl

  pub function_name_refines : (required : Bool) (i : Tokens)
      → Refines C (function_name g required i) (function_name g' required i)
  unfolding function_name
  function_name_refines required i = go required (next i)
    where
      go : (required : Bool) (κ : Symbol) → Refines C (function_name_by g required κ i)
          (function_name_by g' required κ i)
      go required k.Name = value_refines _ (declared_refines i)
      go true _ = same refl
      go false _ = same refl

module _ {C : Lenient} {g g' : Rules} {b b' : Below} (h : RefinesBelow C g g' b b') where
  -- a token that counts
  enters : (i : Tokens) → Refines C (enter g i) (enter g' i)
  enters i = enter_refines g g' i (h.asks Deep i)

  -- a part behind a token that was entered
  lower : (i : Tokens) {t : Token} {r : Tokens} → enter g i ≡ Done t r
      → (p : ExpressionPart) (j : Tokens) → Refines C (b.expression p j) (b'.expression p j)
  lower i e = h.expression i (entered g i e)

  -- ---- array and object literals, functions

  pub element_close_refines : (x : Expression) (i : Tokens)
      → Refines C (element_close g b x i) (element_close g' b' x i)
  unfolding element_close
  element_close_refines x i = same refl

  -- the items of the lists, where a token was entered
  pub element_refines : (i : Tokens) → HasRoom g i → (j : Tokens)
      → Refines C (element g b j) (element g' b' j)
  unfolding element
  element_refines i room j = go (next j)
    where
      go : (κ : Symbol) → Refines C (element_by g b κ j) (element_by g' b' κ j)
      go k.Comma = same refl
      go _ =
          bind_refines (h.expression i room (part.Assignment false) j)
          (λ x r _. element_close_refines x r) (λ x r. element_close_shrinks g' h.takes x r)

  pub property_refines : (i : Tokens) → HasRoom g i → (j : Tokens)
      → Refines C (property g b j) (property g' b' j)
  unfolding property
  property_refines i room j = go (property_name (head j))
    where
      go : (o : Option PropertyName) → Refines C (property_by g b (head j) o j)
          (property_by g' b' (head j) o j)
      go None = same refl
      go (Some name) =
          then_refines (expect k.Colon (behind j))
          (λ t r _. value_refines _ (h.expression i room (part.Assignment false) r))

  pub function_body_refines : (i : Tokens) → Refines C (function_body g b i) (function_body g' b' i)
  unfolding function_body
  function_body_refines i =
      bind_refines (opening_refines g g' k.OpenBrace i (h.asks Deep i)) (λ t r e.
      tail_refines (until_refines (b.statement function_context (of_statement.Whole 0 true))
      (b'.statement function_context (of_statement.Whole 0 true))
      (h.statement Deep i refl (opened g k.OpenBrace i e) function_context
      (of_statement.Whole 0 true)) (h.takes.statement function_context
      (of_statement.Whole 0 true)) is_close_brace r)
      (λ body s. value_leaves _ (expect_shrinks k.CloseBrace s)))
      (λ t r. bind_leaves (until_shrinks (h.takes.statement function_context
      (of_statement.Whole 0 true)) is_close_brace r)
      (λ body s. value_leaves _ (expect_shrinks k.CloseBrace s)))

  pub parameters_refines : (i : Tokens) → Refines C (parameters g b i) (parameters g' b' i)
  unfolding parameters
  parameters_refines i =
      bind_refines (opening_refines g g' k.OpenParenthesis i (h.asks Deep i)) (λ t r _.
      listed_refines (declared g) (declared g') (declared_refines h.asks) (declared_takes g')
      k.CloseParenthesis r)
      (λ t r. listed_takes (declared_takes g') k.CloseParenthesis (λ e. cc e) r)

  pub function_refines : (required : Bool) (i : Tokens)
      → Refines C (function g b required i) (function g' b' required i)
  unfolding function
  function_refines required i =
      then_refines (expect k.Function i) (λ t r _.
      bind_refines (function_name_refines h.asks required r) (λ name s _.
      bind_refines (parameters_refines s) (λ xs l _. value_refines _ (function_body_refines l))
      (λ xs l. value_leaves _ (function_body_takes g' h.takes l)))
      (λ name s. bind_leaves (parameters_takes g' h.takes s)
      (λ xs l. value_leaves _ (function_body_takes g' h.takes l))))

  -- ---- primary expressions

  pub array_refines : (i : Tokens) → Refines C (array g b i) (array g' b' i)
  unfolding array
  array_refines i = bind_refines (enters i) (λ t r e.
      tail_refines (until_refines (element g b) (element g' b') (element_refines i (entered g i e))
      (element_takes g' h.takes) is_close_bracket r)
      (λ xs s. value_leaves _ (expect_shrinks k.CloseBracket s)))
      (λ t r. bind_leaves (until_shrinks (element_takes g' h.takes) is_close_bracket r)
      (λ xs s. value_leaves _ (expect_shrinks k.CloseBracket s)))

  pub object_refines : (i : Tokens) → Refines C (object g b i) (object g' b' i)
  unfolding object
  object_refines i = bind_refines (enters i) (λ t r e.
      value_refines _ (listed_refines (property g b) (property g' b')
      (property_refines i (entered g i e)) (property_takes g' h.takes) k.CloseBrace r))
      (λ t r. value_leaves _ (listed_takes (property_takes g' h.takes) k.CloseBrace (λ e. cc e) r))

  pub parenthesized_refines : (i : Tokens) → Refines C (parenthesized g b i) (parenthesized g' b' i)
  unfolding parenthesized
  parenthesized_refines i =
      bind_refines (enters i) (λ t r e. tail_refines (lower i e (part.Whole false) r)
      (λ x s. value_leaves _ (expect_shrinks k.CloseParenthesis s)))
      (λ t r. bind_leaves (h.takes.expression (part.Whole false) r)
      (λ x s. value_leaves _ (expect_shrinks k.CloseParenthesis s)))

  pub literal_refines : (i : Tokens) → Refines C (literal g b i) (literal g' b' i)
  unfolding literal
  literal_refines i = go (literal_of (head i))
    where
      go : (o : Option Primitive) → Refines C (literal_by g b (head i) o i)
          (literal_by g' b' (head i) o i)
      go None = same refl
      go (Some value) = same refl

  pub primary_refines : (i : Tokens) → Refines C (primary g b i) (primary g' b' i)
  unfolding primary
  primary_refines i = go (next i)
    where
      regular : Refines C (regular_expression g b (head i) i) (regular_expression g' b' (head i) i)
      regular = unless_refines g g' RegExp i (h.asks RegExp i) (λ _. same refl) (behind_shrinks i)

      go : (κ : Symbol) → Refines C (primary_by g b (head i) κ i) (primary_by g' b' (head i) κ i)
      go k.This = same refl
      go k.Name = same refl
      go k.OpenBracket = array_refines i
      go k.OpenBrace = object_refines i
      go k.OpenParenthesis = parenthesized_refines i
      go k.Function = value_refines _ (function_refines false i)
      go k.Divide = regular
      go k.DivideAssign = regular
      go _ = literal_refines i

  -- ---- members and calls

  pub chain_head_refines : (i : Tokens) → Refines C (chain_head g b i) (chain_head g' b' i)
  unfolding chain_head
  chain_head_refines i = go (next i)
    where
      go : (κ : Symbol) → Refines C (head_by g b (head i) κ i) (head_by g' b' (head i) κ i)
      go k.New =
          bind_refines (enters i) (λ t r e. lower i e (part.Created (head i).place) r)
          (λ t r. h.takes.expression (part.Created (head i).place) r)
      go _ = primary_refines i

  pub dotted_refines : (i : Tokens) → Refines C (dotted g b i) (dotted g' b' i)
  unfolding dotted
  dotted_refines i = same refl

  pub indexed_refines : (i : Tokens) → Refines C (indexed g b i) (indexed g' b' i)
  unfolding indexed
  indexed_refines i =
      bind_refines (enters i) (λ t r e. tail_refines (lower i e (part.Whole false) r)
      (λ x s. value_leaves _ (expect_shrinks k.CloseBracket s)))
      (λ t r. bind_leaves (h.takes.expression (part.Whole false) r)
      (λ x s. value_leaves _ (expect_shrinks k.CloseBracket s)))

  pub property_suffix_refines : (i : Tokens)
      → Refines C (property_suffix g b i) (property_suffix g' b' i)
  unfolding property_suffix
  property_suffix_refines i = go (next i)
    where
      go : (κ : Symbol) → Refines C (property_suffix_by g b κ i) (property_suffix_by g' b' κ i)
      go k.Dot = dotted_refines i
      go k.OpenBracket = indexed_refines i
      go _ = same refl

  pub arguments_refines : (i : Tokens) → Refines C (arguments g b i) (arguments g' b' i)
  unfolding arguments
  arguments_refines i = bind_refines (enters i) (λ t r e.
      listed_refines (b.expression (part.Assignment false)) (b'.expression (part.Assignment false))
      (lower i e (part.Assignment false)) (h.takes.expression (part.Assignment false))
      k.CloseParenthesis r)
      (λ t r. listed_takes (h.takes.expression (part.Assignment false)) k.CloseParenthesis
      (λ e. cc e) r)

  pub any_suffix_refines : (i : Tokens) → Refines C (any_suffix g b i) (any_suffix g' b' i)
  unfolding any_suffix
  any_suffix_refines i = go (next i)
    where
      go : (κ : Symbol) → Refines C (any_suffix_by g b (head i) κ i)
          (any_suffix_by g' b' (head i) κ i)
      go k.OpenParenthesis = value_refines _ (arguments_refines i)
      go _ = property_suffix_refines i

  pub member_refines : (i : Tokens) → Refines C (member g b i) (member g' b' i)
  unfolding member
  member_refines i = bind_refines (chain_head_refines i) (λ x r _.
      value_refines _ (until_refines (property_suffix g b) (property_suffix g' b')
      property_suffix_refines (property_suffix_takes g' h.takes)
      (λ found. not (begins_property found)) r))
      (λ x r. value_leaves _ (until_shrinks (property_suffix_takes g' h.takes)
      (λ found. not (begins_property found)) r))

  pub created_refines : (place : Place) (i : Tokens)
      → Refines C (created g b place i) (created g' b' place i)
  unfolding created
  created_refines place i =
      bind_refines (member_refines i) (λ x r _. go x r (next r))
      (λ x r. created_by_shrinks g' h.takes place x (next r) r)
    where
      go : (x : Expression) (r : Tokens) (κ : Symbol)
          → Refines C (created_by g b place x κ r) (created_by g' b' place x κ r)
      go x r k.OpenParenthesis = value_refines _ (arguments_refines r)
      go x r _ = same refl

  pub left_hand_refines : (i : Tokens) → Refines C (left_hand g b i) (left_hand g' b' i)
  unfolding left_hand
  left_hand_refines i = bind_refines (chain_head_refines i) (λ x r _.
      value_refines _ (until_refines (any_suffix g b) (any_suffix g' b') any_suffix_refines
      (any_suffix_takes g' h.takes) (λ found. not (begins_suffix found)) r))
      (λ x r. value_leaves _ (until_shrinks (any_suffix_takes g' h.takes)
      (λ found. not (begins_suffix found)) r))

  -- ---- operators

  pub postfix_refines : (i : Tokens) → Refines C (postfix g b i) (postfix g' b' i)
  unfolding postfix
  postfix_refines i =
      bind_refines (left_hand_refines i) (λ x r _. go x r (postfix_of (head r)))
      (λ x r. postfix_by_shrinks g' h.takes x (head r) (postfix_of (head r)) r)
    where
      behind_by : (x : Expression) (r : Tokens) (o : UpdateOperator) (c : Bool)
          → Refines C (updated_behind g b x (head r) o c r) (updated_behind g' b' x (head r) o c r)
      behind_by x r o false = same refl
      behind_by x r o true = same refl

      go : (x : Expression) (r : Tokens) (o : Option UpdateOperator)
          → Refines C (postfix_by g b x (head r) o r) (postfix_by g' b' x (head r) o r)
      go x r None = same refl
      go x r (Some o) = behind_by x r o (is_reference x)

  pub unary_refines : (i : Tokens) → Refines C (unary g b i) (unary g' b' i)
  unfolding unary
  unary_refines i = go (unary_operator (next i)) (prefix_update (next i))
    where
      go : (o : Option UnaryOperator) (update : Option UpdateOperator)
          → Refines C (unary_by g b (head i) o update i) (unary_by g' b' (head i) o update i)
      go (Some o) update =
          bind_refines (enters i) (λ t r e. value_refines _ (lower i e part.Unary r))
          (λ t r. value_leaves _ (h.takes.expression part.Unary r))
      go None (Some o) =
          bind_refines (enters i) (λ t r e. value_refines _
          (lower i e (part.Updated (head i).place) r))
          (λ t r. value_leaves _ (h.takes.expression (part.Updated (head i).place) r))
      go None None = postfix_refines i

  pub operand_close_refines : (place : Place) (x : Expression) (i : Tokens)
      → Refines C (operand_close g b place x i) (operand_close g' b' place x i)
  unfolding operand_close
  operand_close_refines place x i = go (is_reference x) (postfix_of (head i))
    where
      go : (c : Bool) (o : Option UpdateOperator)
          → Refines C (operand_by g b place x (head i) c o i)
          (operand_by g' b' place x (head i) c o i)
      go false o =
          unless_refines g g' (Operand place) i (h.asks (Operand place) i) (λ _. same refl)
          (le_refl (length i))
      go true None = same refl
      go true (Some o) =
          unless_refines g g' (Broken place) i (h.asks (Broken place) i) (λ _. same refl)
          (behind_shrinks i)

  pub updated_refines : (place : Place) (i : Tokens)
      → Refines C (updated g b place i) (updated g' b' place i)
  unfolding updated
  updated_refines place i = go (is_prefix (next i))
    where
      go : (c : Bool) → Refines C (updated_by g b place c i) (updated_by g' b' place c i)
      go true =
          unless_refines g g' (Broken place) i (h.asks (Broken place) i) (λ _. unary_refines i)
          (unary_takes g' h.takes i).within
      go false =
          bind_refines (left_hand_refines i) (λ x r _. operand_close_refines place x r)
          (λ x r. operand_close_shrinks g' h.takes place x r)

  pub operation_refines : (no_in : Bool) (l : ℕ) (one one' : Parser Expression)
      → ((i : Tokens) → Refines C (one i) (one' i))
      → (i : Tokens) → Refines C (operation g b no_in l one i) (operation g' b' no_in l one' i)
  unfolding operation
  operation_refines no_in l one one' below i = go (binary_operator no_in l (next i))
    where
      go : (o : Option BinaryOperator) → Refines C (operation_by g b one (head i) o i)
          (operation_by g' b' one' (head i) o i)
      go None = same refl
      go (Some o) = value_refines _ (below (behind i))

  pub level_refines : (no_in : Bool) (l : ℕ) (one one' : Parser Expression)
      → ((i : Tokens) → Refines C (one i) (one' i)) → Takes one'
      → (i : Tokens) → Refines C (level g b no_in l one i) (level g' b' no_in l one' i)
  unfolding level
  level_refines no_in l one one' below within i = bind_refines (below i) (λ x r _.
      value_refines _ (until_refines (operation g b no_in l one) (operation g' b' no_in l one')
      (operation_refines no_in l one one' below) (operation_takes g' h.takes no_in l within)
      (λ found. is_none (binary_operator no_in l found)) r))
      (λ x r. value_leaves _ (until_shrinks (operation_takes g' h.takes no_in l within) _ r))

  pub binary_refines : (no_in : Bool) (l : ℕ) (i : Tokens)
      → Refines C (binary g b no_in l i) (binary g' b' no_in l i)
  unfolding binary
  binary_refines no_in zero = unary_refines
  binary_refines no_in (suc l) =
      level_refines no_in (suc l) (binary g b no_in l) (binary g' b' no_in l)
      (binary_refines no_in l) (binary_takes g' h.takes no_in l)

  pub conditional_refines : (no_in : Bool) (i : Tokens)
      → Refines C (conditional g b no_in i) (conditional g' b' no_in i)
  unfolding conditional
  conditional_refines no_in i =
      bind_refines (binary_refines no_in levels i) (λ x r _. go x r (next r))
      (λ x r. conditional_by_shrinks g' h.takes no_in (head i).place x (next r) r)
    where
      go : (x : Expression) (r : Tokens) (κ : Symbol)
          → Refines C (conditional_by g b no_in (head i).place x κ r)
          (conditional_by g' b' no_in (head i).place x κ r)
      go x r k.Question =
          bind_refines (enters r) (λ t s e. bind_refines (lower r e (part.Assignment no_in) s)
          (λ y l _.
          then_refines (expect k.Colon l) (λ u m _.
          value_refines _ (lower r e (part.Assignment no_in) m)))
          (λ y l. bind_leaves (expect_shrinks k.Colon l)
          (λ u m. value_leaves _ (h.takes.expression (part.Assignment no_in) m))))
          (λ t s. bind_leaves (h.takes.expression (part.Assignment no_in) s) (λ y l.
          bind_leaves (expect_shrinks k.Colon l)
          (λ u m. value_leaves _ (h.takes.expression (part.Assignment no_in) m))))
      go x r _ = same refl

  pub assignment_refines : (no_in : Bool) (i : Tokens)
      → Refines C (assignment g b no_in i) (assignment g' b' no_in i)
  unfolding assignment
  assignment_refines no_in i =
      bind_refines (conditional_refines no_in i) (λ x r _. go x r (assignment_operator (next r)))
      (λ x r. assignment_by_shrinks g' h.takes no_in x (head r) (assignment_operator (next r)) r)
    where
      behind_by : (x : Expression) (r : Tokens) (o : Option BinaryOperator) (c : Bool)
          → Refines C (assigned g b no_in x (head r) o c r) (assigned g' b' no_in x (head r) o c r)
      behind_by x r o false = same refl
      behind_by x r o true =
          bind_refines (enters r) (λ t s e. value_refines _ (lower r e (part.Assignment no_in) s))
          (λ t s. value_leaves _ (h.takes.expression (part.Assignment no_in) s))

      go : (x : Expression) (r : Tokens) (o : Option (Option BinaryOperator))
          → Refines C (assignment_by g b no_in x (head r) o r)
          (assignment_by g' b' no_in x (head r) o r)
      go x r None = same refl
      go x r (Some o) = behind_by x r o (is_reference x)

  pub whole_refines : (no_in : Bool) (i : Tokens)
      → Refines C (whole g b no_in i) (whole g' b' no_in i)
  unfolding whole
  whole_refines no_in i =
      value_refines _ (separated_refines (assignment g b no_in) (assignment g' b' no_in)
      (assignment_refines no_in) (assignment_takes g' h.takes no_in) i)

  -- each part
  pub expression_part_refines : (p : ExpressionPart) (i : Tokens)
      → Refines C (expression_part g b p i) (expression_part g' b' p i)
  unfolding expression_part
  expression_part_refines (part.Whole no_in) = whole_refines no_in
  expression_part_refines (part.Assignment no_in) = assignment_refines no_in
  expression_part_refines part.Unary = unary_refines
  expression_part_refines (part.Updated place) = updated_refines place
  expression_part_refines (part.Created place) = created_refines place
