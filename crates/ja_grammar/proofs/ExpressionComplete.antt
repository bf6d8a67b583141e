-- Every expression of the grammar is read.
use Rattle.std.proofs.Common.{◌≡◌, ◌≢◌, inl, inr, ℕ, zero, suc, Bool, true, false, not, ◌||◌, is_none, is_some, List, [], ◌∷◌, Option, Some, None, refl, ap, ◌∙◌}
use Rattle.ja_base.specs.declared.ids.Place.{Place}
use Rattle.ja_prim.specs.declared.primitive.Primitive.{Primitive}
use Rattle.ja_lex.specs.declared.token.Token.{Token}
use Rattle.ja_syntax.specs.declared.symbol.Symbol.{Symbol}
use Rattle.ja_syntax.specs.declared.symbol.Symbol.TheVariants as k
use Rattle.ja_syntax.specs.declared.tree.Expression.{Expression}
use Rattle.ja_syntax.specs.declared.tree.Expression.TheVariants as e
use Rattle.ja_syntax.specs.declared.tree.FunctionOf.{FunctionOf}
use Rattle.ja_syntax.specs.declared.tree.Name.{Name}
use Rattle.ja_syntax.specs.declared.tree.Operation.{Operation}
use Rattle.ja_syntax.specs.declared.tree.Property.{Property}
use Rattle.ja_syntax.specs.declared.tree.Statement.{Statement}
use Rattle.ja_syntax.specs.declared.tree.Suffix.{Suffix}
use Rattle.ja_syntax.specs.declared.tree.Suffix.TheVariants as suffix
use Rattle.ja_syntax.specs.declared.tree.UnaryOperator.{UnaryOperator}
use Rattle.ja_syntax.specs.declared.tree.UpdateOperator.{UpdateOperator}
use Rattle.ja_grammar.specs.declared.fault.Refusal.TheVariants as refusal
use Rattle.ja_grammar.specs.declared.part.ExpressionPart.{ExpressionPart}
use Rattle.ja_grammar.specs.declared.part.ExpressionPart.TheVariants as part
use Rattle.ja_grammar.specs.declared.part.StatementPart.{StatementPart}
use Rattle.ja_grammar.specs.declared.part.StatementPart.TheVariants as of_statement
use Rattle.ja_grammar.specs.Contexts.{function_context}
use Rattle.ja_grammar.specs.ExpressionGrammar.{Nested, Element, OneProperty, Declared, FunctionName, Function, Primary, Head, PropertySuffix, Arguments, AnySuffix, Member, Created, LeftHand, Postfix, Unary, Operand, Level, Binary, Conditional, Assignment, Whole, Updated, ExpressionRule}
use Rattle.ja_grammar.specs.Forms.{name_of, literal_of, literal_by as literal_value, begins_property, begins_suffix, postfix_of, is_prefix}
use Rattle.ja_grammar.specs.Input.{Tokens, head, next, symbol, Done, Parser, ◌>>◌, pure, take_token, until, listed, Rules}
use Rattle.ja_grammar.specs.Operators.{binary_operator, levels, unary_operator, prefix_update}
use Rattle.ja_grammar.specs.Productions.{Rule, Is, At, HasRoom, Many, Listed}
use Rattle.ja_grammar.specs.ReadExpression.{Below, declared, declared_by, declared_name, function_name, function_name_by, is_close_brace, is_close_bracket, element, element_by, element_close, element_close_by, property, property_by, function_body, parameters, function, array, object, parenthesized, literal, literal_by, primary, primary_by, chain_head, head_by, dotted, indexed, property_suffix, property_suffix_by, arguments, any_suffix, any_suffix_by, member, created, created_by, left_hand, postfix, postfix_by, updated_behind, operand_close, operand_by, updated, updated_by, unary, unary_by, operation, operation_by, level, binary, conditional, conditional_by, assigned, assignment, assignment_by, whole, expression_part}
use Rattle.ja_grammar.proofs.Agree.{Milder, BelowTakes, Covers}
use Rattle.ja_grammar.proofs.Closing.{end_no_operator, end_no_property, end_no_suffix}
use Rattle.ja_grammar.proofs.ExpressionTakes.{declared_takes, element_takes, property_takes, property_suffix_takes, any_suffix_takes, operation_takes, binary_takes, assignment_takes}
use Rattle.ja_grammar.proofs.Lists.{separated_all, listed_all}
use Rattle.ja_grammar.proofs.Opening.{opening_done}
use Rattle.ja_grammar.proofs.Outcomes.{then_done, expect_done, unless_reads, enter_done}
use Rattle.ja_grammar.proofs.Shrinks.{Takes}
use Rattle.ja_grammar.proofs.Starts.{BelowStarts, no_close_brace, no_close_bracket, not_the_end}
use Rattle.ja_grammar.proofs.Until.{until_all}

-- ---- names

module _ (low g : Rules) (milder : Milder low g) where
  pub declared_all : (i : Tokens) (x : Name) (r : Tokens) → Declared low i x r
      → declared g i ≡ Done x r
  unfolding declared
  declared_all i x r (Declared.declared {t = t} is plain) =
      ap (λ κ. declared_by g t κ (t ∷ r)) is ∙ ap (λ c. declared_name g t c (t ∷ r)) plain
  declared_all i x r (Declared.arguments {t = t} is known off) =
      ap (λ κ. declared_by g t κ (t ∷ r)) is ∙ ap (λ c. declared_name g t c (t ∷ r)) known
      ∙ unless_reads g refusal.Arguments (take_token >> pure (name_of t)) (t ∷ r)
      (milder refusal.Arguments (t ∷ r) off)

  -- a declared name begins with a name
  declared_at : (i : Tokens) (x : Name) (r : Tokens) → Declared low i x r → next i ≡ k.Name
  declared_at i x r (Declared.declared is plain) = is
  declared_at i x r (Declared.arguments is known off) = is

  pub function_name_all : (required : Bool) (i : Tokens) (x : Option Name) (r : Tokens)
      → FunctionName low required i x r → function_name g required i ≡ Done x r
  unfolding function_name
  function_name_all required i _ r (FunctionName.named {x = x} one) =
      ap (λ κ. function_name_by g required κ i) (declared_at i x r one)
      ∙ rw (declared_all i x r one) refl
  function_name_all false i x r (FunctionName.unnamed other) = go (next r) other
    where
      go : (κ : Symbol) → κ ≢ k.Name → function_name_by g false κ r ≡ Done None r
      go k.Name h = absurd (h refl)
      go _ h = refl

-- ---- symbols

not_open : begins_property k.OpenParenthesis ≡ true → ⊥
unfolding begins_property
not_open h = cc h

no_unary : (κ : Symbol) (o : UpdateOperator) → prefix_update κ ≡ Some o → unary_operator κ ≡ None
unfolding prefix_update unary_operator
no_unary k.Increment o h = refl
no_unary k.Decrement o h = refl
no_unary _ o h = cc h

prefix_none : (κ : Symbol) → is_prefix κ ≡ false
    → (is_some (unary_operator κ) || is_some (prefix_update κ)) ≡ false
unfolding is_prefix
prefix_none κ h = h

module _ (low g : Rules) (milder : Milder low g) (n : Nested) (b : Below) (takes : BelowTakes b)
    (starts : BelowStarts b) (a : Covers n b) where
  -- what has a level left has one by milder rules
  room : (i : Tokens) → HasRoom low i → HasRoom g i
  room i some = milder refusal.Deep i some

  -- ---- array and object literals, functions

  pub element_all : (i : Tokens) (x : Option Expression) (r : Tokens) → Element n i x r
      → element g b i ≡ Done x r
  unfolding element element_close
  element_all i x r (Element.hole {t = t} is) = ap (λ κ. element_by g b κ (t ∷ r)) is
  element_all i _ r (Element.item {t = t} {x = x} other open_still one is) = go (next i) other
    where
      go : (κ : Symbol) → κ ≢ k.Comma → element_by g b κ i ≡ Done (Some x) r
      go k.Comma h = absurd (h refl)
      go _ h =
          then_done (element_close g b) (a.expression_all (part.Assignment false) i x (t ∷ r) one)
          (ap (λ κ. element_close_by g b x κ (t ∷ r)) is)
  element_all i _ r (Element.last {x = x} other open_still one at) = go (next i) other
    where
      go : (κ : Symbol) → κ ≢ k.Comma → element_by g b κ i ≡ Done (Some x) r
      go k.Comma h = absurd (h refl)
      go _ h =
          then_done (element_close g b) (a.expression_all (part.Assignment false) i x r one)
          (ap (λ κ. element_close_by g b x κ r) at)

  -- an element does not begin with what ends the elements
  element_starts : (i : Tokens) (x : Option Expression) (r : Tokens) → Element n i x r
      → is_close_bracket (next i) ≡ false
  element_starts i x r (Element.hole {t = t} is) = ap is_close_bracket is
  element_starts i _ r (Element.item {t = t} {x = x} other open_still one is) =
      no_close_bracket (next i) open_still (not_the_end (next i)
      (starts.expression false i x (t ∷ r)
      (a.expression_all (part.Assignment false) i x (t ∷ r) one)))
  element_starts i _ r (Element.last {x = x} other open_still one at) =
      no_close_bracket (next i) open_still (not_the_end (next i)
      (starts.expression false i x r (a.expression_all (part.Assignment false) i x r one)))

  property_all : (i : Tokens) (x : Property Expression) (r : Tokens) → OneProperty n i x r
      → property g b i ≡ Done x r
  unfolding property
  property_all i _ r (OneProperty.property {t = t} {u = u} {i = j} {x = x} known is one) =
      ap (λ o. property_by g b t o (t ∷ u ∷ j)) known
      ∙ rw (expect_done k.Colon u j is, a.expression_all (part.Assignment false) j x r one) refl

  statements_all : (i : Tokens) (xs : List Statement) (r : Tokens)
      → Many (n.statement function_context (of_statement.Whole 0 true)) (At k.CloseBrace) i xs r
      → until is_close_brace (b.statement function_context (of_statement.Whole 0 true)) i
      ≡ Done xs r
  statements_all =
      until_all is_close_brace (b.statement function_context p) (n.statement function_context p)
      (At k.CloseBrace) (takes.statement function_context p) refl (λ r at. ap is_close_brace at)
      (λ i x r one. no_close_brace (next i) (starts.statement function_context 0 true i x r
      (a.statement_all function_context p i x r one))) (a.statement_all function_context p)
    where
      p : StatementPart
      p = of_statement.Whole 0 true

  pub function_all : (required : Bool) (i : Tokens) (x : FunctionOf Statement) (r : Tokens)
      → Function low n required i x r → function g b required i ≡ Done x r
  unfolding function parameters function_body
  function_all required _ _ r (Function.function {t = t} {u = u} {v = v} {w = w} {i = i} {m = m}
      {l = l} {name = name} {xs = xs} {body = body} is name_is opens some listed braces more many
      closes) =
      rw (
        expect_done k.Function t i is,
        function_name_all low g milder required i name (u ∷ m) name_is,
        opening_done g k.OpenParenthesis u m (room (u ∷ m) some) opens,
        listed_all (declared g) (Declared low) (declared_takes g) k.CloseParenthesis
            (declared_all low g milder) m xs (v ∷ l) listed,
        opening_done g k.OpenBrace v l (room (v ∷ l) more) braces,
        statements_all l body (w ∷ r) many,
        expect_done k.CloseBrace w r closes,
      ) refl

  -- ---- primary expressions

  array_all : (t u : Token) (i r : Tokens) (xs : List (Option Expression)) → HasRoom low (t ∷ i)
      → Many (Element n) (At k.CloseBracket) i xs (u ∷ r) → Is k.CloseBracket u
      → array g b (t ∷ i) ≡ Done (e.Array xs t.place) r
  unfolding array
  array_all t u i r xs some many is =
      rw (
        enter_done g t i (room (t ∷ i) some),
        until_all is_close_bracket (element g b) (Element n) (At k.CloseBracket)
            (element_takes g takes) refl (λ r at. ap is_close_bracket at) element_starts element_all
            i xs (u ∷ r) many,
        expect_done k.CloseBracket u r is,
      ) refl

  object_all : (t : Token) (i r : Tokens) (xs : List (Property Expression)) → HasRoom low (t ∷ i)
      → Listed k.CloseBrace (OneProperty n) i xs r
      → object g b (t ∷ i) ≡ Done (e.Object xs t.place) r
  unfolding object
  object_all t i r xs some list =
      rw (
        enter_done g t i (room (t ∷ i) some),
        listed_all (property g b) (OneProperty n) (property_takes g takes) k.CloseBrace
            property_all i xs r list,
      ) refl

  parenthesized_all : (t u : Token) (i r : Tokens) (x : Expression) → HasRoom low (t ∷ i)
      → n.expression (part.Whole false) i x (u ∷ r) → Is k.CloseParenthesis u
      → parenthesized g b (t ∷ i) ≡ Done x r
  unfolding parenthesized
  parenthesized_all t u i r x some one is =
      rw (
        enter_done g t i (room (t ∷ i) some),
        a.expression_all (part.Whole false) i x (u ∷ r) one,
        expect_done k.CloseParenthesis u r is,
      ) refl

  literal_all : (t : Token) (r : Tokens) (value : Primitive) → literal_of t ≡ Some value
      → literal g b (t ∷ r) ≡ Done (e.Literal value t.place) r
  unfolding literal
  literal_all t r value known = ap (λ o. literal_by g b t o (t ∷ r)) known

  literal_primary : (t : Token) (r : Tokens) (value : Primitive) → literal_of t ≡ Some value
      → primary_by g b t (symbol t) (t ∷ r) ≡ Done (e.Literal value t.place) r
  unfolding literal_of
  literal_primary t r value known = go (symbol t) known
    where
      go : (κ : Symbol) → literal_value κ t ≡ Some value
          → primary_by g b t κ (t ∷ r) ≡ Done (e.Literal value t.place) r
      go k.This h = cc h
      go k.Name h = cc h
      go k.OpenBracket h = cc h
      go k.OpenBrace h = cc h
      go k.OpenParenthesis h = cc h
      go k.Function h = cc h
      go k.Divide h = cc h
      go k.DivideAssign h = cc h
      go _ h = literal_all t r value known

  function_first : (required : Bool) (i : Tokens) (x : FunctionOf Statement) (r : Tokens)
      → Function low n required i x r → next i ≡ k.Function
  function_first required _ _ r (Function.function is name_is opens some listed braces more many
      closes) = is

  pub primary_all : (i : Tokens) (x : Expression) (r : Tokens) → Primary low n i x r
      → primary g b i ≡ Done x r
  unfolding primary
  primary_all i x r (Primary.this {t = t} is) = ap (λ κ. primary_by g b t κ (t ∷ r)) is
  primary_all i x r (Primary.name {t = t} is) = ap (λ κ. primary_by g b t κ (t ∷ r)) is
  primary_all i _ r (Primary.literal {t = t} {value = value} known) =
      literal_primary t r value known
  primary_all i _ r (Primary.array {t = t} {u = u} {i = j} {xs = xs} is some many closes) =
      ap (λ κ. primary_by g b t κ (t ∷ j)) is ∙ array_all t u j r xs some many closes
  primary_all i _ r (Primary.object {t = t} {i = j} {xs = xs} is some list) =
      ap (λ κ. primary_by g b t κ (t ∷ j)) is ∙ object_all t j r xs some list
  primary_all i x r (Primary.parenthesized {t = t} {u = u} {i = j} is some one closes) =
      ap (λ κ. primary_by g b t κ (t ∷ j)) is ∙ parenthesized_all t u j r x some one closes
  primary_all i _ r (Primary.function {f = f} one) =
      ap (λ κ. primary_by g b (head i) κ i) (function_first false i f r one)
      ∙ rw (function_all false i f r one) refl
  primary_all i x r (Primary.regular_expression {t = t} (inl is) off) =
      ap (λ κ. primary_by g b t κ (t ∷ r)) is
      ∙ unless_reads g refusal.RegExp (take_token >> pure (e.This t.place)) (t ∷ r)
      (milder refusal.RegExp (t ∷ r) off)
  primary_all i x r (Primary.regular_expression {t = t} (inr is) off) =
      ap (λ κ. primary_by g b t κ (t ∷ r)) is
      ∙ unless_reads g refusal.RegExp (take_token >> pure (e.This t.place)) (t ∷ r)
      (milder refusal.RegExp (t ∷ r) off)

  -- ---- members and calls

  pub chain_head_all : (i : Tokens) (x : Expression) (r : Tokens) → Head low n i x r
      → chain_head g b i ≡ Done x r
  unfolding chain_head
  chain_head_all i x r (Head.primary other one) = go (next i) other
    where
      go : (κ : Symbol) → κ ≢ k.New → head_by g b (head i) κ i ≡ Done x r
      go k.New h = absurd (h refl)
      go _ h = primary_all i x r one
  chain_head_all i x r (Head.created {t = t} {i = j} is some one) =
      ap (λ κ. head_by g b t κ (t ∷ j)) is ∙ rw (enter_done g t j (room (t ∷ j) some))
      (a.expression_all (part.Created t.place) j x r one)

  dotted_all : (t u : Token) (r : Tokens) → Is k.Name u
      → dotted g b (t ∷ u ∷ r) ≡ Done (suffix.Member (name_of u) t.place) r
  unfolding dotted
  dotted_all t u r is = rw (expect_done k.Name u r is) refl

  indexed_all : (t u : Token) (i r : Tokens) (x : Expression) → HasRoom low (t ∷ i)
      → n.expression (part.Whole false) i x (u ∷ r) → Is k.CloseBracket u
      → indexed g b (t ∷ i) ≡ Done (suffix.Index x t.place) r
  unfolding indexed
  indexed_all t u i r x some one is =
      rw (
        enter_done g t i (room (t ∷ i) some),
        a.expression_all (part.Whole false) i x (u ∷ r) one,
        expect_done k.CloseBracket u r is,
      ) refl

  pub property_suffix_all : (i : Tokens) (x : Suffix Expression) (r : Tokens)
      → PropertySuffix low n i x r → property_suffix g b i ≡ Done x r
  unfolding property_suffix
  property_suffix_all i x r (PropertySuffix.member {t = t} {u = u} is name) =
      ap (λ κ. property_suffix_by g b κ (t ∷ u ∷ r)) is ∙ dotted_all t u r name
  property_suffix_all i _ r (PropertySuffix.index {t = t} {u = u} {i = j} {x = x} is some one
      closes) =
      ap (λ κ. property_suffix_by g b κ (t ∷ j)) is ∙ indexed_all t u j r x some one closes

  property_suffix_starts : (i : Tokens) (x : Suffix Expression) (r : Tokens)
      → PropertySuffix low n i x r → begins_property (next i) ≡ true
  unfolding begins_property
  property_suffix_starts i x r (PropertySuffix.member is name) = ap begins_property is
  property_suffix_starts i x r (PropertySuffix.index is some one closes) = ap begins_property is

  pub arguments_all : (t : Token) (i : Tokens) (xs : List Expression) (r : Tokens)
      → HasRoom low (t ∷ i) → Arguments n i xs r → arguments g b (t ∷ i) ≡ Done xs r
  unfolding arguments
  arguments_all t i xs r some list =
      rw (enter_done g t i (room (t ∷ i) some))
      (listed_all (b.expression (part.Assignment false)) (n.expression (part.Assignment false))
      (takes.expression (part.Assignment false)) k.CloseParenthesis
      (a.expression_all (part.Assignment false)) i xs r list)

  pub any_suffix_all : (i : Tokens) (x : Suffix Expression) (r : Tokens) → AnySuffix low n i x r
      → any_suffix g b i ≡ Done x r
  unfolding any_suffix
  any_suffix_all i x r (AnySuffix.property one) = go (next i) (property_suffix_starts i x r one)
    where
      go : (κ : Symbol) → begins_property κ ≡ true → any_suffix_by g b (head i) κ i ≡ Done x r
      go k.OpenParenthesis h = absurd (not_open h)
      go _ h = property_suffix_all i x r one
  any_suffix_all i _ r (AnySuffix.call {t = t} {i = j} {xs = xs} is some list) =
      ap (λ κ. any_suffix_by g b t κ (t ∷ j)) is ∙ rw (arguments_all t j xs r some list) refl

  any_suffix_starts : (i : Tokens) (x : Suffix Expression) (r : Tokens) → AnySuffix low n i x r
      → begins_suffix (next i) ≡ true
  unfolding begins_suffix
  any_suffix_starts i x r (AnySuffix.property (PropertySuffix.member is name)) = ap begins_suffix is
  any_suffix_starts i x r (AnySuffix.property (PropertySuffix.index is some one closes)) =
      ap begins_suffix is
  any_suffix_starts i x r (AnySuffix.call is some list) = ap begins_suffix is

  pub member_all : (i : Tokens) (x : Expression) (r : Tokens) → Member low n i x r
      → member g b i ≡ Done x r
  unfolding member
  member_all i _ r (Member.member {m = m} {x = x} {ss = ss} one many) =
      rw (
        chain_head_all i x m one,
        until_all (λ found. not (begins_property found)) (property_suffix g b)
            (PropertySuffix low n) (λ r. begins_property (next r) ≡ false)
            (property_suffix_takes g takes) end_no_property (λ r h. ap not h)
            (λ i x r h. ap not (property_suffix_starts i x r h)) property_suffix_all m ss r many,
      ) refl

  pub created_all : (place : Place) (i : Tokens) (x : Expression) (r : Tokens)
      → Created low n place i x r → created g b place i ≡ Done x r
  unfolding created
  created_all place i _ r (Created.with_arguments {t = t} {m = m} {x = x} {xs = xs} one is some
      list) =
      rw (member_all i x (t ∷ m) one) (ap (λ κ. created_by g b place x κ (t ∷ m)) is
      ∙ rw (arguments_all t m xs r some list) refl)
  created_all place i _ r (Created.alone {x = x} one other) =
      rw (member_all i x r one) (go (next r) other)
    where
      go : (κ : Symbol) → κ ≢ k.OpenParenthesis
          → created_by g b place x κ r ≡ Done (e.New x [] place) r
      go k.OpenParenthesis h = absurd (h refl)
      go _ h = refl

  pub left_hand_all : (i : Tokens) (x : Expression) (r : Tokens) → LeftHand low n i x r
      → left_hand g b i ≡ Done x r
  unfolding left_hand
  left_hand_all i _ r (LeftHand.left_hand {m = m} {x = x} {ss = ss} one many) =
      rw (
        chain_head_all i x m one,
        until_all (λ found. not (begins_suffix found)) (any_suffix g b) (AnySuffix low n)
            (λ r. begins_suffix (next r) ≡ false) (any_suffix_takes g takes) end_no_suffix
            (λ r h. ap not h) (λ i x r h. ap not (any_suffix_starts i x r h)) any_suffix_all m ss r
            many,
      ) refl

  -- ---- operators before and behind an operand

  pub postfix_all : (i : Tokens) (x : Expression) (r : Tokens) → Postfix low n i x r
      → postfix g b i ≡ Done x r
  unfolding postfix
  postfix_all i _ r (Postfix.updated {t = t} {x = x} {o = o} one known reference) =
      rw (left_hand_all i x (t ∷ r) one) (ap (λ u. postfix_by g b x t u (t ∷ r)) known
      ∙ ap (λ c. updated_behind g b x t o c (t ∷ r)) reference)
  postfix_all i x r (Postfix.plain one none) =
      rw (left_hand_all i x r one) (ap (λ u. postfix_by g b x (head r) u r) none)

  pub unary_all : (i : Tokens) (x : Expression) (r : Tokens) → Unary low n i x r
      → unary g b i ≡ Done x r
  unfolding unary
  unary_all i _ r (Unary.operator {t = t} {i = j} {x = x} {o = o} known some one) =
      ap (λ u. unary_by g b t u (prefix_update (symbol t)) (t ∷ j)) known
      ∙ rw (enter_done g t j (room (t ∷ j) some), a.expression_all part.Unary j x r one) refl
  unary_all i _ r (Unary.update {t = t} {i = j} {x = x} {o = o} known some one) =
      ap (λ u. unary_by g b t u (prefix_update (symbol t)) (t ∷ j)) (no_unary (symbol t) o known)
      ∙ ap (λ u. unary_by g b t None u (t ∷ j)) known
      ∙ rw (enter_done g t j (room (t ∷ j) some), a.expression_all (part.Updated t.place) j x r one)
      refl
  unary_all i x r (Unary.operand other one) =
      go (unary_operator (next i)) (prefix_update (next i)) (prefix_none (next i) other)
    where
      go : (o : Option UnaryOperator) (u : Option UpdateOperator) → (is_some o || is_some u) ≡ false
          → unary_by g b (head i) o u i ≡ Done x r
      go (Some o) u h = cc h
      go None (Some u) h = cc h
      go None None h = postfix_all i x r one

  pub updated_all : (place : Place) (i : Tokens) (x : Expression) (r : Tokens)
      → Updated low n place i x r → updated g b place i ≡ Done x r
  unfolding updated operand_close
  updated_all place i x r (Updated.updated other one reference none) =
      ap (λ c. updated_by g b place c i) other ∙ rw (left_hand_all i x r one)
      (ap (λ c. operand_by g b place x (head r) c (postfix_of (head r)) r) reference
      ∙ ap (λ o. operand_by g b place x (head r) true o r) none)
  updated_all place i x r (Updated.any other one reference off) =
      ap (λ c. updated_by g b place c i) other ∙ rw (left_hand_all i x r one)
      (ap (λ c. operand_by g b place x (head r) c (postfix_of (head r)) r) reference
      ∙ unless_reads g (refusal.Operand place) (pure x) r
      (milder (refusal.Operand place) r off))
  updated_all place i x r (Updated.before other off one) =
      ap (λ c. updated_by g b place c i) other
      ∙ unless_reads g (refusal.Broken place) (unary g b) i
      (milder (refusal.Broken place) i off) ∙ unary_all i x r one
  updated_all place i _ r (Updated.behind {t = t} {x = x} {o = o} other one reference known off) =
      ap (λ c. updated_by g b place c i) other ∙ rw (left_hand_all i x (t ∷ r) one)
      (ap (λ c. operand_by g b place x t c (postfix_of t) (t ∷ r)) reference
      ∙ ap (λ u. operand_by g b place x t true u (t ∷ r)) known
      ∙ unless_reads g (refusal.Broken place) (take_token >> pure (e.Update o x t.place)) (t ∷ r)
      (milder (refusal.Broken place) (t ∷ r) off))

  -- ---- operators between operands

  -- operands are read as `one` says
  module _ (no_in : Bool) (One : Rule Expression) (one : Parser Expression) (one_takes : Takes one)
      (one_all : (i : Tokens) (x : Expression) (r : Tokens) → One i x r → one i ≡ Done x r) where
    pub operation_all : (l : ℕ) (i : Tokens) (x : Operation Expression) (r : Tokens)
        → Operand no_in l One i x r → operation g b no_in l one i ≡ Done x r
    unfolding operation
    operation_all l i _ r (Operand.operand {t = t} {i = j} {x = x} {o = o} known h) =
        ap (λ u. operation_by g b one t u (t ∷ j)) known ∙ rw (one_all j x r h) refl

    operation_starts : (l : ℕ) (i : Tokens) (x : Operation Expression) (r : Tokens)
        → Operand no_in l One i x r → is_none (binary_operator no_in l (next i)) ≡ false
    operation_starts l i _ r (Operand.operand known h) = ap is_none known

    pub level_all : (l : ℕ) (i : Tokens) (x : Expression) (r : Tokens) → Level no_in l One i x r
        → level g b no_in l one i ≡ Done x r
    unfolding level
    level_all l i _ r (Level.level {m = m} {x = x} {os = os} h many) =
        rw (
          one_all i x m h,
          until_all (λ found. is_none (binary_operator no_in l found)) (operation g b no_in l one)
              (Operand no_in l One) (λ r. binary_operator no_in l (next r) ≡ None)
              (operation_takes g takes no_in l one_takes) (end_no_operator no_in l)
              (λ r h. ap is_none h) (operation_starts l) (operation_all l) m os r many,
        ) refl

  pub binary_all : (no_in : Bool) (l : ℕ) (i : Tokens) (x : Expression) (r : Tokens)
      → Binary low n no_in l i x r → binary g b no_in l i ≡ Done x r
  unfolding binary
  binary_all no_in zero = unary_all
  binary_all no_in (suc l) =
      level_all no_in (Binary low n no_in l) (binary g b no_in l) (binary_takes g takes no_in l)
      (binary_all no_in l) (suc l)

  pub conditional_all : (no_in : Bool) (i : Tokens) (x : Expression) (r : Tokens)
      → Conditional low n no_in i x r → conditional g b no_in i ≡ Done x r
  unfolding conditional
  conditional_all no_in i _ r (Conditional.chosen {t = t} {u = u} {m = m} {l = l} {x = x} {y = y}
      {z = z} one is some two colon three) =
      rw (binary_all no_in levels i x (t ∷ m) one)
      (ap (λ κ. conditional_by g b no_in (head i).place x κ (t ∷ m)) is
      ∙ rw (
        enter_done g t m (room (t ∷ m) some),
        a.expression_all (part.Assignment no_in) m y (u ∷ l) two,
        expect_done k.Colon u l colon,
        a.expression_all (part.Assignment no_in) l z r three,
      ) refl)
  conditional_all no_in i x r (Conditional.plain one other) =
      rw (binary_all no_in levels i x r one) (go (next r) other)
    where
      go : (κ : Symbol) → κ ≢ k.Question → conditional_by g b no_in (head i).place x κ r ≡ Done x r
      go k.Question h = absurd (h refl)
      go _ h = refl

  pub assignment_all : (no_in : Bool) (i : Tokens) (x : Expression) (r : Tokens)
      → Assignment low n no_in i x r → assignment g b no_in i ≡ Done x r
  unfolding assignment
  assignment_all no_in i _ r (Assignment.assigned {t = t} {m = m} {x = x} {y = y} {o = o} one known
      reference some two) =
      rw (conditional_all no_in i x (t ∷ m) one)
      (ap (λ u. assignment_by g b no_in x t u (t ∷ m)) known
      ∙ ap (λ c. assigned g b no_in x t o c (t ∷ m)) reference
      ∙ rw (
        enter_done g t m (room (t ∷ m) some),
        a.expression_all (part.Assignment no_in) m y r two,
      ) refl)
  assignment_all no_in i x r (Assignment.plain one none) =
      rw (conditional_all no_in i x r one) (ap (λ u. assignment_by g b no_in x (head r) u r) none)

  pub whole_all : (no_in : Bool) (i : Tokens) (x : Expression) (r : Tokens)
      → Whole low n no_in i x r → whole g b no_in i ≡ Done x r
  unfolding whole
  whole_all no_in i _ r (Whole.whole {xs = xs} list) =
      rw (separated_all (assignment g b no_in) (Assignment low n no_in)
      (assignment_takes g takes no_in) (assignment_all no_in) i xs r list) refl

  -- each part
  pub expression_part_all : (p : ExpressionPart) (i : Tokens) (x : Expression) (r : Tokens)
      → ExpressionRule low n p i x r → expression_part g b p i ≡ Done x r
  unfolding expression_part
  expression_part_all (part.Whole no_in) = whole_all no_in
  expression_part_all (part.Assignment no_in) = assignment_all no_in
  expression_part_all part.Unary = unary_all
  expression_part_all (part.Updated place) = updated_all place
  expression_part_all (part.Created place) = created_all place
