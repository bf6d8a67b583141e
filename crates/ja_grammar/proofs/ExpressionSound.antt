-- Every expression that is read is one of the grammar.
use Rattle.std.proofs.lemmas.Bool.{not-true}
use Rattle.std.proofs.Common.{◌≡◌, ◌≢◌, ◌⊎◌, inl, inr, ℕ, zero, suc, Bool, true, false, true≢false, not, is_none, subst, List, ◌∷◌, Option, Some, None, refl, sym, ap, ◌∙◌}
use Rattle.ja_base.specs.declared.ids.Place.{Place}
use Rattle.ja_base.proofs.Options.{none_by_test}
use Rattle.ja_prim.specs.declared.primitive.Primitive.{Primitive}
use Rattle.ja_lex.specs.declared.token.Token.{Token}
use Rattle.ja_syntax.specs.declared.symbol.Symbol.{Symbol}
use Rattle.ja_syntax.specs.declared.symbol.Symbol.TheVariants as k
use Rattle.ja_syntax.specs.declared.tree.BinaryOperator.{BinaryOperator}
use Rattle.ja_syntax.specs.declared.tree.Expression.{Expression}
use Rattle.ja_syntax.specs.declared.tree.Expression.TheVariants as e
use Rattle.ja_syntax.specs.declared.tree.FunctionOf.{FunctionOf}
use Rattle.ja_syntax.specs.declared.tree.Name.{Name}
use Rattle.ja_syntax.specs.declared.tree.Operation.{Operation}
use Rattle.ja_syntax.specs.declared.tree.Property.{Property}
use Rattle.ja_syntax.specs.declared.tree.PropertyName.{PropertyName}
use Rattle.ja_syntax.specs.declared.tree.Statement.{Statement}
use Rattle.ja_syntax.specs.declared.tree.Suffix.{Suffix}
use Rattle.ja_syntax.specs.declared.tree.Suffix.TheVariants as suffix
use Rattle.ja_syntax.specs.declared.tree.UnaryOperator.{UnaryOperator}
use Rattle.ja_syntax.specs.declared.tree.UpdateOperator.{UpdateOperator}
use Rattle.ja_syntax.specs.References.{is_reference}
use Rattle.ja_syntax.specs.Symbols.{is_arguments}
use Rattle.ja_grammar.specs.declared.fault.Refusal.TheVariants as refusal
use Rattle.ja_grammar.specs.declared.part.ExpressionPart.{ExpressionPart}
use Rattle.ja_grammar.specs.declared.part.ExpressionPart.TheVariants as part
use Rattle.ja_grammar.specs.declared.part.StatementPart.{StatementPart}
use Rattle.ja_grammar.specs.declared.part.StatementPart.TheVariants as of_statement
use Rattle.ja_grammar.specs.Contexts.{function_context}
use Rattle.ja_grammar.specs.ExpressionGrammar.{Nested, Element, OneProperty, Declared, FunctionName, Function, Primary, Head, PropertySuffix, Arguments, AnySuffix, Member, Created, LeftHand, Postfix, Unary, Operand, Level, Binary, Conditional, Assignment, Whole, Updated, ExpressionRule}
use Rattle.ja_grammar.specs.Forms.{name_of, literal_of, property_name, begins_property, begins_suffix, postfix_of, is_prefix, chained, operated, sequence}
use Rattle.ja_grammar.specs.Input.{Tokens, head, next, behind, symbol, Done, Parser, expect, opening, ◌>>=◌, ◌>>◌, pure, look, take_token, enter, until, separated, listed, Rules}
use Rattle.ja_grammar.specs.Operators.{binary_operator, levels, unary_operator, prefix_update, assignment_operator}
use Rattle.ja_grammar.specs.Productions.{Rule, Is, At, NotAt, HasRoom, Many, Listed}
use Rattle.ja_grammar.specs.ReadExpression.{Below, declared, declared_by, declared_name, function_name, function_name_by, is_close_brace, is_close_bracket, element, element_by, element_close, element_close_by, property, property_by, function_body, parameters, function, array, object, parenthesized, literal, literal_by, regular_expression, primary, primary_by, chain_head, head_by, dotted, indexed, property_suffix, property_suffix_by, arguments, any_suffix, any_suffix_by, member, created, created_by, left_hand, postfix, postfix_by, updated_behind, operand_close, operand_by, updated, updated_by, unary, unary_by, operation, operation_by, level, binary, conditional, conditional_by, assigned, assignment, assignment_by, whole, expression_part}
use Rattle.ja_grammar.proofs.Agree.{BelowTakes, Agrees}
use Rattle.ja_grammar.proofs.Closing.{assignment_more, binary_more, end_no_operator, end_no_property, end_no_suffix, literal_more, postfix_more, prefix_more, property_more, unary_more}
use Rattle.ja_grammar.proofs.ExpressionTakes.{declared_takes, element_takes, property_takes, property_suffix_takes, any_suffix_takes, operation_takes, binary_takes, assignment_takes}
use Rattle.ja_grammar.proofs.Lists.{separated_is, listed_is}
use Rattle.ja_grammar.proofs.Opening.{opening_inverse}
use Rattle.ja_grammar.proofs.Outcomes.{same_done, refused_not_done, bind_inverse, cons_of, expect_inverse, expect_then, unless_inverse, entered, entered_token}
use Rattle.ja_grammar.proofs.Shrinks.{Takes}
use Rattle.ja_grammar.proofs.Until.{until_is}

-- ---- what must have been there

-- a token that is not the end
first : (P : Tokens → Type 0) (i : Tokens) → next i ≢ k.End → P (head i ∷ behind i) → P i
first P i more h = subst P (sym (cons_of i more)) h

-- a token that counts, and what follows it
enter_first : {B : Type 0} (P : Tokens → Type 0) (g : Rules) (f : Token → Parser B) (i : Tokens)
    {v : B} {r : Tokens} → next i ≢ k.End → (enter g >>= f) i ≡ Done v r
    → (HasRoom g (head i ∷ behind i) → f (head i) (behind i) ≡ Done v r → P (head i ∷ behind i))
    → P i
enter_first P g f i {v} {r} more e h =
    let s = bind_inverse (enter g) f i e in
    first P i more (h (subst (λ j. HasRoom g j) (cons_of i more) (entered g i s.2))
    (same_done (λ t m. f t m ≡ Done v r) (sym (entered_token g i s.2)) s.3))

-- ---- names

module _ (g : Rules) where
  pub declared_is : (i : Tokens) (x : Name) (r : Tokens) → declared g i ≡ Done x r
      → Declared g i x r
  unfolding declared
  declared_is i x r e = go (next i) refl e
    where
      named : (c : Bool) → is_arguments (head i).kind ≡ c → next i ≡ k.Name
          → declared_name g (head i) c i ≡ Done x r → Declared g i x r
      named true known is h =
          let s = unless_inverse g refusal.Arguments (take_token >> pure (name_of (head i))) i h in
          first (λ j. g refusal.Arguments j ≡ false → Declared g j x r) i (λ ends. cc (is, ends))
          (λ off. same_done (λ x r. Declared g (head i ∷ behind i) x r) s.1
          (Declared.arguments is known off)) s.0
      named false plain is h =
          first (λ j. Declared g j x r) i (λ ends. cc (is, ends))
          (same_done (λ x r. Declared g (head i ∷ behind i) x r) h (Declared.declared is plain))

      go : (κ : Symbol) → next i ≡ κ → declared_by g (head i) κ i ≡ Done x r → Declared g i x r
      go k.Name is h = named (is_arguments (head i).kind) refl is h
      go _ is h = absurd (refused_not_done h)

  pub function_name_is : (required : Bool) (i : Tokens) (x : Option Name) (r : Tokens)
      → function_name g required i ≡ Done x r → FunctionName g required i x r
  unfolding function_name
  function_name_is required i x r e = go required (next i) refl e
    where
      go : (required : Bool) (κ : Symbol) → next i ≡ κ → function_name_by g required κ i ≡ Done x r
          → FunctionName g required i x r
      go required k.Name is h =
          let s = bind_inverse (declared g) (λ x. pure (Some x)) i h in
          same_done (λ x r. FunctionName g required i x r) s.3
          (FunctionName.named (declared_is i s.0 s.1 s.2))
      go true _ is h = absurd (refused_not_done h)
      go false _ is h =
          same_done (λ x r. FunctionName g false i x r) h (FunctionName.unnamed (λ at. cc (is, at)))

-- ---- symbols

no_prefix : (κ : Symbol) → unary_operator κ ≡ None → prefix_update κ ≡ None → is_prefix κ ≡ false
unfolding is_prefix
no_prefix κ h h' = rw (h, h') refl

module _ (g : Rules) (n : Nested) (b : Below) (takes : BelowTakes b) (a : Agrees n b) where
  -- a part, a closing token, and a value of the part
  part_closed : {B : Type 0} (p : ExpressionPart) (κ : Symbol) (make : Expression → B) (i : Tokens)
      {v : B} {r : Tokens} → κ ≢ k.End
      → (b.expression p >>= (λ x. expect κ >> pure (make x))) i ≡ Done v r
      → (x : Expression) × (u : Token) × n.expression p i x (u ∷ r) × Is κ u × (make x ≡ v)
  part_closed p κ make i {v} {r} other e =
      let s = bind_inverse (b.expression p) (λ x. expect κ >> pure (make x)) i e in
      let t = bind_inverse (expect κ) (λ _. pure (make s.0)) s.1 s.3 in
      let u = expect_inverse κ s.1 other t.2 in
      same_done (λ v r. (x : Expression) × (u : Token) × n.expression p i x (u ∷ r) × Is κ u
      × (make x ≡ v)) t.3 (
        s.0,
        t.0,
        subst (λ j. n.expression p i s.0 j) u.0 (a.expression_is p i s.0 s.1 s.2),
        u.1,
        refl,
      )

  -- ---- array and object literals, functions

  pub element_is : (i : Tokens) (x : Option Expression) (r : Tokens) → NotAt k.CloseBracket i
      → element g b i ≡ Done x r → Element n i x r
  unfolding element element_close
  element_is i x r open_still e = go (next i) refl e
    where
      close : (y : Expression) (m : Tokens) → NotAt k.Comma i
          → n.expression (part.Assignment false) i y m → (κ : Symbol) → next m ≡ κ
          → element_close_by g b y κ m ≡ Done x r → Element n i x r
      close y m other one k.Comma at h =
          same_done (λ x r. Element n i x r) h
          (Element.item other open_still (subst
          (λ j. n.expression (part.Assignment false) i y j) (cons_of m (λ ends. cc (at, ends)))
          one) at)
      close y m other one k.CloseBracket at h =
          same_done (λ x r. Element n i x r) h (Element.last other open_still one at)
      close y m other one _ at h = absurd (refused_not_done h)

      go : (κ : Symbol) → next i ≡ κ → element_by g b κ i ≡ Done x r → Element n i x r
      go k.Comma is h =
          first (λ j. Element n j x r) i (λ ends. cc (is, ends))
          (same_done (λ x r. Element n (head i ∷ behind i) x r) h (Element.hole is))
      go _ is h =
          let s = bind_inverse (b.expression (part.Assignment false)) (element_close g b) i h in
          close s.0 s.1 (λ at. cc (is, at)) (a.expression_is (part.Assignment false) i s.0 s.1 s.2)
          (next s.1) refl s.3

  pub property_is : (i : Tokens) (x : Property Expression) (r : Tokens) → property g b i ≡ Done x r
      → OneProperty n i x r
  unfolding property
  property_is i x r e = go (property_name (head i)) refl e
    where
      go : (o : Option PropertyName) → property_name (head i) ≡ o
          → property_by g b (head i) o i ≡ Done x r → OneProperty n i x r
      go None known h = absurd (refused_not_done h)
      go (Some name) known h =
          first (λ j. OneProperty n j x r) i (property_more (head i) name known)
          (expect_then (λ j. OneProperty n (head i ∷ j) x r) k.Colon
          (λ _. b.expression (part.Assignment false) >>=
          (λ x. pure (record { name = name; value = x; place = (head i).place }))) (λ h. cc h)
          (behind i) h
          (λ u m colon h.
          let s = bind_inverse (b.expression (part.Assignment false))
          (λ x. pure (record { name = name; value = x; place = (head i).place })) m h in
          same_done (λ x r. OneProperty n (head i ∷ u ∷ m) x r) s.3
          (OneProperty.property known colon (a.expression_is (part.Assignment false) m s.0 s.1
          s.2))))

  parameters_is : (i : Tokens) (xs : List Name) (r : Tokens) → parameters g b i ≡ Done xs r
      → (u : Token) × (m : Tokens) × (i ≡ u ∷ m) × Is k.OpenParenthesis u × HasRoom g (u ∷ m)
      × Listed k.CloseParenthesis (Declared g) m xs r
  unfolding parameters
  parameters_is i xs r e =
      let s = bind_inverse (opening g k.OpenParenthesis)
      (λ _. listed k.CloseParenthesis (declared g)) i e in
      let t = opening_inverse g k.OpenParenthesis i (λ h. cc h) s.2 in (
        s.0,
        s.1,
        t.1,
        t.2,
        subst (λ j. HasRoom g j) t.1 t.0,
        listed_is (declared g) (Declared g) (declared_takes g) k.CloseParenthesis (λ h. cc h)
            (declared_is g) s.1 xs r s.3,
      )

  abbrev body_part : StatementPart
  body_part = of_statement.Whole 0 true

  abbrev Body : Tokens → List Statement → Tokens → Type 0
  Body i xs r = Many (n.statement function_context body_part) (At k.CloseBrace) i xs r

  function_body_is : (i : Tokens) (xs : List Statement) (r : Tokens)
      → function_body g b i ≡ Done xs r
      → (v : Token) × (l : Tokens) × (w : Token) × (i ≡ v ∷ l) × Is k.OpenBrace v
      × HasRoom g (v ∷ l) × Body l xs (w ∷ r) × Is k.CloseBrace w
  unfolding function_body
  function_body_is i xs r e =
      let s = bind_inverse (opening g k.OpenBrace)
      (λ _. until is_close_brace (b.statement function_context body_part) >>=
      (λ xs. expect k.CloseBrace >> pure xs)) i e in
      let t = opening_inverse g k.OpenBrace i (λ h. cc h) s.2 in
      let u = bind_inverse (until is_close_brace (b.statement function_context body_part))
      (λ xs. expect k.CloseBrace >> pure xs) s.1 s.3 in
      let v = bind_inverse (expect k.CloseBrace) (λ _. pure u.0) u.1 u.3 in
      let w = expect_inverse k.CloseBrace u.1 (λ h. cc h) v.2 in
      let many = until_is is_close_brace (b.statement function_context body_part)
      (n.statement function_context body_part) (At k.CloseBrace)
      (takes.statement function_context body_part) refl
      (λ i x r _ h. a.statement_is function_context body_part i x r h) s.1 u.0 u.1
      (λ _. ap next w.0 ∙ w.1) u.2 in
      same_done (λ xs r. (v : Token) × (l : Tokens) × (w : Token) × (i ≡ v ∷ l) × Is k.OpenBrace v
      × HasRoom g (v ∷ l) × Body l xs (w ∷ r) × Is k.CloseBrace w) v.3 (
        s.0,
        s.1,
        v.0,
        t.1,
        t.2,
        subst (λ j. HasRoom g j) t.1 t.0,
        subst (λ j. Body s.1 u.0 j) w.0 many,
        w.1,
      )

  pub function_is : (required : Bool) (i : Tokens) (x : FunctionOf Statement) (r : Tokens)
      → function g b required i ≡ Done x r → Function g n required i x r
  unfolding function
  function_is required i x r e =
      expect_then (λ j. Function g n required j x r) k.Function _ (λ h. cc h) i e (λ t m is h.
      let s = bind_inverse (function_name g required) _ m h in
      let p = bind_inverse (parameters g b) _ s.1 s.3 in
      let q = bind_inverse (function_body g b) _ p.1 p.3 in
      let u = parameters_is s.1 p.0 p.1 p.2 in
      let v = function_body_is p.1 q.0 q.1 q.2 in
      same_done (λ x r. Function g n required (t ∷ m) x r) q.3
      (Function.function is (subst (λ j. FunctionName g required m s.0 j) u.2
      (function_name_is g required m s.0 s.1 s.2)) u.3 u.4
      (subst (λ j. Listed k.CloseParenthesis (Declared g) u.1 p.0 j) v.3 u.5) v.4 v.5 v.6 v.7))

  -- ---- primary expressions

  array_is : (i : Tokens) (x : Expression) (r : Tokens) → next i ≡ k.OpenBracket
      → array g b i ≡ Done x r → Primary g n i x r
  unfolding array
  array_is i x r is q =
      enter_first (λ j. Primary g n j x r) g
      (λ t. until is_close_bracket (element g b) >>=
      (λ xs. expect k.CloseBracket >> pure (e.Array xs t.place))) i (λ ends. cc (is, ends)) q
      (λ some h.
      let u = bind_inverse (until is_close_bracket (element g b))
      (λ xs. expect k.CloseBracket >> pure (e.Array xs (head i).place)) (behind i) h in
      let v = bind_inverse (expect k.CloseBracket) (λ _. pure (e.Array u.0 (head i).place)) u.1
      u.3 in
      let w = expect_inverse k.CloseBracket u.1 (λ h. cc h) v.2 in
      let many = until_is is_close_bracket (element g b) (Element n) (At k.CloseBracket)
      (element_takes g takes) refl
      (λ i x r other h. element_is i x r (λ at. true≢false (sym (ap is_close_bracket at) ∙ other))
      h) (behind i) u.0 u.1 (λ _. ap next w.0 ∙ w.1) u.2 in
      same_done (λ x r. Primary g n (head i ∷ behind i) x r) v.3
      (Primary.array is some (subst (λ j. Many (Element n) (At k.CloseBracket) (behind i) u.0 j) w.0
      many) w.1))

  object_is : (i : Tokens) (x : Expression) (r : Tokens) → next i ≡ k.OpenBrace
      → object g b i ≡ Done x r → Primary g n i x r
  unfolding object
  object_is i x r is q =
      enter_first (λ j. Primary g n j x r) g
      (λ t. listed k.CloseBrace (property g b) >>= (λ xs. pure (e.Object xs t.place))) i
      (λ ends. cc (is, ends)) q (λ some h.
      let u = bind_inverse (listed k.CloseBrace (property g b))
      (λ xs. pure (e.Object xs (head i).place)) (behind i) h in
      same_done (λ x r. Primary g n (head i ∷ behind i) x r) u.3
      (Primary.object is some (listed_is (property g b) (OneProperty n) (property_takes g takes)
      k.CloseBrace (λ h. cc h) property_is (behind i) u.0 u.1 u.2)))

  parenthesized_is : (i : Tokens) (x : Expression) (r : Tokens) → next i ≡ k.OpenParenthesis
      → parenthesized g b i ≡ Done x r → Primary g n i x r
  unfolding parenthesized
  parenthesized_is i x r is e =
      enter_first (λ j. Primary g n j x r) g
      (λ _. b.expression (part.Whole false) >>= (λ x. expect k.CloseParenthesis >> pure x)) i
      (λ ends. cc (is, ends)) e (λ some h.
      let u = part_closed (part.Whole false) k.CloseParenthesis (λ x. x) (behind i) (λ h. cc h) h in
      subst (λ y. Primary g n (head i ∷ behind i) y r) u.4 (Primary.parenthesized is some u.2 u.3))

  literal_is : (i : Tokens) (x : Expression) (r : Tokens) → literal g b i ≡ Done x r
      → Primary g n i x r
  unfolding literal
  literal_is i x r e = go (literal_of (head i)) refl e
    where
      go : (o : Option Primitive) → literal_of (head i) ≡ o → literal_by g b (head i) o i ≡ Done x r
          → Primary g n i x r
      go None known h = absurd (refused_not_done h)
      go (Some value) known h =
          first (λ j. Primary g n j x r) i (literal_more (head i) value known)
          (same_done (λ x r. Primary g n (head i ∷ behind i) x r) h (Primary.literal known))

  pub primary_is : (i : Tokens) (x : Expression) (r : Tokens) → primary g b i ≡ Done x r
      → Primary g n i x r
  unfolding primary
  primary_is i x r q = go (next i) refl q
    where
      without_profile : (Is k.Divide (head i)) ⊎ (Is k.DivideAssign (head i)) → next i ≢ k.End
          → regular_expression g b (head i) i ≡ Done x r → Primary g n i x r
      without_profile is more h =
          let s = unless_inverse g refusal.RegExp (take_token >> pure (e.This (head i).place)) i
          h in
          first (λ j. g refusal.RegExp j ≡ false → Primary g n j x r) i more
          (λ off. same_done (λ x r. Primary g n (head i ∷ behind i) x r) s.1
          (Primary.regular_expression is off)) s.0

      go : (κ : Symbol) → next i ≡ κ → primary_by g b (head i) κ i ≡ Done x r → Primary g n i x r
      go k.This is h =
          first (λ j. Primary g n j x r) i (λ ends. cc (is, ends))
          (same_done (λ x r. Primary g n (head i ∷ behind i) x r) h (Primary.this is))
      go k.Name is h =
          first (λ j. Primary g n j x r) i (λ ends. cc (is, ends))
          (same_done (λ x r. Primary g n (head i ∷ behind i) x r) h (Primary.name is))
      go k.OpenBracket is h = array_is i x r is h
      go k.OpenBrace is h = object_is i x r is h
      go k.OpenParenthesis is h = parenthesized_is i x r is h
      go k.Function is h =
          let s = bind_inverse (function g b false) (λ f. pure (e.Function f)) i h in
          same_done (λ x r. Primary g n i x r) s.3
          (Primary.function (function_is false i s.0 s.1 s.2))
      go k.Divide is h = without_profile (inl is) (λ ends. cc (is, ends)) h
      go k.DivideAssign is h = without_profile (inr is) (λ ends. cc (is, ends)) h
      go _ is h = literal_is i x r h

  -- ---- members and calls

  pub chain_head_is : (i : Tokens) (x : Expression) (r : Tokens) → chain_head g b i ≡ Done x r
      → Head g n i x r
  unfolding chain_head
  chain_head_is i x r e = go (next i) refl e
    where
      go : (κ : Symbol) → next i ≡ κ → head_by g b (head i) κ i ≡ Done x r → Head g n i x r
      go k.New is h =
          enter_first (λ j. Head g n j x r) g (λ _. b.expression (part.Created (head i).place)) i
          (λ ends. cc (is, ends)) h
          (λ some h. Head.created is some (a.expression_is (part.Created (head i).place) (behind i)
          x r h))
      go _ is h = Head.primary (λ at. cc (is, at)) (primary_is i x r h)

  pub property_suffix_is : (i : Tokens) (x : Suffix Expression) (r : Tokens)
      → property_suffix g b i ≡ Done x r → PropertySuffix g n i x r
  unfolding property_suffix dotted indexed
  property_suffix_is i x r e = go (next i) refl e
    where
      go : (κ : Symbol) → next i ≡ κ → property_suffix_by g b κ i ≡ Done x r
          → PropertySuffix g n i x r
      go k.Dot is h = first (λ j. PropertySuffix g n j x r) i (λ ends. cc (is, ends))
          (expect_then (λ j. PropertySuffix g n (head i ∷ j) x r) k.Name
          (λ u. pure (suffix.Member (name_of u) (head i).place)) (λ h. cc h) (behind i) h
          (λ u m named h. same_done (λ x r. PropertySuffix g n (head i ∷ u ∷ m) x r) h
          (PropertySuffix.member is named)))
      go k.OpenBracket is h =
          enter_first (λ j. PropertySuffix g n j x r) g
          (λ t. b.expression (part.Whole false) >>=
          (λ x. expect k.CloseBracket >> pure (suffix.Index x t.place))) i
          (λ ends. cc (is, ends)) h (λ some h.
          let u = part_closed (part.Whole false) k.CloseBracket (λ x. suffix.Index x (head i).place)
          (behind i) (λ h. cc h) h in
          subst (λ y. PropertySuffix g n (head i ∷ behind i) y r) u.4
          (PropertySuffix.index is some u.2 u.3))
      go _ is h = absurd (refused_not_done h)

  pub arguments_is : (P : Tokens → Type 0) (i : Tokens) (xs : List Expression) (r : Tokens)
      → next i ≡ k.OpenParenthesis → arguments g b i ≡ Done xs r
      → (HasRoom g (head i ∷ behind i) → Arguments n (behind i) xs r → P (head i ∷ behind i)) → P i
  unfolding arguments
  arguments_is P i xs r is e go =
      enter_first P g (λ _. listed k.CloseParenthesis (b.expression (part.Assignment false))) i
      (λ ends. cc (is, ends)) e
      (λ some h. go some (listed_is (b.expression (part.Assignment false))
      (n.expression (part.Assignment false)) (takes.expression (part.Assignment false))
      k.CloseParenthesis (λ h. cc h)
      (a.expression_is (part.Assignment false)) (behind i) xs r h))

  pub any_suffix_is : (i : Tokens) (x : Suffix Expression) (r : Tokens)
      → any_suffix g b i ≡ Done x r → AnySuffix g n i x r
  unfolding any_suffix
  any_suffix_is i x r e = go (next i) refl e
    where
      go : (κ : Symbol) → next i ≡ κ → any_suffix_by g b (head i) κ i ≡ Done x r
          → AnySuffix g n i x r
      go k.OpenParenthesis is h =
          let s = bind_inverse (arguments g b) (λ xs. pure (suffix.Call xs (head i).place)) i h in
          arguments_is (λ j. AnySuffix g n j x r) i s.0 s.1 is s.2
          (λ some list. same_done (λ x r. AnySuffix g n (head i ∷ behind i) x r) s.3
          (AnySuffix.call is some list))
      go _ is h = AnySuffix.property (property_suffix_is i x r h)

  pub member_is : (i : Tokens) (x : Expression) (r : Tokens) → member g b i ≡ Done x r
      → Member g n i x r
  unfolding member
  member_is i x r e =
      let s = bind_inverse (chain_head g b) (λ x.
      until (λ found. not (begins_property found)) (property_suffix g b) >>=
      (λ ss. pure (chained x ss))) i e in
      let t = bind_inverse (until (λ found. not (begins_property found)) (property_suffix g b))
      (λ ss. pure (chained s.0 ss)) s.1 s.3 in
      same_done (λ x r. Member g n i x r) t.3 (Member.member (chain_head_is i s.0 s.1 s.2)
      (until_is (λ found. not (begins_property found)) (property_suffix g b) (PropertySuffix g n)
      (λ r. begins_property (next r) ≡ false) (property_suffix_takes g takes) end_no_property
      (λ i x r _ h. property_suffix_is i x r h) s.1 t.0 t.1 (not-true (begins_property (next t.1)))
      t.2))

  pub created_is : (place : Place) (i : Tokens) (x : Expression) (r : Tokens)
      → created g b place i ≡ Done x r → Created g n place i x r
  unfolding created
  created_is place i x r q =
      let s = bind_inverse (member g b) (λ x. look (λ t. created_by g b place x (symbol t))) i q in
      go s.0 s.1 (member_is i s.0 s.1 s.2) (next s.1) refl s.3
    where
      go : (y : Expression) (m : Tokens) → Member g n i y m → (κ : Symbol) → next m ≡ κ
          → created_by g b place y κ m ≡ Done x r → Created g n place i x r
      go y m one k.OpenParenthesis is h =
          let t = bind_inverse (arguments g b) (λ xs. pure (e.New y xs place)) m h in
          arguments_is (λ j. Member g n i y j → Created g n place i x r) m t.0 t.1 is t.2
          (λ some list one. same_done (λ x r. Created g n place i x r) t.3
          (Created.with_arguments one is some list)) one
      go y m one _ is h =
          same_done (λ x r. Created g n place i x r) h (Created.alone one (λ at. cc (is, at)))

  pub left_hand_is : (i : Tokens) (x : Expression) (r : Tokens) → left_hand g b i ≡ Done x r
      → LeftHand g n i x r
  unfolding left_hand
  left_hand_is i x r e =
      let s = bind_inverse (chain_head g b) (λ x.
      until (λ found. not (begins_suffix found)) (any_suffix g b) >>=
      (λ ss. pure (chained x ss))) i e in
      let t = bind_inverse (until (λ found. not (begins_suffix found)) (any_suffix g b))
      (λ ss. pure (chained s.0 ss)) s.1 s.3 in
      same_done (λ x r. LeftHand g n i x r) t.3 (LeftHand.left_hand (chain_head_is i s.0 s.1 s.2)
      (until_is (λ found. not (begins_suffix found)) (any_suffix g b) (AnySuffix g n)
      (λ r. begins_suffix (next r) ≡ false) (any_suffix_takes g takes) end_no_suffix
      (λ i x r _ h. any_suffix_is i x r h) s.1 t.0 t.1 (not-true (begins_suffix (next t.1))) t.2))

  -- ---- operators before and behind an operand

  pub postfix_is : (i : Tokens) (x : Expression) (r : Tokens) → postfix g b i ≡ Done x r
      → Postfix g n i x r
  unfolding postfix
  postfix_is i x r q =
      let s = bind_inverse (left_hand g b) (λ x. look (λ t. postfix_by g b x t (postfix_of t))) i
      q in
      go s.0 s.1 (left_hand_is i s.0 s.1 s.2) (postfix_of (head s.1)) refl s.3
    where
      reference_by : (y : Expression) (m : Tokens) → LeftHand g n i y m → (o : UpdateOperator)
          → postfix_of (head m) ≡ Some o → (c : Bool) → is_reference y ≡ c
          → updated_behind g b y (head m) o c m ≡ Done x r → Postfix g n i x r
      reference_by y m one o known false is h = absurd (refused_not_done h)
      reference_by y m one o known true is h = same_done (λ x r. Postfix g n i x r) h
          (Postfix.updated (subst (λ j. LeftHand g n i y j)
          (cons_of m (postfix_more (head m) o known)) one) known is)

      go : (y : Expression) (m : Tokens) → LeftHand g n i y m → (o : Option UpdateOperator)
          → postfix_of (head m) ≡ o → postfix_by g b y (head m) o m ≡ Done x r → Postfix g n i x r
      go y m one None known h = same_done (λ x r. Postfix g n i x r) h (Postfix.plain one known)
      go y m one (Some o) known h = reference_by y m one o known (is_reference y) refl h

  pub unary_is : (i : Tokens) (x : Expression) (r : Tokens) → unary g b i ≡ Done x r
      → Unary g n i x r
  unfolding unary
  unary_is i x r q = go (unary_operator (next i)) refl (prefix_update (next i)) refl q
    where
      go : (o : Option UnaryOperator) → unary_operator (next i) ≡ o → (u : Option UpdateOperator)
          → prefix_update (next i) ≡ u → unary_by g b (head i) o u i ≡ Done x r → Unary g n i x r
      go (Some o) known u other h =
          enter_first (λ j. Unary g n j x r) g
          (λ _. b.expression part.Unary >>= (λ x. pure (e.Unary o x (head i).place))) i
          (unary_more (next i) o known) h (λ some h.
          let s = bind_inverse (b.expression part.Unary) (λ x. pure (e.Unary o x (head i).place))
          (behind i) h in
          same_done (λ x r. Unary g n (head i ∷ behind i) x r) s.3
          (Unary.operator known some (a.expression_is part.Unary (behind i) s.0 s.1 s.2)))
      go None other (Some o) known h =
          enter_first (λ j. Unary g n j x r) g
          (λ _. b.expression (part.Updated (head i).place) >>=
          (λ x. pure (e.Update o x (head i).place))) i (prefix_more (next i) o known) h
          (λ some h.
          let s = bind_inverse (b.expression (part.Updated (head i).place))
          (λ x. pure (e.Update o x (head i).place)) (behind i) h in
          same_done (λ x r. Unary g n (head i ∷ behind i) x r) s.3
          (Unary.update known some (a.expression_is (part.Updated (head i).place) (behind i) s.0
          s.1 s.2)))
      go None other None other' h =
          Unary.operand (no_prefix (next i) other other') (postfix_is i x r h)

  pub updated_is : (place : Place) (i : Tokens) (x : Expression) (r : Tokens)
      → updated g b place i ≡ Done x r → Updated g n place i x r
  unfolding updated operand_close
  updated_is place i x r q = go (is_prefix (next i)) refl q
    where
      close : is_prefix (next i) ≡ false → (y : Expression) (m : Tokens) → LeftHand g n i y m
          → (c : Bool) → is_reference y ≡ c → (o : Option UpdateOperator) → postfix_of (head m) ≡ o
          → operand_by g b place y (head m) c o m ≡ Done x r → Updated g n place i x r
      close other y m one false is o known h =
          let s = unless_inverse g (refusal.Operand place) (pure y) m h in
          same_done (λ x r. Updated g n place i x r) s.1 (Updated.any other one is s.0)
      close other y m one true is None known h =
          same_done (λ x r. Updated g n place i x r) h (Updated.updated other one is known)
      close other y m one true is (Some o) known h =
          let s = unless_inverse g (refusal.Broken place)
          (take_token >> pure (e.Update o y (head m).place)) m h in
          let there = cons_of m (postfix_more (head m) o known) in
          same_done (λ x r. Updated g n place i x r) s.1
          (Updated.behind other (subst (λ j. LeftHand g n i y j) there one) is known
          (subst (λ j. g (refusal.Broken place) j ≡ false) there s.0))

      go : (c : Bool) → is_prefix (next i) ≡ c → updated_by g b place c i ≡ Done x r
          → Updated g n place i x r
      go true before h =
          let s = unless_inverse g (refusal.Broken place) (unary g b) i h in
          Updated.before before s.0 (unary_is i x r s.1)
      go false other h =
          let s = bind_inverse (left_hand g b) (operand_close g b place) i h in
          close other s.0 s.1 (left_hand_is i s.0 s.1 s.2) (is_reference s.0) refl
          (postfix_of (head s.1)) refl s.3

  -- ---- operators between operands

  -- what is read as `one` says is an operand
  module _ (no_in : Bool) (One : Rule Expression) (one : Parser Expression) (one_takes : Takes one)
      (one_is : (i : Tokens) (x : Expression) (r : Tokens) → one i ≡ Done x r → One i x r) where
    pub operation_is : (l : ℕ) (i : Tokens) (x : Operation Expression) (r : Tokens)
        → operation g b no_in l one i ≡ Done x r → Operand no_in l One i x r
    unfolding operation
    operation_is l i x r e = go (binary_operator no_in l (next i)) refl e
      where
        go : (o : Option BinaryOperator) → binary_operator no_in l (next i) ≡ o
            → operation_by g b one (head i) o i ≡ Done x r → Operand no_in l One i x r
        go None known h = absurd (refused_not_done h)
        go (Some o) known h =
            let s = bind_inverse one (λ x. pure (record
            { operator = o; right = x; place = (head i).place })) (behind i) h in
            first (λ j. Operand no_in l One j x r) i (binary_more no_in l (next i) o known)
            (same_done (λ x r. Operand no_in l One (head i ∷ behind i) x r) s.3
            (Operand.operand known (one_is (behind i) s.0 s.1 s.2)))

    pub level_is : (l : ℕ) (i : Tokens) (x : Expression) (r : Tokens)
        → level g b no_in l one i ≡ Done x r → Level no_in l One i x r
    unfolding level
    level_is l i x r e =
        let s = bind_inverse one (λ x. until (λ found. is_none (binary_operator no_in l found))
        (operation g b no_in l one) >>= (λ os. pure (operated (head i).place x os))) i e in
        let t = bind_inverse (until (λ found. is_none (binary_operator no_in l found))
        (operation g b no_in l one)) (λ os. pure (operated (head i).place s.0 os)) s.1 s.3 in
        same_done (λ x r. Level no_in l One i x r) t.3 (Level.level (one_is i s.0 s.1 s.2)
        (until_is (λ found. is_none (binary_operator no_in l found)) (operation g b no_in l one)
        (Operand no_in l One) (λ r. binary_operator no_in l (next r) ≡ None)
        (operation_takes g takes no_in l one_takes) (end_no_operator no_in l)
        (λ i x r _ h. operation_is l i x r h) s.1 t.0 t.1
        (none_by_test (binary_operator no_in l (next t.1))) t.2))

  pub binary_is : (no_in : Bool) (l : ℕ) (i : Tokens) (x : Expression) (r : Tokens)
      → binary g b no_in l i ≡ Done x r → Binary g n no_in l i x r
  unfolding binary
  binary_is no_in zero = unary_is
  binary_is no_in (suc l) =
      level_is no_in (Binary g n no_in l) (binary g b no_in l) (binary_takes g takes no_in l)
      (binary_is no_in l) (suc l)

  pub conditional_is : (no_in : Bool) (i : Tokens) (x : Expression) (r : Tokens)
      → conditional g b no_in i ≡ Done x r → Conditional g n no_in i x r
  unfolding conditional
  conditional_is no_in i x r q =
      let s = bind_inverse (binary g b no_in levels)
      (λ x. look (λ u. conditional_by g b no_in (head i).place x (symbol u))) i q in
      go s.0 s.1 (binary_is no_in levels i s.0 s.1 s.2) (next s.1) refl s.3
    where
      rest : Expression → Parser Expression
      rest y =
          b.expression (part.Assignment no_in) >>=
          (λ z. expect k.Colon >> (b.expression (part.Assignment no_in) >>=
          (λ w. pure (e.Conditional y z w (head i).place))))

      go : (y : Expression) (m : Tokens) → Binary g n no_in levels i y m → (κ : Symbol) → next m ≡ κ
          → conditional_by g b no_in (head i).place y κ m ≡ Done x r → Conditional g n no_in i x r
      go y m one k.Question is h =
          enter_first (λ j. Binary g n no_in levels i y j → Conditional g n no_in i x r) g
          (λ _. rest y) m (λ ends. cc (is, ends)) h (λ some h one.
          let t = bind_inverse (b.expression (part.Assignment no_in))
          (λ z. expect k.Colon >> (b.expression (part.Assignment no_in) >>=
          (λ w. pure (e.Conditional y z w (head i).place)))) (behind m) h in
          let u = bind_inverse (expect k.Colon)
          (λ _. b.expression (part.Assignment no_in) >>=
          (λ w. pure (e.Conditional y t.0 w (head i).place))) t.1 t.3 in
          let v = expect_inverse k.Colon t.1 (λ h. cc h) u.2 in
          let w = bind_inverse (b.expression (part.Assignment no_in))
          (λ w. pure (e.Conditional y t.0 w (head i).place)) u.1 u.3 in
          same_done (λ x r. Conditional g n no_in i x r) w.3
          (Conditional.chosen one is some (subst
          (λ j. n.expression (part.Assignment no_in) (behind m) t.0 j) v.0
          (a.expression_is (part.Assignment no_in) (behind m) t.0 t.1 t.2)) v.1
          (a.expression_is (part.Assignment no_in) u.1 w.0 w.1 w.2))) one
      go y m one _ is h =
          same_done (λ x r. Conditional g n no_in i x r) h
          (Conditional.plain one (λ at. cc (is, at)))

  pub assignment_is : (no_in : Bool) (i : Tokens) (x : Expression) (r : Tokens)
      → assignment g b no_in i ≡ Done x r → Assignment g n no_in i x r
  unfolding assignment
  assignment_is no_in i x r q =
      let s = bind_inverse (conditional g b no_in)
      (λ x. look (λ t. assignment_by g b no_in x t (assignment_operator (symbol t)))) i q in
      go s.0 s.1 (conditional_is no_in i s.0 s.1 s.2) (assignment_operator (next s.1)) refl s.3
    where
      reference_by : (y : Expression) (m : Tokens) → Conditional g n no_in i y m
          → (o : Option BinaryOperator) → assignment_operator (next m) ≡ Some o → (c : Bool)
          → is_reference y ≡ c
          → assigned g b no_in y (head m) o c m ≡ Done x r → Assignment g n no_in i x r
      reference_by y m one o known false is h = absurd (refused_not_done h)
      reference_by y m one o known true is h =
          enter_first (λ j. Conditional g n no_in i y j → Assignment g n no_in i x r) g
          (λ _. b.expression (part.Assignment no_in) >>=
          (λ z. pure (e.Assign y o z (head m).place))) m
          (assignment_more (next m) o known) h (λ some h one.
          let t = bind_inverse (b.expression (part.Assignment no_in))
          (λ z. pure (e.Assign y o z (head m).place)) (behind m) h in
          same_done (λ x r. Assignment g n no_in i x r) t.3
          (Assignment.assigned one known is some
          (a.expression_is (part.Assignment no_in) (behind m) t.0 t.1 t.2))) one

      go : (y : Expression) (m : Tokens) → Conditional g n no_in i y m
          → (o : Option (Option BinaryOperator)) → assignment_operator (next m) ≡ o
          → assignment_by g b no_in y (head m) o m ≡ Done x r → Assignment g n no_in i x r
      go y m one None known h =
          same_done (λ x r. Assignment g n no_in i x r) h (Assignment.plain one known)
      go y m one (Some o) known h = reference_by y m one o known (is_reference y) refl h

  pub whole_is : (no_in : Bool) (i : Tokens) (x : Expression) (r : Tokens)
      → whole g b no_in i ≡ Done x r → Whole g n no_in i x r
  unfolding whole
  whole_is no_in i x r e =
      let s = bind_inverse (separated (assignment g b no_in))
      (λ xs. pure (sequence (head i).place xs)) i e in
      same_done (λ x r. Whole g n no_in i x r) s.3
      (Whole.whole (separated_is (assignment g b no_in) (Assignment g n no_in)
      (assignment_takes g takes no_in) (assignment_is no_in) i s.0 s.1 s.2))

  -- each part
  pub expression_part_is : (p : ExpressionPart) (i : Tokens) (x : Expression) (r : Tokens)
      → expression_part g b p i ≡ Done x r → ExpressionRule g n p i x r
  unfolding expression_part
  expression_part_is (part.Whole no_in) = whole_is no_in
  expression_part_is (part.Assignment no_in) = assignment_is no_in
  expression_part_is part.Unary = unary_is
  expression_part_is (part.Updated place) = updated_is place
  expression_part_is (part.Created place) = created_is place
