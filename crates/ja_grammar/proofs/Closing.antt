-- What ends an expression is no operator, and begins nothing that goes on.
use Rattle.std.proofs.Common.{◌≡◌, ◌≢◌, ℕ, Bool, true, false, not, is_none, Option, Some, None, refl, sym, ap, ◌∙◌}
use Rattle.ja_base.proofs.Options.{none_not_some}
use Rattle.ja_lex.specs.declared.token.Token.{Token}
use Rattle.ja_syntax.specs.declared.symbol.Symbol.{Symbol}
use Rattle.ja_syntax.specs.declared.symbol.Symbol.TheVariants as k
use Rattle.ja_syntax.specs.declared.tree.BinaryOperator.{BinaryOperator}
use Rattle.ja_syntax.specs.declared.tree.UnaryOperator.{UnaryOperator}
use Rattle.ja_syntax.specs.declared.tree.UpdateOperator.{UpdateOperator}
use Rattle.ja_prim.specs.declared.primitive.Primitive.{Primitive}
use Rattle.ja_syntax.specs.declared.tree.PropertyName.{PropertyName}
use Rattle.ja_grammar.specs.Forms.{begins_property, begins_suffix, is_label, literal_of, literal_by, postfix_of, postfix_by, property_name, property_name_by}
use Rattle.ja_grammar.specs.Input.{symbol}
use Rattle.ja_grammar.specs.Operators.{binary_of, binary_operator, unary_operator, prefix_update, postfix_update, assignment_operator}
use Rattle.ja_grammar.proofs.Levels.{closes}

-- what closes is one of these
by_closing : (P : Symbol → Type 0) → P k.CloseParenthesis → P k.CloseBracket → P k.CloseBrace
    → P k.Colon → P k.Semicolon → (κ : Symbol) → closes κ ≡ true → P κ
unfolding closes
by_closing P a b c d e k.CloseParenthesis h = a
by_closing P a b c d e k.CloseBracket h = b
by_closing P a b c d e k.CloseBrace h = c
by_closing P a b c d e k.Colon h = d
by_closing P a b c d e k.Semicolon h = e
by_closing P a b c d e _ h = cc h

-- each of them closes
pub parenthesis_closes : (κ : Symbol) → κ ≡ k.CloseParenthesis → closes κ ≡ true
unfolding closes
parenthesis_closes κ h = ap closes h

pub bracket_closes : (κ : Symbol) → κ ≡ k.CloseBracket → closes κ ≡ true
unfolding closes
bracket_closes κ h = ap closes h

pub brace_closes : (κ : Symbol) → κ ≡ k.CloseBrace → closes κ ≡ true
unfolding closes
brace_closes κ h = ap closes h

pub colon_closes : (κ : Symbol) → κ ≡ k.Colon → closes κ ≡ true
unfolding closes
colon_closes κ h = ap closes h

pub semicolon_closes : (κ : Symbol) → κ ≡ k.Semicolon → closes κ ≡ true
unfolding closes
semicolon_closes κ h = ap closes h

-- ---- what ends an expression begins nothing that goes on

pub no_comma_closes : (κ : Symbol) → closes κ ≡ true → κ ≢ k.Comma
no_comma_closes =
    by_closing (λ κ. κ ≢ k.Comma) (λ h. cc h) (λ h. cc h) (λ h. cc h) (λ h. cc h) (λ h. cc h)

pub no_suffix_closes : (κ : Symbol) → closes κ ≡ true → begins_suffix κ ≡ false
unfolding begins_suffix
no_suffix_closes = by_closing (λ κ. begins_suffix κ ≡ false) refl refl refl refl refl

pub no_binary_closes : (no_in : Bool) (level : ℕ) (κ : Symbol) → closes κ ≡ true
    → binary_operator no_in level κ ≡ None
unfolding binary_operator binary_of
no_binary_closes no_in level =
    by_closing (λ κ. binary_operator no_in level κ ≡ None) refl refl refl refl refl

pub no_assignment_closes : (κ : Symbol) → closes κ ≡ true → assignment_operator κ ≡ None
unfolding assignment_operator
no_assignment_closes = by_closing (λ κ. assignment_operator κ ≡ None) refl refl refl refl refl

pub no_question_closes : (κ : Symbol) → closes κ ≡ true → κ ≢ k.Question
no_question_closes =
    by_closing (λ κ. κ ≢ k.Question) (λ h. cc h) (λ h. cc h) (λ h. cc h) (λ h. cc h) (λ h. cc h)

no_update_closes : (κ : Symbol) → closes κ ≡ true → postfix_update κ ≡ None
unfolding postfix_update
no_update_closes = by_closing (λ κ. postfix_update κ ≡ None) refl refl refl refl refl

pub no_postfix_closes : (t : Token) → closes (symbol t) ≡ true → postfix_of t ≡ None
unfolding postfix_of
no_postfix_closes t h = go t.line_before
  where
    go : (line : Bool) → postfix_by line (symbol t) ≡ None
    go true = refl
    go false = no_update_closes (symbol t) h

-- ---- what is an operator or a literal is not the end, and what counts is no `:`

pub binary_more : (no_in : Bool) (level : ℕ) (κ : Symbol) (o : BinaryOperator)
    → binary_operator no_in level κ ≡ Some o → κ ≢ k.End
unfolding binary_operator binary_of
binary_more no_in level κ o h ends = none_not_some (sym (ap (binary_operator no_in level) ends) ∙ h)

pub assignment_more : (κ : Symbol) (o : Option BinaryOperator) → assignment_operator κ ≡ Some o
    → κ ≢ k.End
unfolding assignment_operator
assignment_more κ o h ends = none_not_some (sym (ap assignment_operator ends) ∙ h)

pub assignment_no_colon : (κ : Symbol) (o : Option BinaryOperator) → assignment_operator κ ≡ Some o
    → κ ≢ k.Colon
unfolding assignment_operator
assignment_no_colon κ o h colon = none_not_some (sym (ap assignment_operator colon) ∙ h)

pub unary_more : (κ : Symbol) (o : UnaryOperator) → unary_operator κ ≡ Some o → κ ≢ k.End
unfolding unary_operator
unary_more κ o h ends = none_not_some (sym (ap unary_operator ends) ∙ h)

pub unary_no_colon : (κ : Symbol) (o : UnaryOperator) → unary_operator κ ≡ Some o → κ ≢ k.Colon
unfolding unary_operator
unary_no_colon κ o h colon = none_not_some (sym (ap unary_operator colon) ∙ h)

pub prefix_more : (κ : Symbol) (o : UpdateOperator) → prefix_update κ ≡ Some o → κ ≢ k.End
unfolding prefix_update
prefix_more κ o h ends = none_not_some (sym (ap prefix_update ends) ∙ h)

pub prefix_no_colon : (κ : Symbol) (o : UpdateOperator) → prefix_update κ ≡ Some o → κ ≢ k.Colon
unfolding prefix_update
prefix_no_colon κ o h colon = none_not_some (sym (ap prefix_update colon) ∙ h)

pub postfix_more : (t : Token) (o : UpdateOperator) → postfix_of t ≡ Some o → symbol t ≢ k.End
unfolding postfix_of postfix_update
postfix_more t o h ends = go t.line_before (sym (ap (postfix_by t.line_before) ends) ∙ h)
  where
    go : (line : Bool) → postfix_by line k.End ≡ Some o → ⊥
    go true h = none_not_some h
    go false h = none_not_some h

pub literal_more : (t : Token) (v : Primitive) → literal_of t ≡ Some v → symbol t ≢ k.End
unfolding literal_of
literal_more t v h ends = none_not_some (sym (ap (λ κ. literal_by κ t) ends) ∙ h)

pub property_more : (t : Token) (x : PropertyName) → property_name t ≡ Some x → symbol t ≢ k.End
unfolding property_name
property_more t x h ends = none_not_some (sym (ap (λ κ. property_name_by κ t) ends) ∙ h)

-- the end of a text is no operator, and begins no member and no call
pub end_no_operator : (no_in : Bool) (level : ℕ)
    → is_none (binary_operator no_in level k.End) ≡ true
unfolding binary_operator binary_of
end_no_operator no_in level = refl

pub end_no_property : not (begins_property k.End) ≡ true
unfolding begins_property
end_no_property = refl

pub end_no_suffix : not (begins_suffix k.End) ≡ true
unfolding begins_suffix
end_no_suffix = refl

pub label_colon : (κ : Symbol) → is_label k.Name κ ≡ true → κ ≡ k.Colon
label_colon k.Colon h = refl
label_colon _ h = cc h
