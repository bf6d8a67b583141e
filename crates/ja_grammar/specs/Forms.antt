-- What the tokens and the parts of a form give to its tree.
use Rattle.std.specs.Prelude.{ℕ, Bool, true, false, not, ◌&&◌, ◌||◌, is_some, List, [], ◌∷◌, Option, Some, None}
use Rattle.ja_base.specs.declared.ids.Place.{Place}
use Rattle.ja_prim.specs.declared.primitive.Num.TheVariants.{Whole}
use Rattle.ja_prim.specs.declared.primitive.Primitive.{Primitive}
use Rattle.ja_prim.specs.declared.primitive.Primitive.TheVariants as primitive
use Rattle.ja_lex.specs.declared.token.Token.{Token}
use Rattle.ja_syntax.specs.declared.symbol.Symbol.{Symbol}
use Rattle.ja_syntax.specs.declared.symbol.Symbol.TheVariants as k
use Rattle.ja_syntax.specs.declared.tree.Expression.{Expression}
use Rattle.ja_syntax.specs.declared.tree.Expression.TheVariants as e
use Rattle.ja_syntax.specs.declared.tree.Name.{Name}
use Rattle.ja_syntax.specs.declared.tree.Operation.{Operation}
use Rattle.ja_syntax.specs.declared.tree.PropertyName.{PropertyName}
use Rattle.ja_syntax.specs.declared.tree.PropertyName.TheVariants as property
use Rattle.ja_syntax.specs.declared.tree.Suffix.{Suffix}
use Rattle.ja_syntax.specs.declared.tree.UpdateOperator.{UpdateOperator}
use Rattle.ja_syntax.specs.Symbols.{word_of, units_of, number_of}
use Rattle.ja_grammar.specs.Input.{symbol}
use Rattle.ja_grammar.specs.Operators.{postfix_update, prefix_update, unary_operator}

-- the text of a word
abbrev pub word : Token → List ℕ
word t = word_of t.kind

-- a word as an identifier
abbrev pub name_of : Token → Name
name_of t = record { text = word t; place = t.place }

-- the value of a literal (7.8), by its symbol
abbrev pub literal_by : Symbol → Token → Option Primitive
literal_by k.Null t = Some primitive.Null
literal_by k.True t = Some (primitive.Bool true)
literal_by k.False t = Some (primitive.Bool false)
literal_by k.Number t = Some (primitive.Number (Whole (number_of t.kind)))
literal_by k.Text t = Some (primitive.Text (units_of t.kind))
literal_by _ t = None

unfoldable pub literal_of : Token → Option Primitive
literal_of t = literal_by (symbol t) t

-- the name of a property in an object literal (11.1.5), by its symbol
abbrev pub property_name_by : Symbol → Token → Option PropertyName
property_name_by k.Name t = Some (property.Word (word t))
property_name_by k.Text t = Some (property.Text (units_of t.kind))
property_name_by k.Number t = Some (property.Number (number_of t.kind))
property_name_by _ t = None

unfoldable pub property_name : Token → Option PropertyName
property_name t = property_name_by (symbol t) t

-- `.` and `[` go on with a member (11.2)
unfoldable pub begins_property : Symbol → Bool
begins_property k.Dot = true
begins_property k.OpenBracket = true
begins_property _ = false

-- `.`, `[` and `(` go on with a member or call (11.2)
unfoldable pub begins_suffix : Symbol → Bool
begins_suffix k.Dot = true
begins_suffix k.OpenBracket = true
begins_suffix k.OpenParenthesis = true
begins_suffix _ = false

-- the `++` or `--` that a token is behind an operand: it is on the operand's line (11.3, 7.9.1)
abbrev pub postfix_by : Bool → Symbol → Option UpdateOperator
postfix_by true k = None
postfix_by false k = postfix_update k

unfoldable pub postfix_of : Token → Option UpdateOperator
postfix_of t = postfix_by t.line_before (symbol t)

-- a prefix operator (11.4)
unfoldable pub is_prefix : Symbol → Bool
is_prefix k = is_some (unary_operator k) || is_some (prefix_update k)

-- a head with its suffixes
unfoldable pub chained : Expression → List (Suffix Expression) → Expression
chained x [] = x
chained x (s ∷ ss) = e.Chain x (s ∷ ss)

-- a first operand with its operations
unfoldable pub operated : Place → Expression → List (Operation Expression) → Expression
operated place x [] = x
operated place x (o ∷ os) = e.Binary x (o ∷ os) place

-- expressions between commas; one stands for itself, and there is at least one
unfoldable pub sequence : Place → List Expression → Expression
sequence place [] = e.This place
sequence place (x ∷ []) = x
sequence place (x ∷ y ∷ ys) = e.Sequence x (y ∷ ys) place

-- a symbol that begins a statement other than an expression or a labelled statement (12)
unfoldable pub begins_statement : Symbol → Bool
begins_statement k.OpenBrace = true
begins_statement k.Var = true
begins_statement k.Semicolon = true
begins_statement k.If = true
begins_statement k.Do = true
begins_statement k.While = true
begins_statement k.For = true
begins_statement k.Continue = true
begins_statement k.Break = true
begins_statement k.Return = true
begins_statement k.Switch = true
begins_statement k.Throw = true
begins_statement k.Try = true
begins_statement k.Function = true
begins_statement _ = false

-- a name and a colon
abbrev pub is_label : Symbol → Symbol → Bool
is_label k.Name k.Colon = true
is_label _ _ = false

-- a name on the line of the token before it (7.9.1)
abbrev pub is_name : Symbol → Bool
is_name k.Name = true
is_name _ = false

unfoldable pub is_label_behind : Token → Bool
is_label_behind t = is_name (symbol t) && not t.line_before

-- what ends a statement without a further token
abbrev pub ends_statement : Symbol → Bool
ends_statement k.Semicolon = true
ends_statement k.CloseBrace = true
ends_statement k.End = true
ends_statement _ = false

-- a token with which no value follows behind `return` (7.9.1, 12.9)
unfoldable pub ends_return : Token → Bool
ends_return t = t.line_before || ends_statement (symbol t)

-- what ends a clause of a `switch`; at the end of the text, what follows it is missed
unfoldable pub ends_clause : Symbol → Bool
ends_clause k.Case = true
ends_clause k.Default = true
ends_clause k.CloseBrace = true
ends_clause k.End = true
ends_clause _ = false
