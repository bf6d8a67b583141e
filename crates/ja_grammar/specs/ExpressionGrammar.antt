-- The grammar of expressions (ES3 11 and 13), one clause a production, by the rules that are asked
-- where it stands; what stands behind a token that counts is one level below, and is `Nested`.
-- Where a rule takes as much as there is, the clause says with which tokens the rest doesn't begin.
-- The clauses in which a rule isn't asked (`g WHY i ≡ false`) are none of the language, of which
-- each rule is asked: by them it is said what a text is refused for. They stand last, under `none
-- of the language`.
use Rattle.std.specs.Prelude.{◌≡◌, ◌⊎◌, ℕ, zero, suc, Bool, true, false, List, [], ◌∷◌, Option, Some, None}
use Rattle.ja_base.specs.declared.ids.Place.{Place}
use Rattle.ja_prim.specs.declared.primitive.Primitive.{Primitive}
use Rattle.ja_lex.specs.declared.token.Token.{Token}
use Rattle.ja_syntax.specs.declared.symbol.Symbol.TheVariants as k
use Rattle.ja_syntax.specs.declared.tree.BinaryOperator.{BinaryOperator}
use Rattle.ja_syntax.specs.declared.tree.Expression.{Expression}
use Rattle.ja_syntax.specs.declared.tree.Expression.TheVariants as e
use Rattle.ja_syntax.specs.declared.tree.FunctionOf.{FunctionOf}
use Rattle.ja_syntax.specs.declared.tree.Name.{Name}
use Rattle.ja_syntax.specs.declared.tree.Operation.{Operation}
use Rattle.ja_syntax.specs.declared.tree.Property.{Property}
use Rattle.ja_syntax.specs.declared.tree.PropertyName.{PropertyName}
use Rattle.ja_syntax.specs.declared.tree.Statement.{Statement}
use Rattle.ja_syntax.specs.declared.tree.Suffix.{Suffix}
use Rattle.ja_syntax.specs.declared.tree.Suffix.TheVariants as suffix
use Rattle.ja_syntax.specs.declared.tree.UnaryOperator.{UnaryOperator}
use Rattle.ja_syntax.specs.declared.tree.UpdateOperator.{UpdateOperator}
use Rattle.ja_syntax.specs.References.{is_reference}
use Rattle.ja_syntax.specs.Symbols.{is_arguments}
use Rattle.ja_grammar.specs.declared.fault.Refusal.TheVariants as refusal
use Rattle.ja_grammar.specs.declared.part.ExpressionPart.{ExpressionPart}
use Rattle.ja_grammar.specs.declared.part.ExpressionPart.TheVariants as part
use Rattle.ja_grammar.specs.declared.part.StatementPart.{StatementPart}
use Rattle.ja_grammar.specs.declared.part.StatementPart.TheVariants as of_statement
use Rattle.ja_grammar.specs.Contexts.{Context, function_context}
use Rattle.ja_grammar.specs.Forms.{name_of, literal_of, property_name, begins_property, begins_suffix, postfix_of, is_prefix, chained, operated, sequence}
use Rattle.ja_grammar.specs.Input.{Tokens, symbol, next, head, Rules}
use Rattle.ja_grammar.specs.Operators.{binary_operator, levels, unary_operator, prefix_update, assignment_operator}
use Rattle.ja_grammar.specs.Productions.{Rule, Is, At, NotAt, HasRoom, Many, Listed, Separated}

-- the rules one level below
pub record Nested : Type 1 where
  pub expression : ExpressionPart → Rule Expression
  pub statement : Context → StatementPart → Rule Statement

-- an element of an array literal with its comma, or the last one; a comma alone is a hole (11.1.4)
pub data Element (n : Nested) : Tokens → Option Expression → Tokens → Type 0 where
  hole : {t : Token} {r : Tokens} → Is k.Comma t → Element n (t ∷ r) None r
  item : {i r : Tokens} {t : Token} {x : Expression} → NotAt k.Comma i → NotAt k.CloseBracket i
      → n.expression (part.Assignment false) i x (t ∷ r) → Is k.Comma t → Element n i (Some x) r
  last : {i r : Tokens} {x : Expression} → NotAt k.Comma i → NotAt k.CloseBracket i
      → n.expression (part.Assignment false) i x r → At k.CloseBracket r → Element n i (Some x) r

-- `NAME: VALUE` (11.1.5)
pub data OneProperty (n : Nested) : Tokens → Property Expression → Tokens → Type 0 where
  property : {t u : Token} {i r : Tokens} {name : PropertyName} {x : Expression}
      → property_name t ≡ Some name → Is k.Colon u
      → n.expression (part.Assignment false) i x r
      → OneProperty n (t ∷ u ∷ i) (record { name = name; value = x; place = t.place }) r

-- a name that is declared: not `arguments`
pub data Declared (g : Rules) : Tokens → Name → Tokens → Type 0 where
  declared : {t : Token} {r : Tokens} → Is k.Name t → is_arguments t.kind ≡ false
      → Declared g (t ∷ r) (name_of t) r
  -- ---- none of the language: `arguments`
  arguments : {t : Token} {r : Tokens} → Is k.Name t → is_arguments t.kind ≡ true
      → g refusal.Arguments (t ∷ r) ≡ false → Declared g (t ∷ r) (name_of t) r

-- the name of a function, which an expression need not have (13)
pub data FunctionName (g : Rules) : Bool → Tokens → Option Name → Tokens → Type 0 where
  named : {required : Bool} {i r : Tokens} {x : Name} → Declared g i x r
      → FunctionName g required i (Some x) r
  unnamed : {r : Tokens} → NotAt k.Name r → FunctionName g false r None r

-- `function NAME(PARAMETERS) { BODY }` (13)
pub data Function (g : Rules) (n : Nested) (required : Bool) : Tokens → FunctionOf Statement
    → Tokens → Type 0 where
  function : {t u v w : Token} {i m l r : Tokens} {name : Option Name} {xs : List Name}
      {body : List Statement}
      → Is k.Function t → FunctionName g required i name (u ∷ m) → Is k.OpenParenthesis u
      → HasRoom g (u ∷ m)
      → Listed k.CloseParenthesis (Declared g) m xs (v ∷ l) → Is k.OpenBrace v → HasRoom g (v ∷ l)
      → Many (n.statement function_context (of_statement.Whole 0 true)) (At k.CloseBrace) l body
      (w ∷ r) → Is k.CloseBrace w
      → Function g n required (t ∷ i) (record
      { name = name; parameters = xs; body = body; place = t.place }) r

-- 11.1
pub data Primary (g : Rules) (n : Nested) : Tokens → Expression → Tokens → Type 0 where
  this : {t : Token} {r : Tokens} → Is k.This t → Primary g n (t ∷ r) (e.This t.place) r
  name : {t : Token} {r : Tokens} → Is k.Name t → Primary g n (t ∷ r) (e.Name (name_of t)) r
  literal : {t : Token} {r : Tokens} {value : Primitive} → literal_of t ≡ Some value
      → Primary g n (t ∷ r) (e.Literal value t.place) r
  array : {t u : Token} {i r : Tokens} {xs : List (Option Expression)} → Is k.OpenBracket t
      → HasRoom g (t ∷ i)
      → Many (Element n) (At k.CloseBracket) i xs (u ∷ r) → Is k.CloseBracket u
      → Primary g n (t ∷ i) (e.Array xs t.place) r
  object : {t : Token} {i r : Tokens} {xs : List (Property Expression)} → Is k.OpenBrace t
      → HasRoom g (t ∷ i)
      → Listed k.CloseBrace (OneProperty n) i xs r → Primary g n (t ∷ i) (e.Object xs t.place) r
  parenthesized : {t u : Token} {i r : Tokens} {x : Expression} → Is k.OpenParenthesis t
      → HasRoom g (t ∷ i)
      → n.expression (part.Whole false) i x (u ∷ r) → Is k.CloseParenthesis u
      → Primary g n (t ∷ i) x r
  function : {i r : Tokens} {f : FunctionOf Statement} → Function g n false i f r
      → Primary g n i (e.Function f) r
  -- ---- none of the language: a regular expression; it has no tree, and `this` stands for it
  regular_expression : {t : Token} {r : Tokens} → (Is k.Divide t) ⊎ (Is k.DivideAssign t)
      → g refusal.RegExp (t ∷ r) ≡ false → Primary g n (t ∷ r) (e.This t.place) r

-- a primary expression, or `new` and what stands behind it (11.2)
pub data Head (g : Rules) (n : Nested) : Tokens → Expression → Tokens → Type 0 where
  primary : {i r : Tokens} {x : Expression} → NotAt k.New i → Primary g n i x r → Head g n i x r
  created : {t : Token} {i r : Tokens} {x : Expression} → Is k.New t → HasRoom g (t ∷ i)
      → n.expression (part.Created t.place) i x r → Head g n (t ∷ i) x r

-- `.NAME` or `[KEY]` (11.2.1)
pub data PropertySuffix (g : Rules) (n : Nested) : Tokens → Suffix Expression → Tokens
    → Type 0 where
  member : {t u : Token} {r : Tokens} → Is k.Dot t → Is k.Name u
      → PropertySuffix g n (t ∷ u ∷ r) (suffix.Member (name_of u) t.place) r
  index : {t u : Token} {i r : Tokens} {x : Expression} → Is k.OpenBracket t → HasRoom g (t ∷ i)
      → n.expression (part.Whole false) i x (u ∷ r)
      → Is k.CloseBracket u → PropertySuffix g n (t ∷ i) (suffix.Index x t.place) r

-- a list of arguments behind its `(` (11.2.4)
abbrev pub Arguments : Nested → Rule (List Expression)
Arguments n i xs r = Listed k.CloseParenthesis (n.expression (part.Assignment false)) i xs r

-- a suffix of a member or call (11.2)
pub data AnySuffix (g : Rules) (n : Nested) : Tokens → Suffix Expression → Tokens → Type 0 where
  property : {i r : Tokens} {s : Suffix Expression} → PropertySuffix g n i s r → AnySuffix g n i s r
  call : {t : Token} {i r : Tokens} {xs : List Expression} → Is k.OpenParenthesis t
      → HasRoom g (t ∷ i) → Arguments n i xs r
      → AnySuffix g n (t ∷ i) (suffix.Call xs t.place) r

-- a member expression: no call outside parentheses, but those of `new` (11.2)
pub data Member (g : Rules) (n : Nested) : Tokens → Expression → Tokens → Type 0 where
  member : {i m r : Tokens} {x : Expression} {ss : List (Suffix Expression)} → Head g n i x m
      → Many (PropertySuffix g n) (λ r. begins_property (next r) ≡ false) m ss r
      → Member g n i (chained x ss) r

-- what stands behind `new`: a member expression, and arguments where they follow (11.2.2)
pub data Created (g : Rules) (n : Nested) (place : Place) : Tokens → Expression → Tokens
    → Type 0 where
  with_arguments : {t : Token} {i m r : Tokens} {x : Expression} {xs : List Expression}
      → Member g n i x (t ∷ m) → Is k.OpenParenthesis t
      → HasRoom g (t ∷ m) → Arguments n m xs r → Created g n place i (e.New x xs place) r
  alone : {i r : Tokens} {x : Expression} → Member g n i x r → NotAt k.OpenParenthesis r
      → Created g n place i (e.New x [] place) r

-- a left-hand-side expression (11.2)
pub data LeftHand (g : Rules) (n : Nested) : Tokens → Expression → Tokens → Type 0 where
  left_hand : {i m r : Tokens} {x : Expression} {ss : List (Suffix Expression)} → Head g n i x m
      → Many (AnySuffix g n) (λ r. begins_suffix (next r) ≡ false) m ss r
      → LeftHand g n i (chained x ss) r

-- `++` and `--` stand behind a reference, on its line (11.3)
pub data Postfix (g : Rules) (n : Nested) : Tokens → Expression → Tokens → Type 0 where
  updated : {t : Token} {i r : Tokens} {x : Expression} {o : UpdateOperator}
      → LeftHand g n i x (t ∷ r) → postfix_of t ≡ Some o
      → is_reference x ≡ true → Postfix g n i (e.Update o x t.place) r
  plain : {i r : Tokens} {x : Expression} → LeftHand g n i x r → postfix_of (head r) ≡ None
      → Postfix g n i x r

-- 11.4
pub data Unary (g : Rules) (n : Nested) : Tokens → Expression → Tokens → Type 0 where
  operator : {t : Token} {i r : Tokens} {x : Expression} {o : UnaryOperator}
      → unary_operator (symbol t) ≡ Some o → HasRoom g (t ∷ i)
      → n.expression part.Unary i x r → Unary g n (t ∷ i) (e.Unary o x t.place) r
  update : {t : Token} {i r : Tokens} {x : Expression} {o : UpdateOperator}
      → prefix_update (symbol t) ≡ Some o → HasRoom g (t ∷ i)
      → n.expression (part.Updated t.place) i x r → Unary g n (t ∷ i) (e.Update o x t.place) r
  operand : {i r : Tokens} {x : Expression} → is_prefix (next i) ≡ false → Postfix g n i x r
      → Unary g n i x r

-- an operator of a level, and its right operand
pub data Operand (no_in : Bool) (level : ℕ) (One : Rule Expression) : Tokens → Operation Expression
    → Tokens → Type 0 where
  operand : {t : Token} {i r : Tokens} {x : Expression} {o : BinaryOperator}
      → binary_operator no_in level (symbol t) ≡ Some o → One i x r
      → Operand no_in level One (t ∷ i) (record { operator = o; right = x; place = t.place }) r

-- operands of one level between operators of that level
pub data Level (no_in : Bool) (level : ℕ) (One : Rule Expression) : Tokens → Expression → Tokens
    → Type 0 where
  level : {i m r : Tokens} {x : Expression} {os : List (Operation Expression)} → One i x m
      → Many (Operand no_in level One) (λ r. binary_operator no_in level (next r) ≡ None) m os r
      → Level no_in level One i (operated (head i).place x os) r

-- 11.5 to 11.11, by levels of precedence
abbrev pub Binary : Rules → Nested → Bool → ℕ → Rule Expression
Binary g n no_in zero i x r = Unary g n i x r
Binary g n no_in (suc l) i x r = Level no_in (suc l) (Binary g n no_in l) i x r

-- 11.12
pub data Conditional (g : Rules) (n : Nested) (no_in : Bool) : Tokens → Expression → Tokens
    → Type 0 where
  chosen : {t u : Token} {i m l r : Tokens} {x y z : Expression}
      → Binary g n no_in levels i x (t ∷ m) → Is k.Question t → HasRoom g (t ∷ m)
      → n.expression (part.Assignment no_in) m y (u ∷ l) → Is k.Colon u
      → n.expression (part.Assignment no_in) l z r
      → Conditional g n no_in i (e.Conditional x y z (head i).place) r
  plain : {i r : Tokens} {x : Expression} → Binary g n no_in levels i x r → NotAt k.Question r
      → Conditional g n no_in i x r

-- the left side of an assignment is a reference (11.13)
pub data Assignment (g : Rules) (n : Nested) (no_in : Bool) : Tokens → Expression → Tokens
    → Type 0 where
  assigned : {t : Token} {i m r : Tokens} {x y : Expression} {o : Option BinaryOperator}
      → Conditional g n no_in i x (t ∷ m)
      → assignment_operator (symbol t) ≡ Some o → is_reference x ≡ true → HasRoom g (t ∷ m)
      → n.expression (part.Assignment no_in) m y r
      → Assignment g n no_in i (e.Assign x o y t.place) r
  plain : {i r : Tokens} {x : Expression} → Conditional g n no_in i x r
      → assignment_operator (next r) ≡ None → Assignment g n no_in i x r

-- 11.14
pub data Whole (g : Rules) (n : Nested) (no_in : Bool) : Tokens → Expression → Tokens → Type 0 where
  whole : {i r : Tokens} {xs : List Expression} → Separated (Assignment g n no_in) i xs r
      → Whole g n no_in i (sequence (head i).place xs) r

-- The operand of the prefix `++` or `--` at a place is a reference (11.4.4, 11.4.5).
pub data Updated (g : Rules) (n : Nested) (place : Place) : Tokens → Expression → Tokens
    → Type 0 where
  updated : {i r : Tokens} {x : Expression} → is_prefix (next i) ≡ false → LeftHand g n i x r
      → is_reference x ≡ true → postfix_of (head r) ≡ None
      → Updated g n place i x r
  -- ---- none of the language: another operand; one with an operator before it, and behind it
  any : {i r : Tokens} {x : Expression} → is_prefix (next i) ≡ false → LeftHand g n i x r
      → is_reference x ≡ false → g (refusal.Operand place) r ≡ false
      → Updated g n place i x r
  before : {i r : Tokens} {x : Expression} → is_prefix (next i) ≡ true
      → g (refusal.Broken place) i ≡ false → Unary g n i x r → Updated g n place i x r
  behind : {t : Token} {i r : Tokens} {x : Expression} {o : UpdateOperator}
      → is_prefix (next i) ≡ false → LeftHand g n i x (t ∷ r) → is_reference x ≡ true
      → postfix_of t ≡ Some o → g (refusal.Broken place) (t ∷ r) ≡ false
      → Updated g n place i (e.Update o x t.place) r

-- each part
abbrev pub ExpressionRule : Rules → Nested → ExpressionPart → Rule Expression
ExpressionRule g n (part.Whole no_in) i x r = Whole g n no_in i x r
ExpressionRule g n (part.Assignment no_in) i x r = Assignment g n no_in i x r
ExpressionRule g n part.Unary i x r = Unary g n i x r
ExpressionRule g n (part.Updated place) i x r = Updated g n place i x r
ExpressionRule g n (part.Created place) i x r = Created g n place i x r
