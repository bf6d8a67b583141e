-- How an expression is read, token by token: one function a rule of the grammar, by the rules that
-- are asked.
use Rattle.std.specs.Prelude.{ℕ, zero, suc, Bool, true, false, not, is_none, List, [], Option, Some, None}
use Rattle.ja_base.specs.declared.ids.Place.{Place}
use Rattle.ja_prim.specs.declared.primitive.Primitive.{Primitive}
use Rattle.ja_lex.specs.declared.token.Token.{Token}
use Rattle.ja_syntax.specs.declared.symbol.Symbol.{Symbol}
use Rattle.ja_syntax.specs.declared.symbol.Symbol.TheVariants as k
use Rattle.ja_syntax.specs.declared.tree.BinaryOperator.{BinaryOperator}
use Rattle.ja_syntax.specs.declared.tree.Expression.{Expression}
use Rattle.ja_syntax.specs.declared.tree.Expression.TheVariants as e
use Rattle.ja_syntax.specs.declared.tree.FunctionOf.{FunctionOf}
use Rattle.ja_syntax.specs.declared.tree.Name.{Name}
use Rattle.ja_syntax.specs.declared.tree.Operation.{Operation}
use Rattle.ja_syntax.specs.declared.tree.Property.{Property}
use Rattle.ja_syntax.specs.declared.tree.PropertyName.{PropertyName}
use Rattle.ja_syntax.specs.declared.tree.Statement.{Statement}
use Rattle.ja_syntax.specs.declared.tree.Suffix.{Suffix}
use Rattle.ja_syntax.specs.declared.tree.Suffix.TheVariants as suffix
use Rattle.ja_syntax.specs.declared.tree.UnaryOperator.{UnaryOperator}
use Rattle.ja_syntax.specs.declared.tree.UpdateOperator.{UpdateOperator}
use Rattle.ja_syntax.specs.References.{is_reference}
use Rattle.ja_syntax.specs.Symbols.{is_arguments}
use Rattle.ja_grammar.specs.declared.fault.Refusal.TheVariants.{Unexpected, RegExp, Arguments, Broken, Operand}
use Rattle.ja_grammar.specs.declared.part.ExpressionPart.{ExpressionPart}
use Rattle.ja_grammar.specs.declared.part.ExpressionPart.TheVariants as part
use Rattle.ja_grammar.specs.declared.part.StatementPart.{StatementPart}
use Rattle.ja_grammar.specs.declared.part.StatementPart.TheVariants as of_statement
use Rattle.ja_grammar.specs.Contexts.{Context, function_context}
use Rattle.ja_grammar.specs.Forms.{name_of, literal_of, property_name, begins_property, begins_suffix, postfix_of, is_prefix, chained, operated, sequence}
use Rattle.ja_grammar.specs.Input.{Rules, unless, Parser, ◌>>=◌, ◌>>◌, pure, refuse, look, take_token, enter, opening, expect, until, separated, listed, symbol}
use Rattle.ja_grammar.specs.Operators.{binary_operator, levels, unary_operator, prefix_update, assignment_operator}

-- how the parts are read that stand one level below
pub record Below : Type 0 where
  pub expression : ExpressionPart → Parser Expression
  pub statement : Context → StatementPart → Parser Statement

-- ---- names

module _ (g : Rules) where
  abbrev pub declared_name : Token → Bool → Parser Name
  declared_name t true = unless g Arguments (take_token >> pure (name_of t))
  declared_name t false = take_token >> pure (name_of t)

  abbrev pub declared_by : Token → Symbol → Parser Name
  declared_by t k.Name = declared_name t (is_arguments t.kind)
  declared_by t _ = refuse Unexpected

  unfoldable pub declared : Parser Name
  declared = look (λ t. declared_by t (symbol t))

  abbrev pub function_name_by : Bool → Symbol → Parser (Option Name)
  function_name_by required k.Name = declared >>= (λ x. pure (Some x))
  function_name_by true _ = refuse Unexpected
  function_name_by false _ = pure None

  unfoldable pub function_name : Bool → Parser (Option Name)
  function_name required = look (λ t. function_name_by required (symbol t))

-- ends the statements of a block: a brace, or the end of the text, where the brace is missed
abbrev pub is_close_brace : Symbol → Bool
is_close_brace k.CloseBrace = true
is_close_brace k.End = true
is_close_brace _ = false

-- ends the elements of an array literal: a bracket, or the end of the text, where the bracket is
-- missed
abbrev pub is_close_bracket : Symbol → Bool
is_close_bracket k.CloseBracket = true
is_close_bracket k.End = true
is_close_bracket _ = false

module _ (g : Rules) (b : Below) where
  -- an expression with commas, and one without, one level below
  abbrev pub whole_below : Bool → Parser Expression
  whole_below no_in = b.expression (part.Whole no_in)

  abbrev pub assignment_below : Bool → Parser Expression
  assignment_below no_in = b.expression (part.Assignment no_in)

  -- ---- array and object literals, functions (11.1, 13)

  abbrev pub element_close_by : Expression → Symbol → Parser (Option Expression)
  element_close_by x k.Comma = take_token >> pure (Some x)
  element_close_by x k.CloseBracket = pure (Some x)
  element_close_by x _ = refuse Unexpected

  unfoldable pub element_close : Expression → Parser (Option Expression)
  element_close x = look (λ t. element_close_by x (symbol t))

  abbrev pub element_by : Symbol → Parser (Option Expression)
  element_by k.Comma = take_token >> pure None
  element_by _ = assignment_below false >>= element_close

  unfoldable pub element : Parser (Option Expression)
  element = look (λ t. element_by (symbol t))

  abbrev pub property_by : Token → Option PropertyName → Parser (Property Expression)
  property_by t None = refuse Unexpected
  property_by t (Some name) = do
    take_token
    expect k.Colon
    x ← assignment_below false
    pure (record { name = name; value = x; place = t.place })

  unfoldable pub property : Parser (Property Expression)
  property = look (λ t. property_by t (property_name t))

  unfoldable pub function_body : Parser (List Statement)
  function_body = do
    opening g k.OpenBrace
    body ← until is_close_brace (b.statement function_context (of_statement.Whole 0 true))
    expect k.CloseBrace
    pure body

  unfoldable pub parameters : Parser (List Name)
  parameters = do
    opening g k.OpenParenthesis
    listed k.CloseParenthesis (declared g)

  unfoldable pub function : Bool → Parser (FunctionOf Statement)
  function required = do
    t ← expect k.Function
    name ← function_name g required
    xs ← parameters
    body ← function_body
    pure (record { name = name; parameters = xs; body = body; place = t.place })

  unfoldable pub array : Parser Expression
  array = do
    t ← enter g
    xs ← until is_close_bracket element
    expect k.CloseBracket
    pure (e.Array xs t.place)

  unfoldable pub object : Parser Expression
  object = do
    t ← enter g
    xs ← listed k.CloseBrace property
    pure (e.Object xs t.place)

  unfoldable pub parenthesized : Parser Expression
  parenthesized = do
    enter g
    x ← whole_below false
    expect k.CloseParenthesis
    pure x

  abbrev pub literal_by : Token → Option Primitive → Parser Expression
  literal_by t None = refuse Unexpected
  literal_by t (Some value) = take_token >> pure (e.Literal value t.place)

  unfoldable pub literal : Parser Expression
  literal = look (λ t. literal_by t (literal_of t))

  -- a regular expression has no tree: `this` stands for it
  abbrev pub regular_expression : Token → Parser Expression
  regular_expression t = unless g RegExp (take_token >> pure (e.This t.place))

  abbrev pub primary_by : Token → Symbol → Parser Expression
  primary_by t k.This = take_token >> pure (e.This t.place)
  primary_by t k.Name = take_token >> pure (e.Name (name_of t))
  primary_by t k.OpenBracket = array
  primary_by t k.OpenBrace = object
  primary_by t k.OpenParenthesis = parenthesized
  primary_by t k.Function = function false >>= (λ f. pure (e.Function f))
  primary_by t k.Divide = regular_expression t
  primary_by t k.DivideAssign = regular_expression t
  primary_by t _ = literal

  unfoldable pub primary : Parser Expression
  primary = look (λ t. primary_by t (symbol t))

  -- ---- members, calls and `new` (11.2)

  abbrev pub head_by : Token → Symbol → Parser Expression
  head_by t k.New = enter g >> b.expression (part.Created t.place)
  head_by t _ = primary

  unfoldable pub chain_head : Parser Expression
  chain_head = look (λ t. head_by t (symbol t))

  unfoldable pub dotted : Parser (Suffix Expression)
  dotted = do
    t ← take_token
    u ← expect k.Name
    pure (suffix.Member (name_of u) t.place)

  unfoldable pub indexed : Parser (Suffix Expression)
  indexed = do
    t ← enter g
    x ← whole_below false
    expect k.CloseBracket
    pure (suffix.Index x t.place)

  abbrev pub property_suffix_by : Symbol → Parser (Suffix Expression)
  property_suffix_by k.Dot = dotted
  property_suffix_by k.OpenBracket = indexed
  property_suffix_by _ = refuse Unexpected

  unfoldable pub property_suffix : Parser (Suffix Expression)
  property_suffix = look (λ t. property_suffix_by (symbol t))

  -- `(` and what stands behind it
  unfoldable pub arguments : Parser (List Expression)
  arguments = do
    enter g
    listed k.CloseParenthesis (assignment_below false)

  abbrev pub any_suffix_by : Token → Symbol → Parser (Suffix Expression)
  any_suffix_by t k.OpenParenthesis = arguments >>= (λ xs. pure (suffix.Call xs t.place))
  any_suffix_by t _ = property_suffix

  unfoldable pub any_suffix : Parser (Suffix Expression)
  any_suffix = look (λ t. any_suffix_by t (symbol t))

  unfoldable pub member : Parser Expression
  member = do
    x ← chain_head
    ss ← until (λ found. not (begins_property found)) property_suffix
    pure (chained x ss)

  abbrev pub created_by : Place → Expression → Symbol → Parser Expression
  created_by place x k.OpenParenthesis = arguments >>= (λ xs. pure (e.New x xs place))
  created_by place x _ = pure (e.New x [] place)

  unfoldable pub created : Place → Parser Expression
  created place = member >>= (λ x. look (λ t. created_by place x (symbol t)))

  unfoldable pub left_hand : Parser Expression
  left_hand = do
    x ← chain_head
    ss ← until (λ found. not (begins_suffix found)) any_suffix
    pure (chained x ss)

  -- ---- operators before and behind an operand (11.3, 11.4)

  abbrev pub updated_behind : Expression → Token → UpdateOperator → Bool → Parser Expression
  updated_behind x t o false = refuse Unexpected
  updated_behind x t o true = take_token >> pure (e.Update o x t.place)

  abbrev pub postfix_by : Expression → Token → Option UpdateOperator → Parser Expression
  postfix_by x t None = pure x
  postfix_by x t (Some o) = updated_behind x t o (is_reference x)

  unfoldable pub postfix : Parser Expression
  postfix = left_hand >>= (λ x. look (λ t. postfix_by x t (postfix_of t)))

  abbrev pub unary_by : Token → Option UnaryOperator → Option UpdateOperator → Parser Expression
  unary_by t (Some o) update =
      enter g >> (b.expression part.Unary >>= (λ x. pure (e.Unary o x t.place)))
  unary_by t None (Some o) =
      enter g >> (b.expression (part.Updated t.place) >>= (λ x. pure (e.Update o x t.place)))
  unary_by t None None = postfix

  unfoldable pub unary : Parser Expression
  unary = look (λ t. unary_by t (unary_operator (symbol t)) (prefix_update (symbol t)))

  -- the operand of the `++` or `--` at a place: it is complete
  abbrev pub operand_by : Place → Expression → Token → Bool → Option UpdateOperator
      → Parser Expression
  operand_by place x t false found = unless g (Operand place) (pure x)
  operand_by place x t true None = pure x
  operand_by place x t true (Some o) =
      unless g (Broken place) (take_token >> pure (e.Update o x t.place))

  unfoldable pub operand_close : Place → Expression → Parser Expression
  operand_close place x = look (λ t. operand_by place x t (is_reference x) (postfix_of t))

  -- .. and it begins with a prefix operator or not
  abbrev pub updated_by : Place → Bool → Parser Expression
  updated_by place true = unless g (Broken place) unary
  updated_by place false = left_hand >>= operand_close place

  unfoldable pub updated : Place → Parser Expression
  updated place = look (λ t. updated_by place (is_prefix (symbol t)))

  -- ---- operators between operands (11.5 to 11.14)

  abbrev pub operation_by : Parser Expression → Token → Option BinaryOperator
      → Parser (Operation Expression)
  operation_by one t None = refuse Unexpected
  operation_by one t (Some o) =
      take_token >> (one >>= (λ x. pure (record { operator = o; right = x; place = t.place })))

  unfoldable pub operation : Bool → ℕ → Parser Expression → Parser (Operation Expression)
  operation no_in level one =
      look (λ t. operation_by one t (binary_operator no_in level (symbol t)))

  unfoldable pub level : Bool → ℕ → Parser Expression → Parser Expression
  level no_in l one =
      look (λ t. one >>= (λ x. until (λ found. is_none (binary_operator no_in l found))
      (operation no_in l one) >>= (λ os. pure (operated t.place x os))))

  unfoldable pub binary : Bool → ℕ → Parser Expression
  binary no_in zero = unary
  binary no_in (suc l) = level no_in (suc l) (binary no_in l)

  abbrev pub conditional_by : Bool → Place → Expression → Symbol → Parser Expression
  conditional_by no_in place x k.Question = do
    enter g
    y ← assignment_below no_in
    expect k.Colon
    z ← assignment_below no_in
    pure (e.Conditional x y z place)
  conditional_by no_in place x _ = pure x

  unfoldable pub conditional : Bool → Parser Expression
  conditional no_in =
      look (λ t. binary no_in levels >>= (λ x.
      look (λ u. conditional_by no_in t.place x (symbol u))))

  abbrev pub assigned : Bool → Expression → Token → Option BinaryOperator → Bool → Parser Expression
  assigned no_in x t o false = refuse Unexpected
  assigned no_in x t o true =
      enter g >> (assignment_below no_in >>= (λ y. pure (e.Assign x o y t.place)))

  abbrev pub assignment_by : Bool → Expression → Token → Option (Option BinaryOperator)
      → Parser Expression
  assignment_by no_in x t None = pure x
  assignment_by no_in x t (Some o) = assigned no_in x t o (is_reference x)

  unfoldable pub assignment : Bool → Parser Expression
  assignment no_in =
      conditional no_in >>= (λ x. look (λ t.
      assignment_by no_in x t (assignment_operator (symbol t))))

  unfoldable pub whole : Bool → Parser Expression
  whole no_in = look (λ t. separated (assignment no_in) >>= (λ xs. pure (sequence t.place xs)))

  -- each part
  unfoldable pub expression_part : ExpressionPart → Parser Expression
  expression_part (part.Whole no_in) = whole no_in
  expression_part (part.Assignment no_in) = assignment no_in
  expression_part part.Unary = unary
  expression_part (part.Updated place) = updated place
  expression_part (part.Created place) = created place
