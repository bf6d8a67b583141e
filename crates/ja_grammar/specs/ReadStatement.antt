-- How a statement is read, token by token: one function a rule of the grammar, by the rules that
-- are asked.
use Rattle.std.specs.Prelude.{ℕ, zero, suc, Bool, true, false, not, ◌&&◌, if◌then◌else◌, List, [], ◌∷◌, ◌++◌, Option, Some, None}
use Rattle.ja_base.specs.declared.ids.Place.{Place}
use Rattle.ja_lex.specs.declared.token.Token.{Token}
use Rattle.ja_syntax.specs.declared.symbol.Symbol.{Symbol}
use Rattle.ja_syntax.specs.declared.symbol.Symbol.TheVariants as k
use Rattle.ja_syntax.specs.declared.tree.Case.{Case, roll-Case}
use Rattle.ja_syntax.specs.declared.tree.CatchOf.{CatchOf}
use Rattle.ja_syntax.specs.declared.tree.Declaration.{Declaration}
use Rattle.ja_syntax.specs.declared.tree.Expression.{Expression}
use Rattle.ja_syntax.specs.declared.tree.ForFirst.{ForFirst}
use Rattle.ja_syntax.specs.declared.tree.ForFirst.TheVariants as first
use Rattle.ja_syntax.specs.declared.tree.ForTarget.{ForTarget}
use Rattle.ja_syntax.specs.declared.tree.ForTarget.TheVariants as target
use Rattle.ja_syntax.specs.declared.tree.Name.{Name}
use Rattle.ja_syntax.specs.declared.tree.Statement.{Statement}
use Rattle.ja_syntax.specs.declared.tree.Statement.TheVariants as s
use Rattle.ja_syntax.specs.References.{is_reference}
use Rattle.ja_syntax.specs.Symbols.{same_symbol}
use Rattle.ja_grammar.specs.declared.fault.Refusal.{Refusal}
use Rattle.ja_grammar.specs.declared.fault.Refusal.TheVariants.{Unexpected, Deep, DeepLabel, Broken, Alone, UnknownLabel}
use Rattle.ja_grammar.specs.declared.part.StatementPart.{StatementPart}
use Rattle.ja_grammar.specs.declared.part.StatementPart.TheVariants as part
use Rattle.ja_grammar.specs.Contexts.{Context, program_context, loop_context, switch_context, labelled_context, has_label, has_loop, may_break}
use Rattle.ja_grammar.specs.Forms.{word, name_of, is_label, is_label_behind, ends_return, ends_clause}
use Rattle.ja_grammar.specs.Input.{Rules, unless, Parser, ◌>>=◌, ◌>>◌, pure, refuse, look, look_second, take_token, enter, opening, expect, many, until, separated, symbol}
use Rattle.ja_grammar.specs.ReadExpression.{Below, declared, function, whole, assignment, expression_part, whole_below, assignment_below, is_close_brace}

-- ends a statement (7.9)
abbrev pub ended_by : Symbol → Bool → Parser (Unit {0})
ended_by k.Semicolon new_line = take_token >> pure tt
ended_by k.CloseBrace new_line = pure tt
ended_by k.End new_line = pure tt
ended_by _ true = pure tt
ended_by _ false = refuse Unexpected

unfoldable pub ended : Parser (Unit {0})
ended = look (λ t. ended_by (symbol t) t.line_before)

-- a declared variable, whose value is read so (12.2)
abbrev pub variable_by : Parser Expression → Name → Token → Symbol → Parser (Declaration Expression)
variable_by value x t k.Assign =
    take_token >> (value >>= (λ y. pure (record
    { name = x; initialiser = Some (record { value = y; place = t.place }) })))
variable_by value x t _ = pure (record { name = x; initialiser = None })

unfoldable pub variable : Rules → Parser Expression → Parser (Declaration Expression)
variable g value = declared g >>= (λ x. look (λ t. variable_by value x t (symbol t)))

-- the label behind a `continue` or `break` at a place; a label that is known but not allowed breaks
-- a rule there (12.7, 12.8)
module _ (g : Rules) where
  abbrev pub labelled_by : Place → Token → Bool → Bool → Parser (Option Name)
  labelled_by place t true known = take_token >> pure (Some (name_of t))
  labelled_by place t false true = unless g (Broken place) (take_token >> pure (Some (name_of t)))
  labelled_by place t false false = refuse Unexpected

  abbrev pub unlabelled_by : Place → Bool → Parser (Option Name)
  unlabelled_by place true = pure None
  unlabelled_by place false = unless g (Alone place) (pure None)

  abbrev pub target_by : (List ℕ → Bool) → (List ℕ → Bool) → Bool → Place → Token → Bool
      → Parser (Option Name)
  target_by allowed known alone place t true =
      labelled_by place t (allowed (word t)) (known (word t))
  target_by allowed known alone place t false = unlabelled_by place alone

  unfoldable pub jump_target : (List ℕ → Bool) → (List ℕ → Bool) → Bool → Place
      → Parser (Option Name)
  jump_target allowed known alone place =
      look (λ t. target_by allowed known alone place t (is_label_behind t))

-- why the word of a jump is refused where there is nothing to leave, by the token behind it: that
-- is an unknown label, or the word is wrong
unfoldable pub without_target : Context → Token → Refusal
without_target c t =
    if is_label_behind t && not (has_label c (word t)) then UnknownLabel t.place else Unexpected

-- takes the `:` of a label at a place, which counts
unfoldable pub enter_label : Rules → Place → Parser Token
enter_label g place = unless g (DeepLabel place) take_token

-- the clauses of a `switch` so far, and whether there was a `default`
pub record Clauses : Type 0 where
  pub defaulted : Bool
  pub found : List Case

module _ (g : Rules) (b : Below) where
  abbrev pub inner : Context → Parser Statement
  inner c = b.statement c (part.Whole 0 false)

  unfoldable pub block : Context → Parser (List Statement)
  block c = do
    opening g k.OpenBrace
    xs ← until is_close_brace (inner c)
    expect k.CloseBrace
    pure xs

  unfoldable pub bracketed : Parser Expression
  bracketed = do
    opening g k.OpenParenthesis
    x ← whole_below g b false
    expect k.CloseParenthesis
    pure x

  unfoldable pub variables : Parser Statement
  variables = do
    t ← take_token
    xs ← separated (variable g (assignment g b false))
    ended
    pure (s.Variables xs t.place)

  unfoldable pub expression_statement : Parser Statement
  expression_statement =
      look (λ t. whole g b false >>= (λ x. ended >> pure (s.Expression x t.place)))

  -- ---- jumps (12.7 to 12.9, 12.13)

  -- the word of a jump where there is nothing to leave, and the token behind it
  abbrev pub untargeted : (Option Name → Statement) → Context → Token → Parser Statement
  untargeted jump c u =
      unless g (without_target c u) (take_token >>
      (take_token >> (ended >> pure (jump (Some (name_of u))))))

  abbrev pub continue_by : Context → Bool → Parser Statement
  continue_by c false = look_second (λ t u. untargeted (λ x. s.Continue x t.place) c u)
  continue_by c true =
      take_token >>= (λ t. jump_target g (has_loop c) (has_label c) true t.place >>=
      (λ x. ended >> pure (s.Continue x t.place)))

  unfoldable pub continue : Context → Parser Statement
  continue c = continue_by c c.in_loop

  abbrev pub break_by : Context → Bool → Parser Statement
  break_by c false = look_second (λ t u. untargeted (λ x. s.Break x t.place) c u)
  break_by c true =
      take_token >>= (λ t. jump_target g (has_label c) (has_label c) c.in_breakable t.place >>=
      (λ x. ended >> pure (s.Break x t.place)))

  unfoldable pub break : Context → Parser Statement
  break c = break_by c (may_break c)

  abbrev pub returned_by : Bool → Parser (Option Expression)
  returned_by true = pure None
  returned_by false = whole g b false >>= (λ x. pure (Some x))

  unfoldable pub returned : Parser (Option Expression)
  returned = look (λ t. returned_by (ends_return t))

  abbrev pub return_by : Bool → Parser Statement
  return_by false = refuse Unexpected
  return_by true = take_token >>= (λ t. returned >>= (λ x. ended >> pure (s.Return x t.place)))

  unfoldable pub return : Context → Parser Statement
  return c = return_by c.in_function

  abbrev pub thrown_by : Bool → Parser Expression
  thrown_by true = refuse Unexpected
  thrown_by false = whole g b false

  unfoldable pub thrown : Parser Expression
  thrown = look (λ t. thrown_by t.line_before)

  unfoldable pub throw : Parser Statement
  throw = take_token >>= (λ t. thrown >>= (λ x. ended >> pure (s.Throw x t.place)))

  -- ---- labels (12.12)

  abbrev pub label_by : Token → Bool → Parser Token
  label_by t true = unless g (Broken t.place) (enter_label g t.place)
  label_by t false = enter_label g t.place

  -- `NAME:`
  unfoldable pub label : Context → Parser Token
  label c = take_token >>= (λ t. label_by t (has_label c (word t)) >> pure t)

  unfoldable pub labelled : Context → ℕ → Parser Statement
  labelled c labels = do
    t ← label c
    x ← b.statement (labelled_context c (word t)) (part.Whole (suc labels) false)
    pure (s.Labelled (name_of t) x)

  -- ---- `switch` and `try` (12.11, 12.14)

  unfoldable pub clause : Context → Parser (List Statement)
  clause c = expect k.Colon >> until ends_clause (inner c)

  unfoldable pub case : Context → Parser Case
  case c = do
    t ← take_token
    x ← whole_below g b false
    xs ← clause c
    pure (roll-Case (record { test = Some x; body = xs; place = t.place }))

  unfoldable pub default : Context → Parser Case
  default c = do
    t ← take_token
    xs ← clause c
    pure (roll-Case (record { test = None; body = xs; place = t.place }))

  abbrev pub with_case : Clauses → Case → Clauses
  with_case cs x = record { defaulted = cs.defaulted; found = cs.found ++ x ∷ [] }

  abbrev pub with_default : Clauses → Case → Clauses
  with_default cs x = record { defaulted = true; found = cs.found ++ x ∷ [] }

  abbrev pub default_by : Context → Clauses → Bool → Parser (Option Clauses)
  default_by c cs true = refuse Unexpected
  default_by c cs false = default c >>= (λ x. pure (Some (with_default cs x)))

  abbrev pub clause_by : Context → Clauses → Symbol → Parser (Option Clauses)
  clause_by c cs k.CloseBrace = pure None
  clause_by c cs k.Case = case c >>= (λ x. pure (Some (with_case cs x)))
  clause_by c cs k.Default = default_by c cs cs.defaulted
  clause_by c cs _ = refuse Unexpected

  unfoldable pub cases : Context → Parser (List Case)
  cases c = do
    opening g k.OpenBrace
    cs ← many (λ cs. look (λ t. clause_by c cs (symbol t)))
        (record { defaulted = false; found = [] })
    expect k.CloseBrace
    pure cs.found

  unfoldable pub switch : Context → Parser Statement
  switch c = do
    t ← take_token
    x ← bracketed
    cs ← cases (switch_context c)
    pure (s.Switch x cs t.place)

  -- behind the word `catch`
  unfoldable pub catch : Context → Parser (CatchOf Statement)
  catch c = do
    take_token
    opening g k.OpenParenthesis
    x ← declared g
    expect k.CloseParenthesis
    xs ← block c
    pure (record { parameter = x; body = xs })

  unfoldable pub finally : Context → Parser (List Statement)
  finally c = take_token >> block c

  abbrev pub finally_by : Context → Token → List Statement → CatchOf Statement → Symbol
      → Parser Statement
  finally_by c t xs h k.Finally = finally c >>= (λ ys. pure (s.Try xs (Some h) (Some ys) t.place))
  finally_by c t xs h _ = pure (s.Try xs (Some h) None t.place)

  abbrev pub handlers_by : Context → Token → List Statement → Symbol → Parser Statement
  handlers_by c t xs k.Catch = catch c >>= (λ h. look (λ u. finally_by c t xs h (symbol u)))
  handlers_by c t xs k.Finally = finally c >>= (λ ys. pure (s.Try xs None (Some ys) t.place))
  handlers_by c t xs _ = refuse Unexpected

  unfoldable pub try : Context → Parser Statement
  try c = take_token >>= (λ t. block c >>= (λ xs. look (λ u. handlers_by c t xs (symbol u))))

  -- ---- a statement

  abbrev pub labelled_or_expression : Context → ℕ → Bool → Parser Statement
  labelled_or_expression c labels true = labelled c labels
  labelled_or_expression c labels false = expression_statement

  abbrev pub function_statement : Bool → Parser Statement
  function_statement false = refuse Unexpected
  function_statement true = function g b true >>= (λ f. pure (s.Function f))

  -- a word that counts, and what stands behind it
  abbrev pub headed : Context → StatementPart → Parser Statement
  headed c p = enter g >> b.statement c p

  abbrev pub single_by : Context → ℕ → Bool → Token → Symbol → Parser Statement
  single_by c labels outermost t k.OpenBrace = block c >>= (λ xs. pure (s.Block xs t.place))
  single_by c labels outermost t k.Var = variables
  single_by c labels outermost t k.Semicolon = take_token >> pure (s.Empty t.place)
  single_by c labels outermost t k.If = headed c (part.If t.place)
  single_by c labels outermost t k.Do = headed c (part.Do t.place labels)
  single_by c labels outermost t k.While = headed c (part.While t.place labels)
  single_by c labels outermost t k.For = headed c (part.For t.place labels)
  single_by c labels outermost t k.Continue = continue c
  single_by c labels outermost t k.Break = break c
  single_by c labels outermost t k.Return = return c
  single_by c labels outermost t k.Switch = switch c
  single_by c labels outermost t k.Throw = throw
  single_by c labels outermost t k.Try = try c
  single_by c labels outermost t k.Function = function_statement outermost
  single_by c labels outermost t k.Name =
      look_second (λ t u. labelled_or_expression c labels (is_label (symbol t) (symbol u)))
  single_by c labels outermost t _ = expression_statement

  unfoldable pub single : Context → ℕ → Bool → Parser Statement
  single c labels outermost = look (λ t. single_by c labels outermost t (symbol t))

  -- ---- behind a word that counts (12.5, 12.6)

  abbrev pub else_by : Context → Place → Expression → Statement → Symbol → Parser Statement
  else_by c place x y k.Else = enter g >> (inner c >>= (λ z. pure (s.If x y (Some z) place)))
  else_by c place x y _ = pure (s.If x y None place)

  unfoldable pub if_part : Context → Place → Parser Statement
  if_part c place =
      bracketed >>= (λ x. single c 0 false >>= (λ y. look (λ t. else_by c place x y (symbol t))))

  unfoldable pub do_part : Context → Place → ℕ → Parser Statement
  do_part c place labels = do
    x ← single (loop_context c labels) 0 false
    expect k.While
    y ← bracketed
    ended
    pure (s.Do x y place)

  unfoldable pub while_part : Context → Place → ℕ → Parser Statement
  while_part c place labels = do
    x ← bracketed
    y ← single (loop_context c labels) 0 false
    pure (s.While x y place)

  abbrev pub optional_by : Symbol → Bool → Parser (Option Expression)
  optional_by close true = take_token >> pure None
  optional_by close false = whole_below g b false >>= (λ x. expect close >> pure (Some x))

  -- an expression, if any, and a closing token
  unfoldable pub optional : Symbol → Parser (Option Expression)
  optional close = look (λ t. optional_by close (same_symbol (symbol t) close))

  -- behind the first `;` of a `for`
  unfoldable pub for_rest : Context → Place → ForFirst Expression → Parser Statement
  for_rest c place x = do
    y ← optional k.Semicolon
    z ← optional k.CloseParenthesis
    w ← single c 0 false
    pure (s.For x y z w place)

  -- from the `in` of a `for`-`in` on
  unfoldable pub in_rest : Context → Place → ForTarget Expression → Parser Statement
  in_rest c place x = do
    take_token
    y ← whole_below g b false
    expect k.CloseParenthesis
    z ← single c 0 false
    pure (s.ForIn x y z place)

  abbrev pub for_variables_by : Context → Place → List (Declaration Expression) → Symbol
      → Parser Statement
  for_variables_by c place (x ∷ []) k.In = in_rest c place (target.Variable x)
  for_variables_by c place xs _ = expect k.Semicolon >> for_rest c place (first.Variables xs)

  unfoldable pub for_variables : Context → Place → Parser Statement
  for_variables c place = do
    take_token
    xs ← separated (variable g (assignment_below g b true))
    look (λ t. for_variables_by c place xs (symbol t))

  abbrev pub in_reference_by : Context → Place → Expression → Bool → Parser Statement
  in_reference_by c place x false = refuse Unexpected
  in_reference_by c place x true = in_rest c place (target.Reference x)

  abbrev pub for_expression_by : Context → Place → Expression → Symbol → Parser Statement
  for_expression_by c place x k.In = in_reference_by c place x (is_reference x)
  for_expression_by c place x _ = expect k.Semicolon >> for_rest c place (first.Expression x)

  unfoldable pub for_expression : Context → Place → Parser Statement
  for_expression c place =
      whole_below g b true >>= (λ x. look (λ t. for_expression_by c place x (symbol t)))

  abbrev pub for_by : Context → Place → Symbol → Parser Statement
  for_by c place k.Var = for_variables c place
  for_by c place k.Semicolon = take_token >> for_rest c place first.Nothing
  for_by c place _ = for_expression c place

  unfoldable pub for_part : Context → Place → ℕ → Parser Statement
  for_part c place labels =
      opening g k.OpenParenthesis >> look (λ t. for_by (loop_context c labels) place (symbol t))

  -- each part
  unfoldable pub statement_part : Context → StatementPart → Parser Statement
  statement_part c (part.Whole labels outermost) = single c labels outermost
  statement_part c (part.If place) = if_part c place
  statement_part c (part.Do place labels) = do_part c place labels
  statement_part c (part.While place labels) = while_part c place labels
  statement_part c (part.For place labels) = for_part c place labels

-- The parts below a number of levels, where with so many left these rules are asked.
unfoldable pub below : (ℕ → Rules) → ℕ → Below
below rules zero = record { expression = λ p. refuse Deep; statement = λ c p. refuse Deep }
below rules (suc d) =
    record {
      expression = expression_part (rules d) (below rules d);
      statement = statement_part (rules d) (below rules d);
    }

abbrev pub is_end : Symbol → Bool
is_end found = same_symbol found k.End

-- the statements of a program of at most so many levels (14)
unfoldable pub program : (ℕ → Rules) → ℕ → Parser (List Statement)
program rules d = until is_end (single (rules d) (below rules d) program_context 0 true)
