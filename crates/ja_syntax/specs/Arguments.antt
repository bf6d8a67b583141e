-- Where the name `arguments` is looked up (ES3 10.1.4, 10.1.8).
use Rattle.std.specs.Prelude.{Bool, false, ◌||◌, List, Option, Some, None}
use Rattle.std.specs.List.{list_any}
use Rattle.ja_syntax.specs.declared.tree.CatchOf.{CatchOf}
use Rattle.ja_syntax.specs.declared.tree.Declaration.{Declaration}
use Rattle.ja_syntax.specs.declared.tree.ForFirst.{ForFirst}
use Rattle.ja_syntax.specs.declared.tree.ForFirst.TheVariants as first
use Rattle.ja_syntax.specs.declared.tree.ForTarget.{ForTarget}
use Rattle.ja_syntax.specs.declared.tree.ForTarget.TheVariants as target
use Rattle.ja_syntax.specs.declared.tree.Initialiser.{Initialiser}
use Rattle.ja_syntax.specs.declared.tree.Operation.{Operation}
use Rattle.ja_syntax.specs.declared.tree.Property.{Property}
use Rattle.ja_syntax.specs.declared.tree.Suffix.{Suffix}
use Rattle.ja_syntax.specs.declared.tree.Suffix.TheVariants as suffix
use Rattle.ja_syntax.specs.declared.tree.Statement.{Statement}
use Rattle.ja_syntax.specs.declared.tree.Expression.TheOpen.{Expression-F, Statement-F, Case-F}
use Rattle.ja_syntax.specs.declared.tree.Expression.TheFolds.{fold-Statement}
use Rattle.ja_syntax.specs.Symbols.{names_arguments}

-- Below, each expression or statement inside stands as whether it mentions `arguments`.

-- one of several forms mentions it
abbrev pub any : List Bool → Bool
any = list_any (λ mentions. mentions)

-- a form that may be missing does
abbrev pub if_any : Option Bool → Bool
if_any None = false
if_any (Some mentions) = mentions

-- an element of an array does (11.1.4)
abbrev pub any_element : List (Option Bool) → Bool
any_element = list_any if_any

-- a suffix does (11.2)
abbrev pub in_suffix : Suffix Bool → Bool
in_suffix (suffix.Member name place) = false
in_suffix (suffix.Index key place) = key
in_suffix (suffix.Call arguments place) = any arguments

-- the right operand of an operator does
abbrev pub in_operation : Operation Bool → Bool
in_operation operation = operation.right

-- the value of a property does (11.1.5)
abbrev pub in_property : Property Bool → Bool
in_property property = property.value

-- the value of a declared variable does, if it has one
abbrev pub in_initialiser : Option (Initialiser Bool) → Bool
in_initialiser None = false
in_initialiser (Some initialiser) = initialiser.value

-- a variable of a `var` does (12.2)
abbrev pub in_declaration : Declaration Bool → Bool
in_declaration declaration = in_initialiser declaration.initialiser

-- the first part of a `for` does (12.6.3)
abbrev pub in_first : ForFirst Bool → Bool
in_first first.Nothing = false
in_first (first.Expression value) = value
in_first (first.Variables declarations) = list_any in_declaration declarations

-- what a `for`-`in` writes does (12.6.4)
abbrev pub in_target : ForTarget Bool → Bool
in_target (target.Variable declaration) = in_declaration declaration
in_target (target.Reference value) = value

-- a `catch` does (12.14)
abbrev pub in_catch : Option (CatchOf Bool) → Bool
in_catch None = false
in_catch (Some catch) = any catch.body

-- a `finally` does (12.14)
abbrev pub in_finally : Option (List Bool) → Bool
in_finally None = false
in_finally (Some body) = any body

-- An expression mentions it by a name (11.1.2) alone: names of properties don't count, and a
-- function has its own.
abbrev pub expression_step : Expression-F Bool Bool Bool → Bool
expression_step (Expression-F.This place) = false
expression_step (Expression-F.Name name) = names_arguments name.text
expression_step (Expression-F.Literal value place) = false
expression_step (Expression-F.Array elements place) = any_element elements
expression_step (Expression-F.Object properties place) = list_any in_property properties
expression_step (Expression-F.Expression::Function function) = false
expression_step (Expression-F.Chain head suffixes) = head || list_any in_suffix suffixes
expression_step (Expression-F.New callee arguments place) = callee || any arguments
expression_step (Expression-F.Unary operator operand place) = operand
expression_step (Expression-F.Update operator operand place) = operand
expression_step (Expression-F.Binary first operations place) =
    first || list_any in_operation operations
expression_step (Expression-F.Conditional condition then otherwise place) =
    condition || (then || otherwise)
expression_step (Expression-F.Assign goal operator value place) = goal || value
expression_step (Expression-F.Sequence first others place) = first || any others

-- Labels don't count.
abbrev pub statement_step : Statement-F Bool Bool Bool → Bool
statement_step (Statement-F.Block body place) = any body
statement_step (Statement-F.Variables declarations place) = list_any in_declaration declarations
statement_step (Statement-F.Empty place) = false
statement_step (Statement-F.Expression value place) = value
statement_step (Statement-F.If condition then otherwise place) =
    condition || (then || if_any otherwise)
statement_step (Statement-F.Do body condition place) = body || condition
statement_step (Statement-F.While condition body place) = condition || body
statement_step (Statement-F.For first condition update body place) =
    in_first first || (if_any condition || (if_any update || body))
statement_step (Statement-F.ForIn goal object body place) = in_target goal || (object || body)
statement_step (Statement-F.Continue label place) = false
statement_step (Statement-F.Break label place) = false
statement_step (Statement-F.Return value place) = if_any value
statement_step (Statement-F.Labelled label body) = body
statement_step (Statement-F.Switch value cases place) = value || any cases
statement_step (Statement-F.Throw value place) = value
statement_step (Statement-F.Try block catch finally place) =
    any block || (in_catch catch || in_finally finally)
statement_step (Statement-F.Statement::Function function) = false

-- a clause of a `switch` does (12.11)
abbrev pub case_step : Case-F Bool Bool Bool → Bool
case_step case = if_any case.test || any case.body

-- a statement does
abbrev pub in_statement : Statement → Bool
in_statement = fold-Statement Bool Bool Bool expression_step statement_step case_step

-- The name `arguments` is looked up in a function's body, functions inside left out.
unfoldable pub mentions_arguments : List Statement → Bool
mentions_arguments = list_any in_statement
