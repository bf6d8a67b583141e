-- The rules that a tree keeps beside the grammar (ES3 11 to 14).
use Rattle.std.specs.Prelude.{◌≤◌, Bool, true, false, not, ◌||◌, List, length, is_some, is_none, IsTrue, Option, Some, None}
use Rattle.std.specs.List.{list_all, filter, All}
use Rattle.ja_syntax.specs.declared.tree.Name.{Name}
use Rattle.ja_syntax.specs.declared.tree.Case.{Case, out-Case}
use Rattle.ja_syntax.specs.declared.tree.CatchOf.{CatchOf}
use Rattle.ja_syntax.specs.declared.tree.Declaration.{Declaration}
use Rattle.ja_syntax.specs.declared.tree.ForFirst.{ForFirst}
use Rattle.ja_syntax.specs.declared.tree.ForFirst.TheVariants as first
use Rattle.ja_syntax.specs.declared.tree.ForTarget.{ForTarget}
use Rattle.ja_syntax.specs.declared.tree.ForTarget.TheVariants as target
use Rattle.ja_syntax.specs.declared.tree.FunctionOf.{FunctionOf}
use Rattle.ja_syntax.specs.declared.tree.Statement.{Statement}
use Rattle.ja_syntax.specs.declared.tree.Expression.{Expression}
use Rattle.ja_syntax.specs.declared.tree.Expression.TheOpen.{Expression-F, Statement-F}
use Rattle.ja_syntax.specs.declared.tree.Expression.TheFolds.{every-Statement}
use Rattle.ja_syntax.specs.References.{is_reference}
use Rattle.ja_syntax.specs.code.Jumps.{body_jumps_well}
use Rattle.ja_syntax.specs.Symbols.{names_arguments}

-- A declared name isn't `arguments` (the profile; 10.1.8).
abbrev pub may_declare : Name → Bool
may_declare name = not (names_arguments name.text)

-- each variable of a `var` may be declared
abbrev pub may_declare_all : List (Declaration Expression) → Bool
may_declare_all = list_all (λ declaration. may_declare declaration.name)

-- a name that may be missing may be declared
abbrev pub may_declare_any : Option Name → Bool
may_declare_any None = true
may_declare_any (Some name) = may_declare name

-- A function (13): its name and parameters may be declared, and the jumps of its body keep the
-- rules.
pub record FunctionKeepsRules (function : FunctionOf Statement) : Type 0 where
  pub name : IsTrue (may_declare_any function.name)
  pub parameters : IsTrue (list_all may_declare function.parameters)
  pub jumps : IsTrue (body_jumps_well true function.body)

-- What is asked of an expression, beside what is asked of those inside: the operand of `++` and
-- `--` (11.3, 11.4.4, 11.4.5) and the target of an assignment (11.13) are references.
abbrev pub ExpressionKeepsRules : Expression-F Expression Statement Case → Type 0
ExpressionKeepsRules (Expression-F.Update operator operand place) = IsTrue (is_reference operand)
ExpressionKeepsRules (Expression-F.Assign goal operator value place) = IsTrue (is_reference goal)
ExpressionKeepsRules (Expression-F.Expression::Function function) = FunctionKeepsRules function
ExpressionKeepsRules _ = Unit {0}

-- the variables of the first part of a `for` may be declared (12.6.3)
abbrev pub first_may_declare : ForFirst Expression → Bool
first_may_declare first.Nothing = true
first_may_declare (first.Expression value) = true
first_may_declare (first.Variables declarations) = may_declare_all declarations

-- a variable that may be declared, or a reference (12.6.4)
abbrev pub is_target : ForTarget Expression → Bool
is_target (target.Variable declaration) = may_declare declaration.name
is_target (target.Reference value) = is_reference value

-- a clause is `default` (12.11)
abbrev pub is_default : Case → Bool
is_default case = is_none (out-Case case).test

-- the parameter of a `catch` may be declared (12.14)
abbrev pub catch_may_declare : Option (CatchOf Statement) → Bool
catch_may_declare None = true
catch_may_declare (Some catch) = may_declare catch.parameter

-- A `try` has a `catch` or a `finally` (12.14).
pub record TryKeepsRules (catch : Option (CatchOf Statement))
    (finally : Option (List Statement)) : Type 0 where
  pub handled : IsTrue (is_some catch || is_some finally)
  pub parameter : IsTrue (catch_may_declare catch)

-- What is asked of a statement, beside what is asked of what is inside.
abbrev pub StatementKeepsRules : Statement-F Expression Statement Case → Type 0
StatementKeepsRules (Statement-F.Variables declarations place) =
    IsTrue (may_declare_all declarations)
StatementKeepsRules (Statement-F.For first condition update body place) =
    IsTrue (first_may_declare first)
StatementKeepsRules (Statement-F.ForIn goal object body place) = IsTrue (is_target goal)
StatementKeepsRules (Statement-F.Switch value cases place) = length (filter is_default cases) ≤ 1
StatementKeepsRules (Statement-F.Try block catch finally place) = TryKeepsRules catch finally
StatementKeepsRules (Statement-F.Statement::Function function) = FunctionKeepsRules function
StatementKeepsRules _ = Unit {0}

-- A program keeps the rules (14): the jumps of its own statements do, and so does each expression
-- and statement anywhere in it, functions included.
pub record KeepsRules (statements : List Statement) : Type 0 where
  pub jumps : IsTrue (body_jumps_well false statements)
  pub everywhere : All (every-Statement ExpressionKeepsRules StatementKeepsRules (λ case. Unit {0}))
      statements
