-- What clauses of the code cite beside `Hoisted`, and no believed statement.
use Rattle.std.specs.Prelude.{ℕ, suc, Bool, true, false, if◌then◌else◌, List, [], ◌∷◌, ◌++◌, map}
use Rattle.std.specs.List.{list_any}
use Rattle.std.specs.Str.{bytes_eq}
use Rattle.ja_syntax.specs.declared.tree.Case.{Case}
use Rattle.ja_syntax.specs.declared.tree.Name.{Name}
use Rattle.ja_syntax.specs.declared.tree.Statement.{Statement, out-Statement}
use Rattle.ja_syntax.specs.declared.tree.Expression.{Expression}
use Rattle.ja_syntax.specs.declared.tree.Expression.TheOpen.{Statement-F}
use Rattle.ja_syntax.specs.declared.tree.Expression.TheFolds.{fold-Case}
use Rattle.ja_syntax.specs.Hoisted.{Texts, variables_step, variables_in_case, nothing}

-- the same of a clause of a `switch`
abbrev pub case_variables : Case → Texts
case_variables = fold-Case (Unit {0}) Texts Texts nothing variables_step variables_in_case

-- the names, and this one behind them where it is new
abbrev pub with_name : Texts → List ℕ → Texts
with_name names t = if list_any (bytes_eq t) names then names else names ++ t ∷ []

-- one level of a statement is a function declaration
abbrev pub is_function_at : Statement-F Expression Statement Case → Bool
is_function_at (Statement-F.Statement::Function function) = true
is_function_at _ = false

-- a statement is a function declaration (13)
unfoldable pub is_function : Statement → Bool
is_function statement = is_function_at (out-Statement statement)

-- the places of the function declarations among statements, the first of which has the place `at`
abbrev pub functions_from : ℕ → List Statement → List ℕ
functions_from at [] = []
functions_from at (s ∷ ss) =
    if is_function s then at ∷ functions_from (suc at) ss else functions_from (suc at) ss

-- The function declarations of a body or of the program, by their places in it. They stand in no
-- other statement.
unfoldable pub hoisted_functions : List Statement → List ℕ
hoisted_functions = functions_from 0

-- the names of a function's parameters, in order
abbrev pub parameter_names : List Name → Texts
parameter_names = map (λ name. name.text)
