-- Ends of statements that are read by functions of their own.
use Rattle.std.specs.Prelude.{ℕ, Bool, List, [], true, false, Some, None}
use Rattle.ja_base.specs.declared.ids.Place.{Place}
use Rattle.ja_syntax.specs.declared.symbol.Symbol.{Symbol}
use Rattle.ja_syntax.specs.declared.symbol.Symbol.TheVariants as k
use Rattle.ja_syntax.specs.declared.tree.Case.{Case}
use Rattle.ja_syntax.specs.declared.tree.CatchOf.{CatchOf}
use Rattle.ja_syntax.specs.declared.tree.Declaration.{Declaration}
use Rattle.ja_syntax.specs.declared.tree.Expression.{Expression}
use Rattle.ja_syntax.specs.declared.tree.ForFirst.{ForFirst}
use Rattle.ja_syntax.specs.declared.tree.Statement.{Statement}
use Rattle.ja_syntax.specs.declared.tree.Statement.TheVariants as s
use Rattle.ja_grammar.specs.Contexts.{Context}
use Rattle.ja_grammar.specs.Input.{Rules, Parser, ◌>>=◌, ◌>>◌, pure, look, expect, many, many_from, take_token, symbol}
use Rattle.ja_grammar.specs.ReadExpression.{Below, assignment, assignment_below}
use Rattle.ja_grammar.specs.ReadStatement.{Clauses, block, clause_by, handlers_by, finally, for_rest, for_variables_by, for_by}

-- the value of a variable that is declared, in the head of a `for` or elsewhere
abbrev pub variable_value : Rules → Below → Bool → Parser Expression
variable_value g b true = assignment_below g b true
variable_value g b false = assignment g b false

-- the clauses of a `switch` behind those that were found, and the `}`, in at most n turns
unfoldable pub clauses_from : Rules → Below → Context → ℕ → Clauses → Parser (List Case)
clauses_from g b c n cs =
    many_from (λ cs. look (λ t. clause_by g b c cs (symbol t))) n cs >>=
    (λ cs. expect k.CloseBrace >> pure cs.found)

-- the clauses of a `switch`, and its `}`
unfoldable pub clauses_behind : Rules → Below → Context → Parser (List Case)
clauses_behind g b c =
    many (λ cs. look (λ t. clause_by g b c cs (symbol t)))
    (record { defaulted = false; found = [] }) >>= (λ cs. expect k.CloseBrace >> pure cs.found)

-- what stands behind the `catch` of a `try`
abbrev pub try_behind_catch_by : Rules → Below → Context → Place → List Statement
    → CatchOf Statement → Symbol → Parser Statement
try_behind_catch_by g b c place xs h k.Finally =
    finally g b c >>= (λ ys. pure (s.Try xs (Some h) (Some ys) place))
try_behind_catch_by g b c place xs h _ = pure (s.Try xs (Some h) None place)

abbrev pub try_behind_catch : Rules → Below → Context → Place → List Statement → CatchOf Statement
    → Parser Statement
try_behind_catch g b c place xs h = look (λ t. try_behind_catch_by g b c place xs h (symbol t))

-- a `try`
abbrev pub try_whole : Rules → Below → Context → Parser Statement
try_whole g b c =
    take_token >>= (λ t. block g b c >>= (λ xs. look (λ u. handlers_by g b c t xs (symbol u))))

-- a `for` from its first `;` on
abbrev pub for_rest_behind : Rules → Below → Context → Place → ForFirst Expression
    → Parser Statement
for_rest_behind g b c place x = expect k.Semicolon >> for_rest g b c place x

-- a `for` behind its variables
abbrev pub variables_behind : Rules → Below → Context → Place → List (Declaration Expression)
    → Parser Statement
variables_behind g b c place xs = look (λ t. for_variables_by g b c place xs (symbol t))

-- a `for` behind its `(`
abbrev pub for_behind : Rules → Below → Context → Place → Parser Statement
for_behind g b c place = look (λ t. for_by g b c place (symbol t))
