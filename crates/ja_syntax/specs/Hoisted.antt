-- What a function or the program declares before its statements run (ES3 10.1.3).
use Rattle.std.specs.Prelude.{ℕ, not, List, [], ◌∷◌, ◌++◌, map, Option, Some, None}
use Rattle.std.specs.List.{filter, flat_map}
use Rattle.std.specs.Str.{bytes_eq}
use Rattle.ja_syntax.specs.declared.tree.CatchOf.{CatchOf}
use Rattle.ja_syntax.specs.declared.tree.Declaration.{Declaration}
use Rattle.ja_syntax.specs.declared.tree.ForFirst.{ForFirst}
use Rattle.ja_syntax.specs.declared.tree.ForFirst.TheVariants as first
use Rattle.ja_syntax.specs.declared.tree.ForTarget.{ForTarget}
use Rattle.ja_syntax.specs.declared.tree.ForTarget.TheVariants as target
use Rattle.ja_syntax.specs.declared.tree.Statement.{Statement}
use Rattle.ja_syntax.specs.declared.tree.Expression.TheOpen.{Expression-F, Statement-F, Case-F}
use Rattle.ja_syntax.specs.declared.tree.Expression.TheFolds.{fold-Statement}

-- names, by their units
abbrev pub Texts : Type 0
Texts = List (List ℕ)

-- the names of a `var` (12.2)
abbrev pub declared_names : {E : Type 0} → List (Declaration E) → Texts
declared_names = map (λ declaration. declaration.name.text)

-- those of the head of a `for` (12.6.3)
abbrev pub first_names : {E : Type 0} → ForFirst E → Texts
first_names first.Nothing = []
first_names (first.Expression value) = []
first_names (first.Variables declarations) = declared_names declarations

-- that of the head of a `for`-`in`, if it declares one (12.6.4)
abbrev pub target_names : {E : Type 0} → ForTarget E → Texts
target_names (target.Variable declaration) = declaration.name.text ∷ []
target_names (target.Reference value) = []

-- those of several forms, one after another
abbrev pub all_names : List Texts → Texts
all_names = flat_map (λ names. names)

-- those of a form that may be missing
abbrev pub names_if_any : Option Texts → Texts
names_if_any None = []
names_if_any (Some names) = names

-- those of a `catch` (12.14)
abbrev pub catch_names : Option (CatchOf Texts) → Texts
catch_names None = []
catch_names (Some catch) = all_names catch.body

-- those of a `finally` (12.14)
abbrev pub finally_names : Option (List Texts) → Texts
finally_names None = []
finally_names (Some body) = all_names body

-- One level of a statement, with the names of each statement inside in its place.
abbrev pub variables_step : Statement-F (Unit {0}) Texts Texts → Texts
variables_step (Statement-F.Block body place) = all_names body
variables_step (Statement-F.Variables declarations place) = declared_names declarations
variables_step (Statement-F.Empty place) = []
variables_step (Statement-F.Expression value place) = []
variables_step (Statement-F.If condition first second place) = first ++ names_if_any second
variables_step (Statement-F.Do body condition place) = body
variables_step (Statement-F.While condition body place) = body
variables_step (Statement-F.For first condition update body place) = first_names first ++ body
variables_step (Statement-F.ForIn goal object body place) = target_names goal ++ body
variables_step (Statement-F.Continue label place) = []
variables_step (Statement-F.Break label place) = []
variables_step (Statement-F.Return value place) = []
variables_step (Statement-F.Labelled label body) = body
variables_step (Statement-F.Switch value cases place) = all_names cases
variables_step (Statement-F.Throw value place) = []
variables_step (Statement-F.Try block catch finally place) =
    all_names block ++ (catch_names catch ++ finally_names finally)
-- Functions inside have variables of their own.
variables_step (Statement-F.Statement::Function function) = []

-- those of a clause of a `switch` (12.11)
abbrev pub variables_in_case : Case-F (Unit {0}) Texts Texts → Texts
variables_in_case case = all_names case.body

-- an expression declares nothing
abbrev pub nothing : Expression-F (Unit {0}) Texts Texts → Unit {0}
nothing expression = tt

-- the names that a statement declares by `var`, in the order of the text, functions inside left out
abbrev pub variables_of : Statement → Texts
variables_of = fold-Statement (Unit {0}) Texts Texts nothing variables_step variables_in_case

-- each text once, at its first place
unfoldable pub once : Texts → Texts
once [] = []
once (t ∷ ts) = t ∷ filter (λ u. not (bytes_eq t u)) (once ts)

-- The variables of a function's body or of the program: each name once, in the order in which the
-- text has them first.
unfoldable pub hoisted_variables : List Statement → Texts
hoisted_variables statements = once (flat_map variables_of statements)
