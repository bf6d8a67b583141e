-- What clauses of the code cite beside `Statements`, and no believed statement.
use Rattle.std.specs.Prelude.{◌≡◌, ℕ, map, Result, Ok, Err}
use Rattle.std.specs.Option.{option_map}
use Rattle.ja_base.specs.declared.ids.Memory.{Memory}
use Rattle.ja_syntax.specs.declared.tree.CatchOf.{CatchOf}
use Rattle.ja_syntax.specs.declared.tree.Declaration.{Declaration}
use Rattle.ja_syntax.specs.declared.tree.Initialiser.{Initialiser}
use Rattle.ja_syntax.specs.declared.tree.ForFirst.{ForFirst}
use Rattle.ja_syntax.specs.declared.tree.ForFirst.TheVariants as first
use Rattle.ja_syntax.specs.declared.tree.ForTarget.{ForTarget}
use Rattle.ja_syntax.specs.declared.tree.ForTarget.TheVariants as target
use Rattle.ja_syntax.specs.declared.tree.Case.{Case, out-Case}
use Rattle.ja_syntax.specs.declared.tree.Expression.{Expression}
use Rattle.ja_syntax.specs.declared.tree.Statement.{Statement, out-Statement}
use Rattle.ja_syntax.specs.declared.tree.Expression.TheOpen.{Statement-F}
use Rattle.ja_lower_draft.specs.Lines.{Listing}
use Rattle.ja_lower_expressions.specs.References.{Form}
use Rattle.ja_lower_expressions.specs.Expressions.{form}
use Rattle.ja_lower_statements.specs.Statements.{Does, Spotted, Clause, does}

-- ---- one level of a statement, with what each form inside is in its place

-- a statement, if it is a `try`
abbrev pub trial_at : Statement-F Expression Statement Case → Does → Does
trial_at (Statement-F.Try block caught finally place) listed around base l = listed around base l
trial_at _ listed around base l = l

abbrev pub does_trial : Statement → Does
does_trial s around base l = trial_at (out-Statement s) (does s) around base l

-- ---- the parts of a statement, with what each form inside is in its place

abbrev pub initialiser_of : Initialiser Expression → Initialiser Form
initialiser_of i = record { value = form i.value; place = i.place }

abbrev pub declaration_of : Declaration Expression → Declaration Form
declaration_of d = record { name = d.name; initialiser = option_map initialiser_of d.initialiser }

abbrev pub for_first_of : ForFirst Expression → ForFirst Form
for_first_of first.Nothing = first.Nothing
for_first_of (first.Expression value) = first.Expression (form value)
for_first_of (first.Variables declarations) = first.Variables (map declaration_of declarations)

abbrev pub target_of : ForTarget Expression → ForTarget Form
target_of (target.Variable declaration) = target.Variable (declaration_of declaration)
target_of (target.Reference value) = target.Reference (form value)

abbrev pub clause_of : Case → Clause
clause_of case =
    record { test = option_map form (out-Case case).test; body = map does (out-Case case).body }

abbrev pub catch_of : CatchOf Statement → CatchOf Does
catch_of caught = record { parameter = caught.parameter; body = map does caught.body }

-- ---- what the functions that list parts of statements give, unless memory was refused

abbrev pub Spots : Spotted → Result ℕ Memory → Listing → Type 0
Spots v (Ok first) new = v ≡ record { listing = new; first = first }
Spots v (Err e) new = Unit {0}
