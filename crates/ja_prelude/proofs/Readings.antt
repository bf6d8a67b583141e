-- What the functions of texts come to, by what the folds of their trees are: those of the
-- definitions, or folds that compute.
use Rattle.std.proofs.Common.{◌≡◌, ℕ, Bool, true, List, [], map, filter, length, None, refl, ap, ◌∙◌}
use Rattle.std.specs.List.{flat_map, fold, list_any}
use Rattle.ja_lower_listing.specs.declared.item.Item.{Item}
use Rattle.ja_lower_draft.specs.Lines.{Scene}
use Rattle.ja_lower_expressions.specs.References.{Form}
use Rattle.ja_lower_expressions.specs.Expressions.{form_step, form}
use Rattle.ja_lower_expressions.specs.Specials.{is_name}
use Rattle.ja_lower_names.specs.Names.{with_name}
use Rattle.ja_lower_names.specs.TextOrder as text
use Rattle.ja_lower_names.specs.TextOrder.{Named, Parts, if_function, if_name, in_statement, functions_in}
use Rattle.ja_lower_statements.specs.Statements.{Does, Clause, Expressions, statement_step, clause_step, does, list_all_statements}
use Rattle.ja_lower_statements.specs.Functions.{first_temporary, nothing_listed, with_entry, declare_functions, declare_variables, ended, unhandled, function_listing}
use Rattle.ja_syntax.specs.Arguments as arguments
use Rattle.ja_syntax.specs.Arguments.{mentions_arguments}
use Rattle.ja_syntax.specs.Hoisted as hoisted
use Rattle.ja_syntax.specs.Hoisted.{Texts, hoisted_variables, variables_of, once}
use Rattle.ja_syntax.specs.declared.tree.Case.{Case}
use Rattle.ja_syntax.specs.declared.tree.Expression.{Expression}
use Rattle.ja_syntax.specs.declared.tree.Expression.TheOpen.{Statement-F, Case-F}
use Rattle.ja_syntax.specs.declared.tree.Expression.TheFolds.{para-Statement, map-Statement, map-Case}
use Rattle.ja_syntax.specs.declared.tree.FunctionOf.{FunctionOf}
use Rattle.ja_syntax.specs.declared.tree.Statement.{Statement}
use Rattle.ja_prelude.proofs.Folds.{fold_levels, fold_levels_are, para_levels, para_levels_are}

-- how statements are read
pub record Readings : Type 0 where
  pub parts : Statement → Parts
  pub does : Statement → Does
  pub variables : Statement → Texts
  pub mentions : Statement → Bool

-- as the definitions say
abbrev pub defined : Readings
defined =
    record {
      parts = in_statement;
      does = does;
      variables = variables_of;
      mentions = arguments.in_statement;
    }

-- ---- by folds of 60 levels

abbrev forms : Expression → Form
forms = (fold_levels Form (Unit {0}) (Unit {0}) form_step (λ _. tt) (λ _. tt) 60).expression

forms_are : forms ≡ form
unfolding form
forms_are =
    ap (λ m. m.expression) (fold_levels_are Form (Unit {0}) (Unit {0}) form_step (λ _. tt) (λ _. tt)
    60)

-- one level of a statement, by how expressions are listed
abbrev statement_by : (Expression → Form)
    → Statement-F Expressions (Statement × Does) (Case × Clause) → Does
statement_by g x =
    statement_step (map-Statement Expressions (Statement × Does) (Case × Clause) Form Does Clause
    (λ e. g e.0) (λ s. s.1) (λ c. c.1) x)

abbrev clause_by : (Expression → Form) → Case-F Expressions (Statement × Does) (Case × Clause)
    → Clause
clause_by g x =
    clause_step (map-Case Expressions (Statement × Does) (Case × Clause) Form Does Clause
    (λ e. g e.0) (λ s. s.1) (λ c. c.1) x)

abbrev all_done : Statement → Does
all_done =
    (para_levels (Unit {0}) Does Clause (λ _. tt) (statement_by forms) (clause_by forms)
    60).statement

all_done_is : all_done ≡ does
unfolding does
all_done_is =
    ap (λ m. m.statement) (para_levels_are (Unit {0}) Does Clause (λ _. tt) (statement_by forms)
    (clause_by forms) 60)
    ∙ ap (λ g. para-Statement (Unit {0}) Does Clause (λ _. tt) (statement_by g) (clause_by g))
    forms_are

abbrev all_parts : Statement → Parts
all_parts =
    (para_levels Parts Parts Parts text.expression_step text.statement_step text.case_step
    60).statement

all_parts_are : all_parts ≡ in_statement
unfolding in_statement
all_parts_are =
    ap (λ m. m.statement) (para_levels_are Parts Parts Parts text.expression_step
    text.statement_step text.case_step 60)

abbrev all_variables : Statement → Texts
all_variables =
    (fold_levels (Unit {0}) Texts Texts hoisted.nothing hoisted.variables_step
    hoisted.variables_in_case 60).statement

all_variables_are : all_variables ≡ variables_of
all_variables_are =
    ap (λ m. m.statement) (fold_levels_are (Unit {0}) Texts Texts hoisted.nothing
    hoisted.variables_step hoisted.variables_in_case 60)

abbrev all_mentions : Statement → Bool
all_mentions =
    (fold_levels Bool Bool Bool arguments.expression_step arguments.statement_step
    arguments.case_step 60).statement

all_mentions_are : all_mentions ≡ arguments.in_statement
all_mentions_are =
    ap (λ m. m.statement) (fold_levels_are Bool Bool Bool arguments.expression_step
    arguments.statement_step arguments.case_step 60)

unfoldable pub computing : Readings
computing =
    record {
      parts = all_parts;
      does = all_done;
      variables = all_variables;
      mentions = all_mentions;
    }

pub computing_is : computing ≡ defined
unfolding computing
computing_is =
    λ i. record {
      parts = all_parts_are i;
      does = all_done_is i;
      variables = all_variables_are i;
      mentions = all_mentions_are i;
    }

-- ---- what they come to

abbrev pub functions_by : Readings → List Statement → List (FunctionOf Statement)
functions_by r statements = flat_map if_function (flat_map r.parts statements)

pub functions_defined : (statements : List Statement)
    → functions_by defined statements ≡ functions_in statements
unfolding functions_in
functions_defined statements = refl

abbrev pub names_by : Readings → List (List ℕ) → List Statement → List (List ℕ)
names_by r first statements =
    fold with_name (fold with_name [] first)
    (map (λ (n : Named). n.text) (filter (is_name true)
    (flat_map if_name (flat_map r.parts statements))))

abbrev pub scene_by : Readings → List (List ℕ) → List Statement → Scene
scene_by r names statements =
    record {
      names = names;
      functions = map (λ (f : FunctionOf Statement). f.place)
          (functions_by r statements);
      handler = None;
      specials = true;
    }

abbrev pub listing_by : Readings → Scene → FunctionOf Statement → List Item
listing_by r scene f =
    let base = first_temporary (length f.parameters) in
    let entered = with_entry (unhandled scene) f.place (list_any r.mentions f.body)
    (nothing_listed base) in
    let declared = declare_variables (unhandled scene) f.place (once (flat_map r.variables f.body))
    (declare_functions (unhandled scene) f.body base entered) in
    (ended (unhandled scene) f.place base (list_all_statements (map r.does f.body)
    (record { scene = unhandled scene; ways = []; labels = [] }) base declared)).items

pub listing_defined : (scene : Scene) (f : FunctionOf Statement)
    → listing_by defined scene f ≡ function_listing scene f
unfolding function_listing mentions_arguments hoisted_variables
listing_defined scene f = refl
