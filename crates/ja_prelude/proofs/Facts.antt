-- What the texts of the built-in functions come to, computed.
use Rattle.std.proofs.Common.{Bool, ◌≡◌, ◌≤◌, ◌==◌, ℕ, true, Ok, List, [], ◌∷◌, ◌++◌, map, length, None, refl, ap, sym, subst, ◌∙◌, arith}
use Rattle.std.specs.List.{AllByRecursion, list_all, slice_get, sum_by, zip}
use lib.Chars.{codes}
use Rattle.ja_base.specs.declared.ids.ScopeKind.{ScopeKind}
use Rattle.ja_base.specs.declared.ids.ScopeKind.TheVariants.{CodeMaker, Radix, Range}
use Rattle.ja_grammar.specs.Input.{Tokens, strict, Outcome, Done, Refused}
use Rattle.ja_grammar.specs.code.Answering.{Answers}
use Rattle.ja_grammar.specs.Language.{Spells, max_levels}
use Rattle.ja_grammar.specs.ReadStatement.{program}
use Rattle.ja_grammar.proofs.Theorem.{answered_tree}
use Rattle.ja_graph.specs.Node.{function_in}
use Rattle.ja_graph.specs.WellFormed.{builtin_names}
use Rattle.ja_graph.specs.declared.node.NodeInfo.{NodeInfo}
use Rattle.ja_lex.specs.Tokens.{tokens}
use Rattle.ja_lower.specs.Limits.{prelude_count, prelude_size_of}
use Rattle.ja_lower.specs.Lowering as lower
use Rattle.ja_lower.specs.declared.body.Body.{Body}
use Rattle.ja_lower_names.specs.TextOrder.{functions_in, names_in}
use Rattle.ja_syntax.specs.declared.tree.Statement.{Statement}
use Rattle.ja_prelude.specs.Reading.{numbered, is_read, statements_in, is_text, tree_of, is_few}
use Rattle.ja_prelude.specs.Prelude.{prelude_statements, prelude_paths, prelude_names}
use Rattle.ja_prelude.specs.Prelude.{prelude_bodies, parameter_counts, own_names, stops, stopping_operations, warned_nodes, warned_told, by_path}
use Rattle.ja_prelude.specs.Table.{Called, function_paths, lengths, parameters_told}
use Rattle.ja_prelude.specs.Uses.{Use, uses, uses_told}
use Rattle.ja_prelude.proofs.Allowed.{are_plain, all_allowed, all_alone}
use Rattle.ja_prelude.proofs.Evaluating.{reading, listing}
use Rattle.ja_prelude.proofs.Readings.{computing, computing_is, functions_by, names_by}
use Rattle.ja_prelude.proofs.Rows.{Row, rows_by, bodies, rows_computed, size_of_row, by_path_of, by_path_computed, size_computed, parameters_computed}
use Rattle.ja_prelude.specs.declared.texts.TheConstants.{FUNCTION_COUNT}
use Rattle.ja_prelude.specs.Functions.{functions}

-- ---- reading

pub texts_are_read : list_all (λ f. is_text f.1) functions ≡ true
unfolding reading
texts_are_read = refl

pub texts_are_few : list_all (λ f. is_few f.1) functions ≡ true
unfolding reading
texts_are_few = refl

spelled_by : (i : Tokens) (o : Outcome (List Statement)) → program strict max_levels i ≡ o
    → is_read o ≡ true → Spells max_levels i (statements_in o)
spelled_by i (Done xs r) is read = answered_tree i xs (subst (λ o. Answers o (Ok xs)) (sym is) refl)
spelled_by i (Refused why r) is read = absurd (cc)

pub spelled : (text : List ℕ) → is_text text ≡ true
    → Spells max_levels (numbered 1 (tokens text)) (tree_of text)
unfolding is_text tree_of
spelled text read =
    spelled_by (numbered 1 (tokens text)) (program strict max_levels (numbered 1 (tokens text)))
    refl read

-- ---- functions and names

one_each : list_all (λ f. length (functions_by computing (tree_of f.1)) == 1) functions ≡ true
unfolding reading listing
one_each = refl

pub texts_are_functions : list_all (λ f. length (functions_in (tree_of f.1)) == 1) functions
    ≡ true
unfolding functions_in
texts_are_functions =
    subst (λ r. list_all (λ f. length (functions_by r (tree_of f.1)) == 1) functions ≡ true)
    computing_is one_each

counted : length (functions_by computing prelude_statements) ≡ FUNCTION_COUNT
unfolding reading listing
counted = refl

pub functions_counted : prelude_count prelude_statements ≡ FUNCTION_COUNT
unfolding functions_in
functions_counted =
    subst (λ r. length (functions_by r prelude_statements) ≡ FUNCTION_COUNT) computing_is counted

pub paths_counted : length prelude_paths ≡ FUNCTION_COUNT
unfolding prelude_paths
paths_counted = refl

named : names_by computing builtin_names prelude_statements ≡ builtin_names ++ own_names
unfolding reading listing
named = refl

pub names_are : prelude_names ≡ builtin_names ++ own_names
unfolding lower.names_of names_in
names_are =
    subst (λ r. names_by r builtin_names prelude_statements ≡ builtin_names ++ own_names)
    computing_is named

pub names_counted : length prelude_names ≡ 142
names_counted = ap length names_are

-- ---- nodes

-- All that is told of the rows, computed in one go: so the texts are read and listed once.
abbrev Told : Type 0
Told = Bool × ℕ × List (List ℕ × ScopeKind) × List (List ℕ × List ℕ) × List (List ℕ × ℕ)
    × List (List ℕ × Use) × List ℕ

abbrev told_of : List Row → Told
told_of rows = (
  are_plain rows,
  sum_by size_of_row rows,
  by_path_of stops prelude_paths rows,
  by_path_of stopping_operations prelude_paths rows,
  by_path_of warned_nodes prelude_paths rows,
  by_path_of uses prelude_paths rows,
  map (λ (x : List ℕ × Row). x.1.parameters) (zip prelude_paths rows),
)

abbrev the_told : Told
the_told = (
  true,
  3945,
  (codes "Function", CodeMaker) ∷ (codes "Function", CodeMaker)
      ∷ (codes "Number.prototype.toString", Radix) ∷ (codes "Math.max", Range)
      ∷ (codes "Math.min", Range) ∷ [],
  (codes "parseInt", codes "$parse_int") ∷ (codes "parseFloat", codes "$parse_float")
      ∷ (codes "String.prototype.toLowerCase", codes "$lower")
      ∷ (codes "String.prototype.toUpperCase", codes "$upper") ∷ [],
  warned_told,
  uses_told,
  0 ∷ 1 ∷ 1 ∷ 1 ∷ 1 ∷ 1 ∷ 1 ∷ 1 ∷ 1 ∷ 1 ∷ 1 ∷ 1 ∷ 1 ∷ 1 ∷ 1 ∷ 1 ∷ 1 ∷ 1 ∷ 1 ∷ 1 ∷ 1 ∷ 1 ∷ 1 ∷ 1
      ∷ 1 ∷ 1 ∷ 1 ∷ 2 ∷ 1 ∷ 1 ∷ 1 ∷ 0 ∷ 0 ∷ 1 ∷ 1 ∷ 1 ∷ 2 ∷ 1 ∷ 0 ∷ 2 ∷ 1 ∷ 0 ∷ 1 ∷ 0 ∷ 0 ∷ 2 ∷ 3
      ∷ 1 ∷ 1 ∷ 0 ∷ 0 ∷ 1 ∷ 1 ∷ 1 ∷ 2 ∷ 2 ∷ 2 ∷ 2 ∷ 2 ∷ 0 ∷ 0 ∷ 0 ∷ 0 ∷ 1 ∷ 0 ∷ 0 ∷ 1 ∷ 1 ∷ 1 ∷ 1
      ∷ 2 ∷ 2 ∷ 2 ∷ 0 ∷ 0 ∷ [],
)

computed : told_of (rows_by computing) ≡ the_told
unfolding reading listing
computed = refl

plain : are_plain (rows_by computing) ≡ true
plain = ap (λ (t : Told). t.0) computed

pub nodes_are_allowed : lower.AreAllowed bodies
nodes_are_allowed =
    all_allowed bodies (subst (λ rows. are_plain rows ≡ true) (sym rows_computed) plain)

pub nodes_stand_alone : AllByRecursion (λ (body : Body).
    AllByRecursion (λ (info : NodeInfo). function_in info.node ≡ None) body.nodes) bodies
nodes_stand_alone =
    all_alone bodies (subst (λ rows. are_plain rows ≡ true) (sym rows_computed) plain)

sized : sum_by size_of_row (rows_by computing) ≡ 3945
sized = ap (λ (t : Told). t.1) computed

pub nodes_are_few : prelude_size_of builtin_names prelude_statements ≤ 4096
unfolding prelude_size_of
nodes_are_few = omega (arith, size_computed ∙ sized)

stopping : by_path_of stops prelude_paths (rows_by computing) ≡ (codes "Function", CodeMaker)
    ∷ (codes "Function", CodeMaker) ∷ (codes "Number.prototype.toString", Radix)
    ∷ (codes "Math.max", Range) ∷ (codes "Math.min", Range) ∷ []
stopping = ap (λ (t : Told). t.2) computed

pub stops_are : by_path stops prelude_bodies ≡ (codes "Function", CodeMaker)
    ∷ (codes "Function", CodeMaker) ∷ (codes "Number.prototype.toString", Radix)
    ∷ (codes "Math.max", Range) ∷ (codes "Math.min", Range) ∷ []
stops_are = by_path_computed stops ∙ stopping

stopping_operations_in : by_path_of stopping_operations prelude_paths (rows_by computing)
    ≡ (codes "parseInt", codes "$parse_int") ∷ (codes "parseFloat", codes "$parse_float")
    ∷ (codes "String.prototype.toLowerCase", codes "$lower")
    ∷ (codes "String.prototype.toUpperCase", codes "$upper") ∷ []
stopping_operations_in = ap (λ (t : Told). t.3) computed

pub stopping_operations_are : by_path stopping_operations prelude_bodies
    ≡ (codes "parseInt", codes "$parse_int") ∷ (codes "parseFloat", codes "$parse_float")
    ∷ (codes "String.prototype.toLowerCase", codes "$lower")
    ∷ (codes "String.prototype.toUpperCase", codes "$upper") ∷ []
stopping_operations_are = by_path_computed stopping_operations ∙ stopping_operations_in

warned_in : by_path_of warned_nodes prelude_paths (rows_by computing) ≡ warned_told
warned_in = ap (λ (t : Told). t.4) computed

pub warned_nodes_are : by_path warned_nodes prelude_bodies ≡ warned_told
warned_nodes_are = by_path_computed warned_nodes ∙ warned_in

using : by_path_of uses prelude_paths (rows_by computing) ≡ uses_told
using = ap (λ (t : Told). t.5) computed

pub uses_are : by_path uses prelude_bodies ≡ uses_told
uses_are = by_path_computed uses ∙ using

parametrised : map (λ (x : List ℕ × Row). x.1.parameters) (zip prelude_paths (rows_by computing))
    ≡ 0 ∷ 1 ∷ 1 ∷ 1 ∷ 1 ∷ 1 ∷ 1 ∷ 1 ∷ 1 ∷ 1 ∷ 1 ∷ 1 ∷ 1 ∷ 1 ∷ 1 ∷ 1 ∷ 1 ∷ 1 ∷ 1 ∷ 1 ∷ 1 ∷ 1 ∷ 1
    ∷ 1 ∷ 1 ∷ 1 ∷ 1 ∷ 2 ∷ 1 ∷ 1 ∷ 1 ∷ 0 ∷ 0 ∷ 1 ∷ 1 ∷ 1 ∷ 2 ∷ 1 ∷ 0 ∷ 2 ∷ 1 ∷ 0 ∷ 1 ∷ 0 ∷ 0 ∷ 2
    ∷ 3 ∷ 1 ∷ 1 ∷ 0 ∷ 0 ∷ 1 ∷ 1 ∷ 1 ∷ 2 ∷ 2 ∷ 2 ∷ 2 ∷ 2 ∷ 0 ∷ 0 ∷ 0 ∷ 0 ∷ 1 ∷ 0 ∷ 0 ∷ 1 ∷ 1 ∷ 1
    ∷ 1 ∷ 2 ∷ 2 ∷ 2 ∷ 0 ∷ 0 ∷ []
parametrised = ap (λ (t : Told). t.6) computed

parameters_are : parameter_counts ≡ 0 ∷ 1 ∷ 1 ∷ 1 ∷ 1 ∷ 1 ∷ 1 ∷ 1 ∷ 1 ∷ 1 ∷ 1 ∷ 1 ∷ 1 ∷ 1 ∷ 1 ∷ 1
    ∷ 1 ∷ 1 ∷ 1 ∷ 1 ∷ 1 ∷ 1 ∷ 1 ∷ 1 ∷ 1 ∷ 1 ∷ 1 ∷ 2 ∷ 1 ∷ 1 ∷ 1 ∷ 0 ∷ 0 ∷ 1 ∷ 1 ∷ 1 ∷ 2 ∷ 1 ∷ 0
    ∷ 2 ∷ 1 ∷ 0 ∷ 1 ∷ 0 ∷ 0 ∷ 2 ∷ 3 ∷ 1 ∷ 1 ∷ 0 ∷ 0 ∷ 1 ∷ 1 ∷ 1 ∷ 2 ∷ 2 ∷ 2 ∷ 2 ∷ 2 ∷ 0 ∷ 0 ∷ 0
    ∷ 0 ∷ 1 ∷ 0 ∷ 0 ∷ 1 ∷ 1 ∷ 1 ∷ 1 ∷ 2 ∷ 2 ∷ 2 ∷ 0 ∷ 0 ∷ []
parameters_are = parameters_computed ∙ parametrised

-- ---- the table

pub paths_are_told : prelude_paths ≡ function_paths ++ codes "%valueFirst" ∷ codes "%textFirst" ∷ []
unfolding prelude_paths
paths_are_told = refl

pub lengths_are_told : map (λ (f : Called). slice_get parameter_counts f.number) lengths
    ≡ map parameters_told lengths
lengths_are_told =
    subst (λ counts. map (λ (f : Called). slice_get counts f.number) lengths
    ≡ map parameters_told lengths) (sym parameters_are) refl
