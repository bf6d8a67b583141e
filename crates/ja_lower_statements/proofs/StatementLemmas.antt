-- What each statement is listed as.
use Rattle.std.proofs.Common.{◌≡◌, ℕ, List, [], ◌∷◌, map, refl, ap, sym, ◌∙◌, Option, Some, None}
use Rattle.std.specs.Option.{option_map}
use Rattle.ja_base.specs.declared.ids.Place.{Place}
use Rattle.ja_base.proofs.Lists.{map_after}
use Rattle.ja_syntax.specs.declared.tree.Name.{Name}
use Rattle.ja_syntax.specs.declared.tree.FunctionOf.{FunctionOf}
use Rattle.ja_syntax.specs.declared.tree.CatchOf.{CatchOf}
use Rattle.ja_syntax.specs.declared.tree.Declaration.{Declaration}
use Rattle.ja_syntax.specs.declared.tree.Initialiser.{Initialiser}
use Rattle.ja_syntax.specs.declared.tree.ForFirst.{ForFirst}
use Rattle.ja_syntax.specs.declared.tree.ForFirst.TheVariants as first
use Rattle.ja_syntax.specs.declared.tree.ForTarget.{ForTarget}
use Rattle.ja_syntax.specs.declared.tree.ForTarget.TheVariants as target
use Rattle.ja_syntax.specs.declared.tree.Case.{Case, out-Case}
use Rattle.ja_syntax.specs.declared.tree.Statement.{Statement, roll-Statement}
use Rattle.ja_syntax.specs.declared.tree.Statement.TheVariants as s
use Rattle.ja_syntax.specs.declared.tree.Statement.TheVariants.{rolls-Block, rolls-Variables, rolls-Empty, rolls-Expression, rolls-If, rolls-Do, rolls-While, rolls-For, rolls-ForIn, rolls-Continue, rolls-Break, rolls-Return, rolls-Labelled, rolls-Switch, rolls-Throw, rolls-Try, rolls-Function}
use Rattle.ja_syntax.specs.declared.tree.Expression.{Expression}
use Rattle.ja_syntax.specs.declared.tree.Expression.TheOpen.{Statement-F}
use Rattle.ja_syntax.specs.declared.tree.Expression.TheFolds.{para-Expression, para-Case, para-roll-Statement, para-roll-Case, map-Statement, map-Case}
use Rattle.ja_lower_expressions.specs.Expressions.{form}
use Rattle.ja_lower_draft.specs.Lines.{Listing, restarted}
use Rattle.ja_lower_expressions.specs.References.{Form, value_of}
use Rattle.ja_lower_statements.specs.Statements.{Around, Does, Clause, Expressions, statement_level, clause_level, does, label_text, list_all_statements, declare_all, list_if, list_if_alone, list_then, list_else, list_do, list_while, list_for, list_for_in, list_return, list_labelled, list_switch, list_throw, list_try}
use Rattle.ja_lower_statements.specs.code.Statements.{clause_of, declaration_of, initialiser_of, for_first_of, target_of, catch_of}
use Rattle.ja_lower_statements.specs.Ways.{break_target, continue_target, jump_to, leaving}

abbrev clause : Case → Clause
clause = para-Case (Unit {0}) Does Clause (λ x. tt) statement_level clause_level

-- a level of a statement, with what each part is beside it
abbrev layer : Statement-F Expression Statement Case
    → Statement-F Expressions (Statement × Does) (Case × Clause)
layer =
    map-Statement Expression Statement Case Expressions (Statement × Does) (Case × Clause)
    (λ e. (e, para-Expression (Unit {0}) Does Clause (λ x. tt) statement_level clause_level e))
    (λ x. (x, does x)) (λ c. (c, clause c))

opened : (x : Statement-F Expression Statement Case)
    → does (roll-Statement x) ≡ statement_level (layer x)
unfolding does
opened x = para-roll-Statement (Unit {0}) Does Clause (λ y. tt) statement_level clause_level x

-- each statement of a list, beside what it is listed as
many : (xs : List Statement) → map (λ (p : Statement × Does). p.1) (map (λ x. (x, does x)) xs)
    ≡ map does xs
many xs = map_after (λ x. (x, does x)) (λ (p : Statement × Does). p.1) does (λ x. refl) xs

-- a statement is listed as its level
listed : {x : Statement} {d : Does} (y : Statement-F Expression Statement Case)
    → roll-Statement y ≡ x → statement_level (layer y) ≡ d → (a : Around) (b : ℕ) (l : Listing)
    → does x a b l ≡ d a b l
listed y rolled same a b l =
    ap (λ (d : Does). d a b l) (ap does (sym rolled) ∙ (opened y ∙ same))

module _ (f : Declaration Expression → Declaration Expressions)
    (k : Declaration Expressions → Declaration Form)
    (empty : (n : Name) → k (f (record { name = n; initialiser = None }))
    ≡ record { name = n; initialiser = None })
    (full : (n : Name) (i : Initialiser Expression)
    → k (f (record { name = n; initialiser = Some i }))
    ≡ record { name = n; initialiser = Some (initialiser_of i) }) where
  declaration_is : (n : Name) (i : Option (Initialiser Expression))
      → k (f (record { name = n; initialiser = i }))
      ≡ declaration_of (record { name = n; initialiser = i })
  declaration_is n None = empty n
  declaration_is n (Some i) = full n i

  declarations_are : (ds : List (Declaration Expression)) → map k (map f ds) ≡ map declaration_of ds
  declarations_are ds = map_after f k declaration_of (λ d. declaration_is d.name d.initialiser) ds

clause_is : (case : Case) → clause case ≡ clause_of case
unfolding does
clause_is case =
    para-roll-Case (Unit {0}) Does Clause (λ y. tt) statement_level clause_level (out-Case case)
    ∙ clause_layer (out-Case case).test (out-Case case).body (out-Case case).place
  where
    clause_layer : (test : Option Expression) (body : List Statement) (place : Place)
        → clause_level (map-Case Expression Statement Case Expressions (Statement × Does)
        (Case × Clause) (λ e. (
          e,
          para-Expression (Unit {0}) Does Clause (λ x. tt)
              statement_level clause_level e,
        )) (λ x. (x, does x)) (λ c. (c, clause c))
        (record { test = test; body = body; place = place }))
        ≡ record { test = option_map form test; body = map does body }
    clause_layer None body place =
        ap (λ (ds : List Does). let c : Clause = record { test = None; body = ds } in c) (many body)
    clause_layer (Some test) body place =
        ap (λ (ds : List Does). let c : Clause = record { test = Some (form test); body = ds } in c)
        (many body)

clauses_are : (cases : List Case) → map (λ (p : Case × Clause). p.1)
    (map (λ c. (c, clause c)) cases) ≡ map clause_of cases
clauses_are cases =
    map_after (λ c. (c, clause c)) (λ (p : Case × Clause). p.1) clause_of clause_is cases

pub body_of : (case : Case) → (clause_of case).body ≡ map does (out-Case case).body
body_of case = refl

pub does_block : (body : List Statement) (place : Place) (a : Around) (b : ℕ) (l : Listing)
    → does (s.Block body place) a b l ≡ list_all_statements (map does body) a b l
does_block body place = listed _ (rolls-Block body place) (ap list_all_statements (many body))

abbrev declared : List (Declaration Form) → Does
declared ds around base m = declare_all ds around.scene base m

variables_layer : (declarations : List (Declaration Expression)) (place : Place)
    → statement_level (layer (Statement-F.Variables declarations place))
    ≡ declared (map declaration_of declarations)
variables_layer declarations place =
    ap declared (declarations_are _ _ (λ n. refl) (λ n i. refl) declarations)

pub does_variables : (declarations : List (Declaration Expression)) (place : Place) (a : Around)
    (b : ℕ) (l : Listing) → does (s.Variables declarations place) a b l
    ≡ declare_all (map declaration_of declarations) a.scene b l
does_variables declarations place =
    listed _ (rolls-Variables declarations place) (variables_layer declarations place)

pub does_empty : (place : Place) (a : Around) (b : ℕ) (l : Listing)
    → does (s.Empty place) a b l ≡ (λ (around : Around) (base : ℕ) (m : Listing). m) a b l
does_empty place = listed _ (rolls-Empty place) refl

pub does_expression : (value : Expression) (place : Place) (a : Around) (b : ℕ) (l : Listing)
    → does (s.Expression value place) a b l
    ≡ (λ (around : Around) (base : ℕ) (m : Listing).
    (value_of (form value) around.scene (restarted base m)).listing) a b l
does_expression value place = listed _ (rolls-Expression value place) refl

if_layer : (condition : Expression) (then : Statement) (otherwise : Option Statement)
    (place : Place) → statement_level (layer (Statement-F.If condition then otherwise place))
    ≡ list_if (form condition) (does then) (option_map does otherwise) place
if_layer condition then None place = refl
if_layer condition then (Some otherwise) place = refl

pub does_if_alone : (condition : Expression) (then : Statement) (place : Place) (a : Around) (b : ℕ)
    (l : Listing) → does (s.If condition then None place) a b l
    ≡ list_if_alone (form condition) (does then) place a b l
does_if_alone condition then place =
    listed _ (rolls-If condition then None place) (if_layer condition then None place)

pub does_if_else : (condition : Expression) (then otherwise : Statement) (place : Place)
    (a : Around) (b : ℕ) (l : Listing) → does (s.If condition then (Some otherwise) place) a b l
    ≡ list_else (does otherwise) a b (list_then (form condition) (does then) place a b l)
does_if_else condition then otherwise place =
    listed _ (rolls-If condition then (Some otherwise) place)
    (if_layer condition then (Some otherwise) place)

pub does_do : (body : Statement) (condition : Expression) (place : Place) (a : Around) (b : ℕ)
    (l : Listing) → does (s.Do body condition place) a b l
    ≡ list_do (does body) (form condition) place a b l
does_do body condition place = listed _ (rolls-Do body condition place) refl

pub does_while : (condition : Expression) (body : Statement) (place : Place) (a : Around) (b : ℕ)
    (l : Listing) → does (s.While condition body place) a b l
    ≡ list_while (form condition) (does body) place a b l
does_while condition body place = listed _ (rolls-While condition body place) refl

for_layer : (head : ForFirst Expression) (condition update : Option Expression) (body : Statement)
    (place : Place) → statement_level (layer (Statement-F.For head condition update body place))
    ≡ list_for (for_first_of head) (option_map form condition) (option_map form update) (does body)
    place
for_layer first.Nothing None None body place = refl
for_layer first.Nothing None (Some update) body place = refl
for_layer first.Nothing (Some condition) None body place = refl
for_layer first.Nothing (Some condition) (Some update) body place = refl
for_layer (first.Expression value) None None body place = refl
for_layer (first.Expression value) None (Some update) body place = refl
for_layer (first.Expression value) (Some condition) None body place = refl
for_layer (first.Expression value) (Some condition) (Some update) body place = refl
for_layer (first.Variables declarations) None None body place =
    ap (λ (ds : List (Declaration Form)). list_for (first.Variables ds) None None (does body) place)
    (declarations_are _ _ (λ n. refl) (λ n i. refl) declarations)
for_layer (first.Variables declarations) None (Some update) body place =
    ap (λ (ds : List (Declaration Form)). list_for (first.Variables ds) None (Some (form update))
    (does body) place) (declarations_are _ _ (λ n. refl) (λ n i. refl) declarations)
for_layer (first.Variables declarations) (Some condition) None body place =
    ap (λ (ds : List (Declaration Form)). list_for (first.Variables ds) (Some (form condition)) None
    (does body) place) (declarations_are _ _ (λ n. refl) (λ n i. refl) declarations)
for_layer (first.Variables declarations) (Some condition) (Some update) body place =
    ap (λ (ds : List (Declaration Form)). list_for (first.Variables ds) (Some (form condition))
    (Some (form update)) (does body) place)
    (declarations_are _ _ (λ n. refl) (λ n i. refl) declarations)

pub does_for : (head : ForFirst Expression) (condition update : Option Expression)
    (body : Statement) (place : Place) (a : Around) (b : ℕ) (l : Listing)
    → does (s.For head condition update body place) a b l
    ≡ list_for (for_first_of head) (option_map form condition) (option_map form update) (does body)
    place a b l
does_for head condition update body place =
    listed _ (rolls-For head condition update body place)
    (for_layer head condition update body place)

variable_layer : (n : Name) (i : Option (Initialiser Expression)) (object : Expression)
    (body : Statement) (place : Place) → statement_level
    (layer (Statement-F.ForIn (target.Variable (record { name = n; initialiser = i })) object body
    place)) ≡ list_for_in (target_of (target.Variable (record { name = n; initialiser = i })))
    (form object) (does body) place
variable_layer n None object body place = refl
variable_layer n (Some i) object body place = refl

for_in_layer : (goal : ForTarget Expression) (object : Expression) (body : Statement)
    (place : Place) → statement_level (layer (Statement-F.ForIn goal object body place))
    ≡ list_for_in (target_of goal) (form object) (does body) place
for_in_layer (target.Variable d) object body place =
    variable_layer d.name d.initialiser object body place
for_in_layer (target.Reference value) object body place = refl

pub does_for_in_variable : (d : Declaration Expression) (object : Expression) (body : Statement)
    (place : Place) (a : Around) (b : ℕ) (l : Listing)
    → does (s.ForIn (target.Variable d) object body place) a b l
    ≡ list_for_in (target.Variable (declaration_of d)) (form object) (does body) place a b l
does_for_in_variable d object body place =
    listed _ (rolls-ForIn (target.Variable d) object body place)
    (for_in_layer (target.Variable d) object body place)

pub does_for_in : (goal : ForTarget Expression) (object : Expression) (body : Statement)
    (place : Place) (a : Around) (b : ℕ) (l : Listing)
    → does (s.ForIn goal object body place) a b l
    ≡ list_for_in (target_of goal) (form object) (does body) place a b l
does_for_in goal object body place =
    listed _ (rolls-ForIn goal object body place) (for_in_layer goal object body place)

pub does_continue : (label : Option Name) (place : Place) (a : Around) (b : ℕ) (l : Listing)
    → does (s.Continue label place) a b l ≡ (λ (around : Around) (base : ℕ) (m : Listing).
    jump_to around.scene place (continue_target (label_text label)) around.ways (leaving m)) a b l
does_continue label place = listed _ (rolls-Continue label place) refl

pub does_break : (label : Option Name) (place : Place) (a : Around) (b : ℕ) (l : Listing)
    → does (s.Break label place) a b l ≡ (λ (around : Around) (base : ℕ) (m : Listing).
    jump_to around.scene place (break_target (label_text label)) around.ways (leaving m)) a b l
does_break label place = listed _ (rolls-Break label place) refl

return_layer : (value : Option Expression) (place : Place)
    → statement_level (layer (Statement-F.Return value place))
    ≡ list_return (option_map form value) place
return_layer None place = refl
return_layer (Some value) place = refl

pub does_return : (value : Option Expression) (place : Place) (a : Around) (b : ℕ) (l : Listing)
    → does (s.Return value place) a b l ≡ list_return (option_map form value) place a b l
does_return value place = listed _ (rolls-Return value place) (return_layer value place)

pub does_labelled : (label : Name) (body : Statement) (a : Around) (b : ℕ) (l : Listing)
    → does (s.Labelled label body) a b l ≡ list_labelled label (does body) a b l
does_labelled label body = listed _ (rolls-Labelled label body) refl

pub does_switch : (value : Expression) (cases : List Case) (place : Place) (a : Around) (b : ℕ)
    (l : Listing) → does (s.Switch value cases place) a b l
    ≡ list_switch (form value) (map clause_of cases) place a b l
does_switch value cases place =
    listed _ (rolls-Switch value cases place)
    (ap (λ (cs : List Clause). list_switch (form value) cs place) (clauses_are cases))

pub does_throw : (value : Expression) (place : Place) (a : Around) (b : ℕ) (l : Listing)
    → does (s.Throw value place) a b l ≡ (λ (around : Around) (base : ℕ) (m : Listing).
    list_throw (form value) place around.scene base m) a b l
does_throw value place = listed _ (rolls-Throw value place) refl

try_layer : (block : List Statement) (caught : Option (CatchOf Statement))
    (finally : Option (List Statement)) (place : Place)
    → statement_level (layer (Statement-F.Try block caught finally place))
    ≡ list_try (map does block) (option_map catch_of caught) (option_map (map does) finally) place
try_layer block None None place = ap (λ (ds : List Does). list_try ds None None place) (many block)
try_layer block (Some caught) None place =
    ap (λ (ds : List Does). list_try ds (Some
    (record {
      parameter = caught.parameter;
      body = map (λ (p : Statement × Does). p.1) (map (λ x. (x, does x)) caught.body);
    })) None
    place) (many block)
    ∙ ap (λ (ds : List Does). list_try (map does block)
    (Some (record { parameter = caught.parameter; body = ds })) None place) (many caught.body)
try_layer block None (Some finally) place =
    ap (λ (ds : List Does). list_try ds None
    (Some (map (λ (p : Statement × Does). p.1) (map (λ x. (x, does x)) finally))) place)
    (many block)
    ∙ ap (λ (ds : List Does). list_try (map does block) None (Some ds) place) (many finally)
try_layer block (Some caught) (Some finally) place =
    ap (λ (ds : List Does). list_try ds (Some
    (record {
      parameter = caught.parameter;
      body = map (λ (p : Statement × Does). p.1) (map (λ x. (x, does x)) caught.body);
    }))
    (Some (map (λ (p : Statement × Does). p.1) (map (λ x. (x, does x)) finally))) place)
    (many block)
    ∙ (ap (λ (ds : List Does). list_try (map does block)
    (Some (record { parameter = caught.parameter; body = ds }))
    (Some (map (λ (p : Statement × Does). p.1) (map (λ x. (x, does x)) finally))) place)
    (many caught.body)
    ∙ ap (λ (ds : List Does). list_try (map does block)
    (Some (record { parameter = caught.parameter; body = map does caught.body })) (Some ds)
    place) (many finally))

pub does_try : (block : List Statement) (caught : Option (CatchOf Statement))
    (finally : Option (List Statement)) (place : Place) (a : Around) (b : ℕ) (l : Listing)
    → does (s.Try block caught finally place) a b l
    ≡ list_try (map does block) (option_map catch_of caught) (option_map (map does) finally) place a
    b l
does_try block caught finally place =
    listed _ (rolls-Try block caught finally place) (try_layer block caught finally place)

pub does_function : (function : FunctionOf Statement) (a : Around) (b : ℕ) (l : Listing)
    → does (s.Function function) a b l ≡ (λ (around : Around) (base : ℕ) (m : Listing). m) a b l
does_function function = listed _ (rolls-Function function) refl
