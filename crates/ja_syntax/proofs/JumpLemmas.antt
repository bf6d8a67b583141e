-- What one level of a statement says of its labels and jumps.
use Rattle.std.proofs.Common.{◌≡◌, Bool, true, not, ◌&&◌, List, [], ◌∷◌, ◌∙◌, ap, sym, map, refl, Option, Some, None}
use Rattle.std.specs.List.{list_all}
use Rattle.ja_base.specs.declared.ids.Place.{Place}
use Rattle.ja_syntax.specs.code.Jumps.{Around, Judged, within, within_loop, within_switch, labelled, is_among, may_continue, may_break, jumps_step, jumps_in_case, jumps_well}
use Rattle.ja_syntax.specs.declared.tree.Declaration.{Declaration}
use Rattle.ja_syntax.specs.declared.tree.ForFirst.{ForFirst}
use Rattle.ja_syntax.specs.declared.tree.ForTarget.{ForTarget}
use Rattle.ja_syntax.specs.declared.tree.FunctionOf.{FunctionOf}
use Rattle.ja_syntax.specs.declared.tree.CatchOf.{CatchOf}
use Rattle.ja_syntax.specs.declared.tree.Name.{Name}
use Rattle.ja_syntax.specs.declared.tree.Case.{Case, out-Case}
use Rattle.ja_syntax.specs.declared.tree.Statement.{Statement, roll-Statement}
use Rattle.ja_syntax.specs.declared.tree.Statement.TheVariants as s
use Rattle.ja_syntax.specs.declared.tree.Statement.TheVariants.{rolls-Block, rolls-Variables, rolls-Empty, rolls-Expression, rolls-If, rolls-Do, rolls-While, rolls-For, rolls-ForIn, rolls-Continue, rolls-Break, rolls-Return, rolls-Labelled, rolls-Throw, rolls-Function, rolls-Switch, rolls-Try}
use Rattle.ja_syntax.specs.declared.tree.Expression.{Expression}
use Rattle.ja_syntax.specs.declared.tree.Expression.TheOpen.{Statement-F}
use Rattle.ja_syntax.specs.declared.tree.Expression.TheFolds.{fold-roll-Statement, fold_out-Case, fold-Case, map-Statement}

all_map : (xs : List Statement) (f : Statement → Judged) (around : Around)
    → list_all (λ (judged : Judged). judged around) (map f xs) ≡ list_all (λ x. f x around) xs
all_map [] f around = refl
all_map (x ∷ xs) f around = ap (λ b. f x around && b) (all_map xs f around)

-- a level of a statement, with how the jumps of each part are in its place
abbrev layer : Statement-F Expression Statement Case → Statement-F (Unit {0}) Judged Judged
layer =
    map-Statement Expression Statement Case (Unit {0}) Judged Judged (λ expression. tt) jumps_well
    (fold-Case (Unit {0}) Judged Judged (λ expression. tt) jumps_step jumps_in_case)

jumps_as : {x : Statement} (y : Statement-F Expression Statement Case) → roll-Statement y ≡ x
    → (around : Around) → jumps_well x around ≡ jumps_step (layer y) around
unfolding jumps_well
jumps_as y rolled around =
    ap (λ (j : Judged). j around) (ap jumps_well (sym rolled)
    ∙ fold-roll-Statement (Unit {0}) Judged Judged (λ expression. tt) jumps_step jumps_in_case y)

pub jumps_block : (body : List Statement) (place : Place) (around : Around)
    → jumps_well (s.Block body place) around
    ≡ list_all (λ statement. jumps_well statement (within around)) body
jumps_block body place around =
    jumps_as _ (rolls-Block body place) around ∙ all_map body jumps_well (within around)

pub jumps_variables : (declarations : List (Declaration Expression)) (place : Place)
    (around : Around) → jumps_well (s.Variables declarations place) around ≡ true
jumps_variables declarations place around = jumps_as _ (rolls-Variables declarations place) around

pub jumps_empty : (place : Place) (around : Around) → jumps_well (s.Empty place) around ≡ true
jumps_empty place around = jumps_as _ (rolls-Empty place) around

pub jumps_expression : (value : Expression) (place : Place) (around : Around)
    → jumps_well (s.Expression value place) around ≡ true
jumps_expression value place around = jumps_as _ (rolls-Expression value place) around

pub jumps_do : (body : Statement) (condition : Expression) (place : Place) (around : Around)
    → jumps_well (s.Do body condition place) around ≡ jumps_well body (within_loop around)
jumps_do body condition place around = jumps_as _ (rolls-Do body condition place) around

pub jumps_while : (condition : Expression) (body : Statement) (place : Place) (around : Around)
    → jumps_well (s.While condition body place) around ≡ jumps_well body (within_loop around)
jumps_while condition body place around = jumps_as _ (rolls-While condition body place) around

pub jumps_for : (before : ForFirst Expression) (condition update : Option Expression)
    (body : Statement) (place : Place) (around : Around)
    → jumps_well (s.For before condition update body place) around
    ≡ jumps_well body (within_loop around)
jumps_for before condition update body place around =
    jumps_as _ (rolls-For before condition update body place) around

pub jumps_for_in : (goal : ForTarget Expression) (object : Expression) (body : Statement)
    (place : Place) (around : Around) → jumps_well (s.ForIn goal object body place) around
    ≡ jumps_well body (within_loop around)
jumps_for_in goal object body place around = jumps_as _ (rolls-ForIn goal object body place) around

pub jumps_continue : (label : Option Name) (place : Place) (around : Around)
    → jumps_well (s.Continue label place) around ≡ may_continue label around
jumps_continue label place around = jumps_as _ (rolls-Continue label place) around

pub jumps_break : (label : Option Name) (place : Place) (around : Around)
    → jumps_well (s.Break label place) around ≡ may_break label around
jumps_break label place around = jumps_as _ (rolls-Break label place) around

pub jumps_return : (value : Option Expression) (place : Place) (around : Around)
    → jumps_well (s.Return value place) around ≡ around.in_function
jumps_return value place around = jumps_as _ (rolls-Return value place) around

pub jumps_labelled : (label : Name) (body : Statement) (around : Around)
    → jumps_well (s.Labelled label body) around
    ≡ (not (is_among label.text around.labels) && jumps_well body (labelled label.text around))
jumps_labelled label body around = jumps_as _ (rolls-Labelled label body) around

pub jumps_throw : (value : Expression) (place : Place) (around : Around)
    → jumps_well (s.Throw value place) around ≡ true
jumps_throw value place around = jumps_as _ (rolls-Throw value place) around

pub jumps_function : (function : FunctionOf Statement) (around : Around)
    → jumps_well (s.Function function) around ≡ around.at_top
jumps_function function around = jumps_as _ (rolls-Function function) around

pub jumps_if : (condition : Expression) (then : Statement) (place : Place) (around : Around)
    → jumps_well (s.If condition then None place) around ≡ (jumps_well then (within around) && true)
jumps_if condition then place around = jumps_as _ (rolls-If condition then None place) around

pub jumps_if_else : (condition : Expression) (then otherwise : Statement) (place : Place)
    (around : Around) → jumps_well (s.If condition then (Some otherwise) place) around
    ≡ (jumps_well then (within around) && jumps_well otherwise (within around))
jumps_if_else condition then otherwise place around =
    jumps_as _ (rolls-If condition then (Some otherwise) place) around

-- the statements of a clause, by what is around the clause
abbrev pub case_jumps : Around → Case → Bool
case_jumps around case = list_all (λ statement. jumps_well statement around) (out-Case case).body

all_cases : (f : Case → Judged) (around : Around) → ((c : Case) → f c around ≡ case_jumps around c)
    → (cases : List Case) → list_all (λ (judged : Judged). judged around) (map f cases)
    ≡ list_all (case_jumps around) cases
all_cases f around h [] = refl
all_cases f around h (c ∷ cases) = rw (h c, all_cases f around h cases) refl

pub jumps_switch : (value : Expression) (cases : List Case) (place : Place) (around : Around)
    → jumps_well (s.Switch value cases place) around
    ≡ list_all (case_jumps (within_switch around)) cases
unfolding jumps_well
jumps_switch value cases place around =
    jumps_as _ (rolls-Switch value cases place) around
    ∙ all_cases _ (within_switch around) (λ c.
    ap (λ (j : Judged). j (within_switch around))
    (fold_out-Case (Unit {0}) Judged Judged (λ expression. tt) jumps_step jumps_in_case c)
    ∙ all_map (out-Case c).body jumps_well (within_switch around)) cases

abbrev pub catch_jumps : Around → Option (CatchOf Statement) → Bool
catch_jumps around None = true
catch_jumps around (Some catch) = list_all (λ statement. jumps_well statement around) catch.body

abbrev pub finally_jumps : Around → Option (List Statement) → Bool
finally_jumps around None = true
finally_jumps around (Some body) = list_all (λ statement. jumps_well statement around) body

try_parts : (block : List Statement) (catch : Option (CatchOf Statement))
    (finally : Option (List Statement)) (place : Place) (around : Around)
    → jumps_step (layer (Statement-F.Try block catch finally place)) around
    ≡ (list_all (λ statement. jumps_well statement (within around)) block
    && catch_jumps (within around) catch && finally_jumps (within around) finally)
try_parts block None None place around = rw (all_map block jumps_well (within around)) refl
try_parts block None (Some body) place around =
    rw (all_map block jumps_well (within around), all_map body jumps_well (within around)) refl
try_parts block (Some catch) None place around =
    rw (all_map block jumps_well (within around), all_map catch.body jumps_well (within around))
    refl
try_parts block (Some catch) (Some body) place around =
    rw (
      all_map block jumps_well (within around),
      all_map catch.body jumps_well (within around),
      all_map body jumps_well (within around),
    ) refl

pub jumps_try : (block : List Statement) (catch : Option (CatchOf Statement))
    (finally : Option (List Statement)) (place : Place) (around : Around)
    → jumps_well (s.Try block catch finally place) around
    ≡ (list_all (λ statement. jumps_well statement (within around)) block
    && catch_jumps (within around) catch && finally_jumps (within around) finally)
jumps_try block catch finally place around =
    jumps_as _ (rolls-Try block catch finally place) around
    ∙ try_parts block catch finally place around
