-- Where labels and jumps may stand (ES3 12.7 to 12.9, 12.12), and function declarations (13, 14).
use Rattle.std.specs.Prelude.{ℕ, Bool, true, false, not, ◌&&◌, ◌||◌, List, [], ◌∷◌, ◌++◌, Option, Some, None}
use Rattle.std.specs.List.{list_any, list_all}
use Rattle.std.specs.Str.{bytes_eq}
use Rattle.ja_syntax.specs.declared.tree.CatchOf.{CatchOf}
use Rattle.ja_syntax.specs.declared.tree.Name.{Name}
use Rattle.ja_syntax.specs.declared.tree.Statement.{Statement}
use Rattle.ja_syntax.specs.declared.tree.Expression.TheOpen.{Statement-F, Case-F}
use Rattle.ja_syntax.specs.declared.tree.Expression.TheFolds.{fold-Statement}

-- What is around a statement, up to the function that it belongs to.
pub record Around : Type 0 where
  -- the labels of the statements that it stands in
  pub labels : List (List ℕ)
  -- the labels of the loops that it stands in (their label sets, 12.12)
  pub loop_labels : List (List ℕ)
  -- the labels directly before it
  pub labels_before : List (List ℕ)
  pub in_loop : Bool
  pub in_switch : Bool
  pub in_function : Bool
  -- it stands in no other statement
  pub at_top : Bool

-- around the statements of a function's body, or of the program
unfoldable pub around_body : Bool → Around
around_body in_function = record {
  labels = [];
  loop_labels = [];
  labels_before = [];
  in_loop = false;
  in_switch = false;
  in_function = in_function;
  at_top = true;
}

-- around a statement that stands in one that is neither a loop nor labelled
unfoldable pub within : Around → Around
within around = record around { labels_before = []; at_top = false }

-- around the body of a loop
unfoldable pub within_loop : Around → Around
within_loop around =
    record around {
      loop_labels = around.labels_before ++ around.loop_labels;
      labels_before = [];
      in_loop = true;
      at_top = false;
    }

-- around the statements of a `switch`
unfoldable pub within_switch : Around → Around
within_switch around = record around { labels_before = []; in_switch = true; at_top = false }

-- around a statement that is labelled
unfoldable pub labelled : List ℕ → Around → Around
labelled label around =
    record around {
      labels = label ∷ around.labels;
      labels_before = label ∷ around.labels_before;
      at_top = false;
    }

-- a label is among others
unfoldable pub is_among : List ℕ → List (List ℕ) → Bool
is_among label = list_any (bytes_eq label)

-- whether the statements of a form keep the rules, by what is around them
abbrev pub Judged : Type 0
Judged = Around → Bool

-- each of several statements keeps the rules
abbrev pub all_keep : List Judged → Judged
all_keep statements around = list_all (λ judged. judged around) statements

-- a statement that may be missing does
abbrev pub if_any : Option Judged → Judged
if_any None around = true
if_any (Some judged) around = judged around

-- the statements of a `catch` do (12.14)
abbrev pub catch_keeps : Option (CatchOf Judged) → Judged
catch_keeps None around = true
catch_keeps (Some catch) around = all_keep catch.body around

-- those of a `finally` do (12.14)
abbrev pub finally_keeps : Option (List Judged) → Judged
finally_keeps None around = true
finally_keeps (Some body) around = all_keep body around

-- `continue` stands in a loop, and names a label of one (12.7).
abbrev pub may_continue : Option Name → Judged
may_continue None around = around.in_loop
may_continue (Some label) around = is_among label.text around.loop_labels

-- `break` stands in a loop or a `switch`, or names a label around it (12.8).
abbrev pub may_break : Option Name → Judged
may_break None around = around.in_loop || around.in_switch
may_break (Some label) around = is_among label.text around.labels

-- One level of a statement, with the judgement of each statement inside in its place.
abbrev pub jumps_step : Statement-F (Unit {0}) Judged Judged → Judged
jumps_step (Statement-F.Block body place) around = all_keep body (within around)
jumps_step (Statement-F.Variables declarations place) around = true
jumps_step (Statement-F.Empty place) around = true
jumps_step (Statement-F.Expression value place) around = true
jumps_step (Statement-F.If condition first second place) around =
    first (within around) && if_any second (within around)
jumps_step (Statement-F.Do body condition place) around = body (within_loop around)
jumps_step (Statement-F.While condition body place) around = body (within_loop around)
jumps_step (Statement-F.For first condition update body place) around = body (within_loop around)
jumps_step (Statement-F.ForIn target object body place) around = body (within_loop around)
jumps_step (Statement-F.Continue label place) around = may_continue label around
jumps_step (Statement-F.Break label place) around = may_break label around
-- `return` stands in a function (12.9).
jumps_step (Statement-F.Return value place) around = around.in_function
-- No label stands in a statement of the same label (12.12).
jumps_step (Statement-F.Labelled label body) around =
    not (is_among label.text around.labels) && body (labelled label.text around)
jumps_step (Statement-F.Switch value cases place) around = all_keep cases (within_switch around)
jumps_step (Statement-F.Throw value place) around = true
jumps_step (Statement-F.Try block catch finally place) around =
    all_keep block (within around) && catch_keeps catch (within around)
    && finally_keeps finally (within around)
-- A function declaration stands in no other statement (13, 14); its own body begins anew.
jumps_step (Statement-F.Statement::Function function) around = around.at_top

-- those of a clause of a `switch` do (12.11)
abbrev pub jumps_in_case : Case-F (Unit {0}) Judged Judged → Judged
jumps_in_case case = all_keep case.body

-- The labels and jumps of a statement keep the rules, functions inside it left out.
unfoldable pub jumps_well : Statement → Judged
jumps_well = fold-Statement (Unit {0}) Judged Judged (λ expression. tt) jumps_step jumps_in_case

-- Those of a function's body, or (false) of the program.
unfoldable pub body_jumps_well : Bool → List Statement → Bool
body_jumps_well in_function statements =
    list_all (λ statement. jumps_well statement (around_body in_function)) statements
