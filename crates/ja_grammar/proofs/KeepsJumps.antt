-- The labels and jumps of a statement are well where those of its parts are.
use Rattle.std.proofs.Common.{◌≡◌, Bool, true, false, not, ◌&&◌, List, [], ◌∷◌, map, refl, ap, subst, ◌∙◌, Option, Some, None}
use Rattle.std.specs.List.{AllByRecursion}
use Rattle.ja_base.specs.declared.ids.Place.{Place}
use Rattle.ja_syntax.specs.declared.tree.Case.{Case, roll-Case}
use Rattle.ja_syntax.specs.declared.tree.CatchOf.{CatchOf}
use Rattle.ja_syntax.specs.declared.tree.Declaration.{Declaration}
use Rattle.ja_syntax.specs.declared.tree.ForFirst.{ForFirst}
use Rattle.ja_syntax.specs.declared.tree.ForTarget.{ForTarget}
use Rattle.ja_syntax.specs.declared.tree.FunctionOf.{FunctionOf}
use Rattle.ja_syntax.specs.declared.tree.Name.{Name}
use Rattle.ja_syntax.specs.declared.tree.Statement.{Statement, roll-Statement}
use Rattle.ja_syntax.specs.declared.tree.Statement.TheVariants as s
use Rattle.ja_syntax.specs.declared.tree.Statement.TheVariants.{rolls-Block, rolls-Variables, rolls-Empty, rolls-Expression, rolls-If, rolls-Do, rolls-While, rolls-For, rolls-ForIn, rolls-Continue, rolls-Break, rolls-Return, rolls-Labelled, rolls-Switch, rolls-Throw, rolls-Try, rolls-Function}
use Rattle.ja_syntax.specs.declared.tree.Expression.{Expression}
use Rattle.ja_syntax.specs.declared.tree.Expression.TheOpen.{Statement-F}
use Rattle.ja_syntax.specs.declared.tree.Expression.TheFolds.{fold-Expression, fold-Case, fold-roll-Statement, fold-roll-Case, map-Statement}
use Rattle.ja_syntax.specs.code.Jumps.{Around, Judged, within, within_loop, within_switch, labelled, is_among, jumps_step, jumps_in_case, jumps_well, all_keep, may_continue, may_break}

-- the judgement of a clause
abbrev pub case_well : Case → Judged
case_well = fold-Case (Unit {0}) Judged Judged (λ expression. tt) jumps_step jumps_in_case

-- a level of a statement, with the judgement of each part in its place
abbrev layer : Statement-F Expression Statement Case → Statement-F (Unit {0}) Judged Judged
layer =
    map-Statement Expression Statement Case (Unit {0}) Judged Judged
    (fold-Expression (Unit {0}) Judged Judged (λ expression. tt) jumps_step jumps_in_case)
    jumps_well case_well

opened : (x : Statement-F Expression Statement Case) (a : Around) → jumps_step (layer x) a ≡ true
    → jumps_well (roll-Statement x) a ≡ true
unfolding jumps_well
opened x a h =
    ap (λ (f : Judged). f a) (fold-roll-Statement (Unit {0}) Judged Judged (λ expression. tt)
    jumps_step jumps_in_case x) ∙ h

-- the jumps of a statement are well in a place
abbrev pub WellIn : Around → Statement → Type 0
WellIn a x = jumps_well x a ≡ true

pub all_well : (a : Around) (xs : List Statement) → AllByRecursion (WellIn a) xs
    → all_keep (map jumps_well xs) a ≡ true
all_well a [] h = refl
all_well a (x ∷ xs) h = rw (h.0) (all_well a xs h.1)

abbrev pub CaseWellIn : Around → Case → Type 0
CaseWellIn a c = case_well c a ≡ true

pub all_cases_well : (a : Around) (cs : List Case) → AllByRecursion (CaseWellIn a) cs
    → all_keep (map case_well cs) a ≡ true
all_cases_well a [] h = refl
all_cases_well a (c ∷ cs) h = rw (h.0) (all_cases_well a cs h.1)

both : {x y : Bool} → x ≡ true → y ≡ true → (x && y) ≡ true
both f g = rw (f, g) refl

-- ---- each form

pub block_well : (xs : List Statement) (place : Place) (a : Around)
    → AllByRecursion (WellIn (within a)) xs → WellIn a (s.Block xs place)
block_well xs place a h =
    subst (WellIn a) (rolls-Block xs place)
    (opened (Statement-F.Block xs place) a (all_well (within a) xs h))

pub variables_well : (ds : List (Declaration Expression)) (place : Place) (a : Around)
    → WellIn a (s.Variables ds place)
variables_well ds place a =
    subst (WellIn a) (rolls-Variables ds place) (opened (Statement-F.Variables ds place) a refl)

pub empty_well : (place : Place) (a : Around) → WellIn a (s.Empty place)
empty_well place a = subst (WellIn a) (rolls-Empty place) (opened (Statement-F.Empty place) a refl)

pub expression_well : (x : Expression) (place : Place) (a : Around)
    → WellIn a (s.Expression x place)
expression_well x place a =
    subst (WellIn a) (rolls-Expression x place) (opened (Statement-F.Expression x place) a refl)

pub throw_well : (x : Expression) (place : Place) (a : Around) → WellIn a (s.Throw x place)
throw_well x place a =
    subst (WellIn a) (rolls-Throw x place) (opened (Statement-F.Throw x place) a refl)

pub if_well : (x : Expression) (y : Statement) (place : Place) (a : Around) → WellIn (within a) y
    → WellIn a (s.If x y None place)
if_well x y place a h =
    subst (WellIn a) (rolls-If x y None place)
    (opened (Statement-F.If x y None place) a (both h refl))

pub if_else_well : (x : Expression) (y z : Statement) (place : Place) (a : Around)
    → WellIn (within a) y → WellIn (within a) z → WellIn a (s.If x y (Some z) place)
if_else_well x y z place a g h =
    subst (WellIn a) (rolls-If x y (Some z) place)
    (opened (Statement-F.If x y (Some z) place) a (both g h))

pub do_well : (x : Statement) (y : Expression) (place : Place) (a : Around)
    → WellIn (within_loop a) x → WellIn a (s.Do x y place)
do_well x y place a h =
    subst (WellIn a) (rolls-Do x y place) (opened (Statement-F.Do x y place) a h)

pub while_well : (x : Expression) (y : Statement) (place : Place) (a : Around)
    → WellIn (within_loop a) y → WellIn a (s.While x y place)
while_well x y place a h =
    subst (WellIn a) (rolls-While x y place) (opened (Statement-F.While x y place) a h)

pub for_well : (x : ForFirst Expression) (c u : Option Expression) (body : Statement)
    (place : Place) (a : Around) → WellIn (within_loop a) body → WellIn a (s.For x c u body place)
for_well x c u body place a h =
    subst (WellIn a) (rolls-For x c u body place) (opened (Statement-F.For x c u body place) a h)

pub for_in_well : (x : ForTarget Expression) (y : Expression) (body : Statement) (place : Place)
    (a : Around) → WellIn (within_loop a) body → WellIn a (s.ForIn x y body place)
for_in_well x y body place a h =
    subst (WellIn a) (rolls-ForIn x y body place) (opened (Statement-F.ForIn x y body place) a h)

pub continue_well : (label : Option Name) (place : Place) (a : Around) → may_continue label a ≡ true
    → WellIn a (s.Continue label place)
continue_well label place a h =
    subst (WellIn a) (rolls-Continue label place) (opened (Statement-F.Continue label place) a h)

pub break_well : (label : Option Name) (place : Place) (a : Around) → may_break label a ≡ true
    → WellIn a (s.Break label place)
break_well label place a h =
    subst (WellIn a) (rolls-Break label place) (opened (Statement-F.Break label place) a h)

pub return_well : (x : Option Expression) (place : Place) (a : Around) → a.in_function ≡ true
    → WellIn a (s.Return x place)
return_well x place a h =
    subst (WellIn a) (rolls-Return x place) (opened (Statement-F.Return x place) a h)

pub labelled_well : (label : Name) (x : Statement) (a : Around)
    → is_among label.text a.labels ≡ false → WellIn (labelled label.text a) x
    → WellIn a (s.Labelled label x)
labelled_well label x a fresh h =
    subst (WellIn a) (rolls-Labelled label x)
    (opened (Statement-F.Labelled label x) a (both (ap not fresh) h))

pub switch_well : (x : Expression) (cs : List Case) (place : Place) (a : Around)
    → AllByRecursion (CaseWellIn (within_switch a)) cs → WellIn a (s.Switch x cs place)
switch_well x cs place a h =
    subst (WellIn a) (rolls-Switch x cs place)
    (opened (Statement-F.Switch x cs place) a (all_cases_well (within_switch a) cs h))

pub try_catch_well : (xs : List Statement) (c : CatchOf Statement) (place : Place) (a : Around)
    → AllByRecursion (WellIn (within a)) xs → AllByRecursion (WellIn (within a)) c.body
    → WellIn a (s.Try xs (Some c) None place)
try_catch_well xs c place a g h =
    subst (WellIn a) (rolls-Try xs (Some c) None place)
    (opened (Statement-F.Try xs (Some c) None place) a
    (both (both (all_well (within a) xs g) (all_well (within a) c.body h)) refl))

pub try_finally_well : (xs ys : List Statement) (place : Place) (a : Around)
    → AllByRecursion (WellIn (within a)) xs → AllByRecursion (WellIn (within a)) ys
    → WellIn a (s.Try xs None (Some ys) place)
try_finally_well xs ys place a g h =
    subst (WellIn a) (rolls-Try xs None (Some ys) place)
    (opened (Statement-F.Try xs None (Some ys) place) a
    (both (both (all_well (within a) xs g) refl) (all_well (within a) ys h)))

pub try_both_well : (xs : List Statement) (c : CatchOf Statement) (ys : List Statement)
    (place : Place) (a : Around) → AllByRecursion (WellIn (within a)) xs
    → AllByRecursion (WellIn (within a)) c.body → AllByRecursion (WellIn (within a)) ys
    → WellIn a (s.Try xs (Some c) (Some ys) place)
try_both_well xs c ys place a f g h =
    subst (WellIn a) (rolls-Try xs (Some c) (Some ys) place)
    (opened (Statement-F.Try xs (Some c) (Some ys) place) a
    (both (both (all_well (within a) xs f) (all_well (within a) c.body g))
    (all_well (within a) ys h)))

pub function_well : (f : FunctionOf Statement) (a : Around) → a.at_top ≡ true
    → WellIn a (s.Function f)
function_well f a h =
    subst (WellIn a) (rolls-Function f) (opened (Statement-F.Statement::Function f) a h)

-- a clause of a `switch`
pub case_is_well : (x : Option Expression) (xs : List Statement) (place : Place) (a : Around)
    → AllByRecursion (WellIn a) xs → CaseWellIn a
    (roll-Case (record { test = x; body = xs; place = place }))
unfolding jumps_well
case_is_well x xs place a h =
    ap (λ (f : Judged). f a) (fold-roll-Case (Unit {0}) Judged Judged (λ expression. tt) jumps_step
    jumps_in_case (record { test = x; body = xs; place = place })) ∙ all_well a xs h
