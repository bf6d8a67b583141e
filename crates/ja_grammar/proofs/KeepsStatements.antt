-- A statement keeps the rules on trees where its parts do, and what is asked of itself holds.
use Rattle.std.proofs.Common.{◌≡◌, ◌≤◌, true, List, map, length, refl, ap, ap₂, subst, ◌∙◌, Option, Some, None}
use Rattle.std.specs.List.{AllByRecursion, filter}
use Rattle.ja_base.specs.declared.ids.Place.{Place}
use Rattle.ja_syntax.specs.declared.tree.Case.{Case, roll-Case}
use Rattle.ja_syntax.specs.declared.tree.CatchOf.{CatchOf}
use Rattle.ja_syntax.specs.declared.tree.Declaration.{Declaration}
use Rattle.ja_syntax.specs.declared.tree.Initialiser.{Initialiser}
use Rattle.ja_syntax.specs.declared.tree.ForFirst.{ForFirst}
use Rattle.ja_syntax.specs.declared.tree.ForFirst.TheVariants as first
use Rattle.ja_syntax.specs.declared.tree.ForTarget.TheVariants as target
use Rattle.ja_syntax.specs.declared.tree.FunctionOf.{FunctionOf}
use Rattle.ja_syntax.specs.declared.tree.Name.{Name}
use Rattle.ja_syntax.specs.declared.tree.Statement.{Statement, roll-Statement}
use Rattle.ja_syntax.specs.declared.tree.Statement.TheVariants as s
use Rattle.ja_syntax.specs.declared.tree.Statement.TheVariants.{rolls-Block, rolls-Variables, rolls-Empty, rolls-Expression, rolls-If, rolls-Do, rolls-While, rolls-For, rolls-ForIn, rolls-Continue, rolls-Break, rolls-Return, rolls-Labelled, rolls-Switch, rolls-Throw, rolls-Try, rolls-Function}
use Rattle.ja_syntax.specs.declared.tree.Expression.{Expression}
use Rattle.ja_syntax.specs.declared.tree.Expression.TheOpen.{Statement-F, Case-F}
use Rattle.ja_syntax.specs.declared.tree.Expression.TheFolds.{map-Statement, map-Case, every_made-Statement, every_made-Case}
use Rattle.ja_syntax.specs.code.Rules.{ExpressionKeepsRules, StatementKeepsRules, FunctionKeepsRules, TryKeepsRules, may_declare_all, first_may_declare, is_target, is_default}
use Rattle.ja_grammar.proofs.KeepsExpressions.{ExpressionKeeps, StatementKeeps, CaseKeepsRules, With, pairs, firsts, makes, made_of, function_with}

-- one level of a statement, whose parts come with the fact
abbrev Kept : Type 0
Kept = Statement-F (With ExpressionKeeps) (With StatementKeeps) (With CaseKeepsRules)

abbrev mapped : Kept → Statement-F Expression Statement Case
mapped y =
    map-Statement (With ExpressionKeeps) (With StatementKeeps) (With CaseKeepsRules) Expression
    Statement Case (λ p. p.0) (λ p. p.0) (λ p. p.0) y

made : (x : Statement-F Expression Statement Case) (y : Kept) → mapped y ≡ x → StatementKeepsRules x
    → StatementKeeps (roll-Statement x)
made x y same here =
    every_made-Statement ExpressionKeepsRules StatementKeepsRules (λ case. Unit {0}) x y same here

-- ---- forms without lists or optional parts

pub empty_keeps : (place : Place) → StatementKeeps (s.Empty place)
empty_keeps place =
    subst StatementKeeps (rolls-Empty place)
    (made (Statement-F.Empty place) (Statement-F.Empty place) refl tt)

pub expression_keeps : (x : Expression) (place : Place) → ExpressionKeeps x
    → StatementKeeps (s.Expression x place)
expression_keeps x place h =
    subst StatementKeeps (rolls-Expression x place)
    (made (Statement-F.Expression x place) (Statement-F.Expression (x, h) place) refl tt)

pub throw_keeps : (x : Expression) (place : Place) → ExpressionKeeps x
    → StatementKeeps (s.Throw x place)
throw_keeps x place h =
    subst StatementKeeps (rolls-Throw x place)
    (made (Statement-F.Throw x place) (Statement-F.Throw (x, h) place) refl tt)

pub if_keeps : (x : Expression) (y : Statement) (place : Place) → ExpressionKeeps x
    → StatementKeeps y → StatementKeeps (s.If x y None place)
if_keeps x y place f g =
    subst StatementKeeps (rolls-If x y None place)
    (made (Statement-F.If x y None place) (Statement-F.If (x, f) (y, g) None place) refl tt)

pub if_else_keeps : (x : Expression) (y z : Statement) (place : Place) → ExpressionKeeps x
    → StatementKeeps y → StatementKeeps z → StatementKeeps (s.If x y (Some z) place)
if_else_keeps x y z place f g h =
    subst StatementKeeps (rolls-If x y (Some z) place)
    (made (Statement-F.If x y (Some z) place) (Statement-F.If (x, f) (y, g) (Some (z, h)) place)
    refl tt)

pub do_keeps : (x : Statement) (y : Expression) (place : Place) → StatementKeeps x
    → ExpressionKeeps y → StatementKeeps (s.Do x y place)
do_keeps x y place f g =
    subst StatementKeeps (rolls-Do x y place)
    (made (Statement-F.Do x y place) (Statement-F.Do (x, f) (y, g) place) refl tt)

pub while_keeps : (x : Expression) (y : Statement) (place : Place) → ExpressionKeeps x
    → StatementKeeps y → StatementKeeps (s.While x y place)
while_keeps x y place f g =
    subst StatementKeeps (rolls-While x y place)
    (made (Statement-F.While x y place) (Statement-F.While (x, f) (y, g) place) refl tt)

pub labelled_keeps : (label : Name) (y : Statement) → StatementKeeps y
    → StatementKeeps (s.Labelled label y)
labelled_keeps label y g =
    subst StatementKeeps (rolls-Labelled label y)
    (made (Statement-F.Labelled label y) (Statement-F.Labelled label (y, g)) refl tt)

pub continue_keeps : (label : Option Name) (place : Place) → StatementKeeps (s.Continue label place)
continue_keeps label place =
    subst StatementKeeps (rolls-Continue label place)
    (made (Statement-F.Continue label place) (Statement-F.Continue label place) refl tt)

pub break_keeps : (label : Option Name) (place : Place) → StatementKeeps (s.Break label place)
break_keeps label place =
    subst StatementKeeps (rolls-Break label place)
    (made (Statement-F.Break label place) (Statement-F.Break label place) refl tt)

-- ---- an optional expression

abbrev pub OptionKeeps : Option Expression → Type 0
OptionKeeps None = Unit {0}
OptionKeeps (Some x) = ExpressionKeeps x

abbrev option_with : (x : Option Expression) → OptionKeeps x → Option (With ExpressionKeeps)
option_with None h = None
option_with (Some x) h = Some (x, h)

pub return_keeps : (x : Option Expression) (place : Place) → OptionKeeps x
    → StatementKeeps (s.Return x place)
return_keeps x place h =
    subst StatementKeeps (rolls-Return x place)
    (made (Statement-F.Return x place) (Statement-F.Return (option_with x h) place) (same x h) tt)
  where
    same : (x : Option Expression) (h : OptionKeeps x)
        → mapped (Statement-F.Return (option_with x h) place) ≡ Statement-F.Return x place
    same None h = refl
    same (Some x) h = refl

-- ---- lists

pub block_keeps : (xs : List Statement) (place : Place) → AllByRecursion StatementKeeps xs
    → StatementKeeps (s.Block xs place)
block_keeps xs place h =
    subst StatementKeeps (rolls-Block xs place)
    (made (Statement-F.Block xs place) (Statement-F.Block (pairs StatementKeeps xs h) place)
    (ap (λ ys. Statement-F.Block ys place) (firsts StatementKeeps xs h)) tt)

pub switch_keeps : (x : Expression) (cs : List Case) (place : Place) → ExpressionKeeps x
    → AllByRecursion CaseKeepsRules cs → length (filter is_default cs) ≤ 1
    → StatementKeeps (s.Switch x cs place)
switch_keeps x cs place f h few =
    subst StatementKeeps (rolls-Switch x cs place)
    (made (Statement-F.Switch x cs place) (Statement-F.Switch (x, f) (pairs CaseKeepsRules cs h)
    place) (ap (λ ys. Statement-F.Switch x ys place) (firsts CaseKeepsRules cs h)) few)

pub function_keeps : (f : FunctionOf Statement) → FunctionKeepsRules f
    → AllByRecursion StatementKeeps f.body → StatementKeeps (s.Function f)
function_keeps f rules h =
    subst StatementKeeps (rolls-Function f)
    (made (Statement-F.Statement::Function f) (Statement-F.Statement::Function (function_with f h))
    (ap (λ (ys : List Statement). Statement-F.Statement::Function
    (record { name = f.name; parameters = f.parameters; body = ys; place = f.place }))
    (firsts StatementKeeps f.body h)) rules)

-- a clause of a `switch`
pub case_keeps : (x : Option Expression) (xs : List Statement) (place : Place) → OptionKeeps x
    → AllByRecursion StatementKeeps xs → CaseKeepsRules
    (roll-Case (record { test = x; body = xs; place = place }))
case_keeps x xs place f h =
    every_made-Case ExpressionKeepsRules StatementKeepsRules (λ case. Unit {0})
    (record { test = x; body = xs; place = place })
    (record { test = option_with x f; body = pairs StatementKeeps xs h; place = place }) (same x f)
    tt
  where
    mapped_case : Case-F (With ExpressionKeeps) (With StatementKeeps) (With CaseKeepsRules)
        → Case-F Expression Statement Case
    mapped_case y =
        map-Case (With ExpressionKeeps) (With StatementKeeps) (With CaseKeepsRules) Expression
        Statement Case (λ p. p.0) (λ p. p.0) (λ p. p.0) y

    same : (x : Option Expression) (f : OptionKeeps x)
        → mapped_case (record {
          test = option_with x f;
          body = pairs StatementKeeps xs h;
          place = place;
        }) ≡ record { test = x; body = xs; place = place }
    same None f =
        ap (λ (ys : List Statement). record { test = None; body = ys; place = place })
        (firsts StatementKeeps xs h)
    same (Some x) f =
        ap (λ (ys : List Statement). record { test = Some x; body = ys; place = place })
        (firsts StatementKeeps xs h)

-- ---- `try`

abbrev pub CatchKeeps : CatchOf Statement → Type 0
CatchKeeps c = AllByRecursion StatementKeeps c.body

abbrev catch_with : (c : CatchOf Statement) → CatchKeeps c → CatchOf (With StatementKeeps)
catch_with c h = record { parameter = c.parameter; body = pairs StatementKeeps c.body h }

abbrev catch_of : Name → List Statement → CatchOf Statement
catch_of name xs = record { parameter = name; body = xs }

pub try_catch_keeps : (xs : List Statement) (c : CatchOf Statement) (place : Place)
    → AllByRecursion StatementKeeps xs → CatchKeeps c → TryKeepsRules (Some c) None
    → StatementKeeps (s.Try xs (Some c) None place)
try_catch_keeps xs c place f g rules =
    subst StatementKeeps (rolls-Try xs (Some c) None place)
    (made (Statement-F.Try xs (Some c) None place)
    (Statement-F.Try (pairs StatementKeeps xs f) (Some (catch_with c g)) None place)
    (ap₂ (λ ys zs. Statement-F.Try ys (Some (catch_of c.parameter zs)) None place)
    (firsts StatementKeeps xs f) (firsts StatementKeeps c.body g)) rules)

pub try_finally_keeps : (xs ys : List Statement) (place : Place) → AllByRecursion StatementKeeps xs
    → AllByRecursion StatementKeeps ys → TryKeepsRules None (Some ys)
    → StatementKeeps (s.Try xs None (Some ys) place)
try_finally_keeps xs ys place f g rules =
    subst StatementKeeps (rolls-Try xs None (Some ys) place)
    (made (Statement-F.Try xs None (Some ys) place)
    (Statement-F.Try (pairs StatementKeeps xs f) None (Some (pairs StatementKeeps ys g)) place)
    (ap₂ (λ us vs. Statement-F.Try us None (Some vs) place) (firsts StatementKeeps xs f)
    (firsts StatementKeeps ys g)) rules)

pub try_both_keeps : (xs : List Statement) (c : CatchOf Statement) (ys : List Statement)
    (place : Place) → AllByRecursion StatementKeeps xs → CatchKeeps c
    → AllByRecursion StatementKeeps ys → TryKeepsRules (Some c) (Some ys)
    → StatementKeeps (s.Try xs (Some c) (Some ys) place)
try_both_keeps xs c ys place f g h rules =
    subst StatementKeeps (rolls-Try xs (Some c) (Some ys) place)
    (made (Statement-F.Try xs (Some c) (Some ys) place)
    (Statement-F.Try (pairs StatementKeeps xs f) (Some (catch_with c g))
    (Some (pairs StatementKeeps ys h)) place)
    (ap₂ (λ us vs. Statement-F.Try us (Some (catch_of c.parameter vs))
    (Some (map (λ p. p.0) (pairs StatementKeeps ys h))) place) (firsts StatementKeeps xs f)
    (firsts StatementKeeps c.body g) ∙ ap (λ vs. Statement-F.Try xs (Some c) (Some vs) place)
    (firsts StatementKeeps ys h)) rules)

-- ---- declared variables

-- two levels of a statement are the same
abbrev Same : Statement-F Expression Statement Case → Statement-F Expression Statement Case → Type 0
Same x y = x ≡ y

abbrev pub InitialiserKeeps : Option (Initialiser Expression) → Type 0
InitialiserKeeps None = Unit {0}
InitialiserKeeps (Some i) = ExpressionKeeps i.value

abbrev initialiser_with : (i : Option (Initialiser Expression)) → InitialiserKeeps i
    → Option (Initialiser (With ExpressionKeeps))
initialiser_with None h = None
initialiser_with (Some i) h = Some (record { value = (i.value, h); place = i.place })

abbrev pub DeclarationKeeps : Declaration Expression → Type 0
DeclarationKeeps d = InitialiserKeeps d.initialiser

abbrev declaration_with : (d : Declaration Expression) → DeclarationKeeps d
    → Declaration (With ExpressionKeeps)
declaration_with d h = record { name = d.name; initialiser = initialiser_with d.initialiser h }

module _ (g : Declaration (With ExpressionKeeps) → Declaration Expression)
    (none : (n : Name) → g (record { name = n; initialiser = None })
    ≡ record { name = n; initialiser = None })
    (some : (n : Name) (v : With ExpressionKeeps) (p : Place)
    → g (record { name = n; initialiser = Some (record { value = v; place = p }) })
    ≡ record { name = n; initialiser = Some (record { value = v.0; place = p }) }) where
  declaration_is : (d : Declaration Expression) (h : DeclarationKeeps d)
      → g (declaration_with d h) ≡ d
  declaration_is d h = go d.initialiser h
    where
      go : (i : Option (Initialiser Expression)) (h : InitialiserKeeps i)
          → g (record { name = d.name; initialiser = initialiser_with i h })
          ≡ record { name = d.name; initialiser = i }
      go None h = none d.name
      go (Some i) h = some d.name (i.value, h) i.place

  variables_layer : (place : Place) (ds : List (Declaration Expression))
      (h : AllByRecursion DeclarationKeeps ds)
      → Same (Statement-F.Variables (map g (makes DeclarationKeeps declaration_with ds h)) place)
      (Statement-F.Variables ds place)
  variables_layer place ds h =
      ap (λ ys. Statement-F.Variables ys place)
      (made_of g DeclarationKeeps declaration_with declaration_is ds h)

  for_variables_layer : (c u : Option Expression) (body : Statement) (place : Place)
      (ds : List (Declaration Expression)) (h : AllByRecursion DeclarationKeeps ds)
      → Same (Statement-F.For (first.Variables
      (map g (makes DeclarationKeeps declaration_with ds h))) c u body place)
      (Statement-F.For (first.Variables ds) c u body place)
  for_variables_layer c u body place ds h =
      ap (λ ys. Statement-F.For (first.Variables ys) c u body place)
      (made_of g DeclarationKeeps declaration_with declaration_is ds h)

pub variables_keeps : (ds : List (Declaration Expression)) (place : Place)
    → AllByRecursion DeclarationKeeps ds → may_declare_all ds ≡ true
    → StatementKeeps (s.Variables ds place)
variables_keeps ds place h declares =
    subst StatementKeeps (rolls-Variables ds place)
    (made (Statement-F.Variables ds place) (Statement-F.Variables
    (makes DeclarationKeeps declaration_with ds h) place)
    (variables_layer _ (λ n. refl) (λ n v p. refl) place ds h) declares)

-- ---- `for`

abbrev pub FirstKeeps : ForFirst Expression → Type 0
FirstKeeps first.Nothing = Unit {0}
FirstKeeps (first.Expression x) = ExpressionKeeps x
FirstKeeps (first.Variables ds) = AllByRecursion DeclarationKeeps ds

abbrev first_with : (x : ForFirst Expression) → FirstKeeps x → ForFirst (With ExpressionKeeps)
first_with first.Nothing h = first.Nothing
first_with (first.Expression x) h = first.Expression (x, h)
first_with (first.Variables ds) h = first.Variables (makes DeclarationKeeps declaration_with ds h)

pub for_keeps : (x : ForFirst Expression) (c u : Option Expression) (body : Statement)
    (place : Place) → FirstKeeps x → OptionKeeps c → OptionKeeps u → StatementKeeps body
    → first_may_declare x ≡ true → StatementKeeps (s.For x c u body place)
for_keeps x c u body place f g k h declares =
    subst StatementKeeps (rolls-For x c u body place)
    (made (Statement-F.For x c u body place)
    (Statement-F.For (first_with x f) (option_with c g) (option_with u k) (body, h) place)
    (same x c u f g k) declares)
  where
    same : (x : ForFirst Expression) (c u : Option Expression) (f : FirstKeeps x)
        (g : OptionKeeps c) (k : OptionKeeps u)
        → mapped (Statement-F.For (first_with x f) (option_with c g) (option_with u k) (body, h)
        place) ≡ Statement-F.For x c u body place
    same first.Nothing None None f g k = refl
    same first.Nothing None (Some u) f g k = refl
    same first.Nothing (Some c) None f g k = refl
    same first.Nothing (Some c) (Some u) f g k = refl
    same (first.Expression x) None None f g k = refl
    same (first.Expression x) None (Some u) f g k = refl
    same (first.Expression x) (Some c) None f g k = refl
    same (first.Expression x) (Some c) (Some u) f g k = refl
    same (first.Variables ds) None None f g k =
        for_variables_layer _ (λ n. refl) (λ n v p. refl) None None body place ds f
    same (first.Variables ds) None (Some u) f g k =
        for_variables_layer _ (λ n. refl) (λ n v p. refl) None (Some u) body place ds f
    same (first.Variables ds) (Some c) None f g k =
        for_variables_layer _ (λ n. refl) (λ n v p. refl) (Some c) None body place ds f
    same (first.Variables ds) (Some c) (Some u) f g k =
        for_variables_layer _ (λ n. refl) (λ n v p. refl) (Some c) (Some u) body place ds f

pub for_reference_keeps : (x y : Expression) (body : Statement) (place : Place) → ExpressionKeeps x
    → ExpressionKeeps y → StatementKeeps body → is_target (target.Reference x) ≡ true
    → StatementKeeps (s.ForIn (target.Reference x) y body place)
for_reference_keeps x y body place f g h reference =
    subst StatementKeeps (rolls-ForIn (target.Reference x) y body place)
    (made (Statement-F.ForIn (target.Reference x) y body place)
    (Statement-F.ForIn (target.Reference (x, f)) (y, g) (body, h) place) refl reference)

pub for_variable_keeps : (d : Declaration Expression) (y : Expression) (body : Statement)
    (place : Place) → DeclarationKeeps d → ExpressionKeeps y → StatementKeeps body
    → is_target (target.Variable d) ≡ true → StatementKeeps
    (s.ForIn (target.Variable d) y body place)
for_variable_keeps d y body place f g h declares =
    subst StatementKeeps (rolls-ForIn (target.Variable d) y body place)
    (made (Statement-F.ForIn (target.Variable d) y body place)
    (Statement-F.ForIn (target.Variable (declaration_with d f)) (y, g) (body, h) place)
    (same d.initialiser f) declares)
  where
    same : (i : Option (Initialiser Expression)) (f : InitialiserKeeps i)
        → mapped (Statement-F.ForIn (target.Variable
        (record { name = d.name; initialiser = initialiser_with i f })) (y, g) (body, h) place)
        ≡ Statement-F.ForIn (target.Variable (record { name = d.name; initialiser = i })) y body
        place
    same None f = refl
    same (Some i) f = refl
