-- What each statement lists holds, where its names and functions are reached.
use Rattle.std.proofs.Common.{◌≡◌, ℕ, List, [], ◌∷◌, ◌++◌, map, Option, Some, None, ap, sym, ◌∙◌, subst}
use Rattle.std.specs.List.{AllByRecursion, flat_map}
use Rattle.std.specs.Option.{option_map}
use Rattle.ja_base.specs.declared.ids.Place.{Place}
use Rattle.ja_base.proofs.Lists.{all_left, all_right}
use Rattle.ja_syntax.specs.declared.tree.CatchOf.{CatchOf}
use Rattle.ja_syntax.specs.declared.tree.Declaration.{Declaration}
use Rattle.ja_syntax.specs.declared.tree.Initialiser.{Initialiser}
use Rattle.ja_syntax.specs.declared.tree.ForFirst.{ForFirst}
use Rattle.ja_syntax.specs.declared.tree.ForFirst.TheVariants as first
use Rattle.ja_syntax.specs.declared.tree.ForTarget.{ForTarget}
use Rattle.ja_syntax.specs.declared.tree.ForTarget.TheVariants as target
use Rattle.ja_syntax.specs.declared.tree.Case.{Case, out-Case}
use Rattle.ja_syntax.specs.declared.tree.Statement.{Statement, roll-Statement}
use Rattle.ja_syntax.specs.declared.tree.Statement.TheVariants.{rolls-Block, rolls-Variables, rolls-Empty, rolls-Expression, rolls-If, rolls-Do, rolls-While, rolls-For, rolls-ForIn, rolls-Continue, rolls-Break, rolls-Return, rolls-Labelled, rolls-Switch, rolls-Throw, rolls-Try, rolls-Function}
use Rattle.ja_syntax.specs.declared.tree.Expression.{Expression}
use Rattle.ja_syntax.specs.declared.tree.Expression.TheOpen.{Statement-F, Case-F}
use Rattle.ja_syntax.specs.declared.tree.Expression.TheFolds.{map-Statement, ind-Statement}
use Rattle.ja_lower_expressions.specs.Expressions.{form}
use Rattle.ja_lower_draft.specs.Lines.{Listing}
use Rattle.ja_lower_statements.specs.Statements.{Around, Does, does, label_text}
use Rattle.ja_lower_statements.specs.code.Statements.{clause_of, declaration_of, initialiser_of, for_first_of, target_of, catch_of}
use Rattle.ja_lower_statements.specs.Ways.{break_target, continue_target}
use Rattle.ja_lower_statements.proofs.StatementLemmas.{does_block, does_variables, does_empty, does_expression, does_if_alone, does_if_else, does_do, does_while, does_for, does_for_in, does_continue, does_break, does_return, does_labelled, does_switch, does_throw, does_try, does_function}
use Rattle.ja_lower_names.specs.TextOrder.{Parts, if_any, in_name, in_initialiser, in_declaration, in_first, in_target, in_catch, in_statement}
use Rattle.ja_lower_names.specs.code.TextOrder.{in_expression, in_case}
use Rattle.ja_lower_names.proofs.TextOrderLemmas.{of_case, of_block, of_variables, of_empty, of_value, of_if, of_do, of_while, of_for, of_for_in, of_continue, of_break, of_return, of_labelled, of_switch, of_throw, of_try, of_declared}
use Rattle.ja_lower_ranges.proofs.Holding.{Text, Reaches, ReachesAll, Holds, HoldsForm, holds_restarted}
use Rattle.ja_lower_ranges.proofs.HoldingExpressions.{holds_form}
use Rattle.ja_lower_ranges.proofs.HoldingOperands.{holds_value_of}
use Rattle.ja_lower_ranges.proofs.HoldingStatements.{around_at, from_on, HoldsDoes, HoldAll, IfAny, HoldsInitialiser, HoldsDeclaration, HoldsFirst, HoldsTarget, HoldsClause, HoldsCatch, holds_all, holds_declare_all, holds_throw, holds_jump_to, holds_if, holds_do, holds_while, holds_for, holds_for_in, holds_return, holds_labelled, holds_switch, holds_try}
use Rattle.ja_lower_ranges.proofs.SpotWays.{break_goes, continue_goes}

module _ (t : Text) where
  abbrev HoldsAt : Statement → Type 0
  HoldsAt x = ReachesAll t (in_statement x) → HoldsDoes t (does x)

  abbrev BodyHolds : Case → Type 0
  BodyHolds case = AllByRecursion HoldsAt (out-Case case).body

  -- the parts of a whole
  apart : (first second : Parts) → ReachesAll t (first ++ second)
      → ReachesAll t first × ReachesAll t second
  apart first second has =
      (all_left (Reaches t) first second has, all_right (Reaches t) first second has)

  each_does : (xs : List Statement) → AllByRecursion HoldsAt xs
      → ReachesAll t (flat_map in_statement xs) → HoldAll t (map does xs)
  each_does [] fine has = tt
  each_does (x ∷ xs) fine has =
      let p = apart (in_statement x) (flat_map in_statement xs) has in
      (fine.0 p.0, each_does xs fine.1 p.1)

  -- ---- the parts of a statement

  any_form : (o : Option Expression) → ReachesAll t (if_any in_expression o)
      → IfAny (HoldsForm t) (option_map form o)
  any_form None has = tt
  any_form (Some e) has = holds_form t e has

  any_initialiser : (o : Option (Initialiser Expression))
      → ReachesAll t (if_any (in_initialiser in_expression) o)
      → IfAny (HoldsInitialiser t) (option_map initialiser_of o)
  any_initialiser None has = tt
  any_initialiser (Some i) has = holds_form t i.value has

  one_declaration : (d : Declaration Expression) → ReachesAll t (in_declaration in_expression d)
      → HoldsDeclaration t (declaration_of d)
  one_declaration d has =
      let p = apart (in_name d.name) (if_any (in_initialiser in_expression) d.initialiser) has in
      (p.0, any_initialiser d.initialiser p.1)

  each_declaration : (ds : List (Declaration Expression))
      → ReachesAll t (flat_map (in_declaration in_expression) ds)
      → AllByRecursion (HoldsDeclaration t) (map declaration_of ds)
  each_declaration [] has = tt
  each_declaration (d ∷ ds) has =
      let p = apart (in_declaration in_expression d)
      (flat_map (in_declaration in_expression) ds) has in
      (one_declaration d p.0, each_declaration ds p.1)

  any_first : (f : ForFirst Expression) → ReachesAll t (in_first in_expression f)
      → HoldsFirst t (for_first_of f)
  any_first first.Nothing has = tt
  any_first (first.Expression value) has = holds_form t value has
  any_first (first.Variables ds) has = each_declaration ds has

  any_target : (goal : ForTarget Expression) → ReachesAll t (in_target in_expression goal)
      → HoldsTarget t (target_of goal)
  any_target (target.Variable d) has = one_declaration d has
  any_target (target.Reference value) has = holds_form t value has

  each_clause : (cs : List Case) → AllByRecursion BodyHolds cs
      → ReachesAll t (flat_map in_case cs) → AllByRecursion (HoldsClause t) (map clause_of cs)
  each_clause [] fine has = tt
  each_clause (c ∷ cs) fine has =
      let p = apart (in_case c) (flat_map in_case cs) has in
      let q = apart (if_any in_expression (out-Case c).test)
      (flat_map in_statement (out-Case c).body) (subst (ReachesAll t) (of_case [] c) p.0) in (
        (any_form (out-Case c).test q.0, each_does (out-Case c).body fine.0 q.1),
        each_clause cs fine.1 p.1,
      )

  any_catch : (o : Option (CatchOf Statement))
      → IfAny (λ (c : CatchOf Statement). AllByRecursion HoldsAt c.body) o
      → ReachesAll t (if_any (in_catch in_statement) o)
      → IfAny (HoldsCatch t) (option_map catch_of o)
  any_catch None fine has = tt
  any_catch (Some caught) fine has =
      let p = apart (in_name caught.parameter) (flat_map in_statement caught.body) has in
      (p.0, each_does caught.body fine p.1)

  any_finally : (o : Option (List Statement)) → IfAny (AllByRecursion HoldsAt) o
      → ReachesAll t (if_any (flat_map in_statement) o)
      → IfAny (HoldAll t) (option_map (map does) o)
  any_finally None fine has = tt
  any_finally (Some xs) fine has = each_does xs fine has

  -- ---- induction: each statement inside stands with the fact

  -- a statement that is written so, has these parts and is listed like this
  listed_as : {x y : Statement} {d : Does} {parts : Parts} → x ≡ y → in_statement y ≡ parts
      → ((a : Around) (b : ℕ) (l : Listing) → does y a b l ≡ d a b l)
      → (ReachesAll t parts → HoldsDoes t d) → HoldsAt x
  listed_as written parts listed fine has handler ks l ways labels base w set h =
      subst (Holds (from_on t handler ks l))
      (sym (ap (λ x. does x (around_at t handler ways labels) base l) written
      ∙ listed (around_at t handler ways labels) base l))
      (fine (subst (ReachesAll t) (ap in_statement written ∙ parts) has) handler ks l ways labels
      base w set h)

  abbrev Free : Type 0
  Free = (e : Expression) × Unit {0}

  abbrev Proved : Type 0
  Proved = (x : Statement) × HoldsAt x

  abbrev ProvedCase : Type 0
  ProvedCase = (c : Case) × BodyHolds c

  abbrev below : Statement-F Free Proved ProvedCase → Statement-F Expression Statement Case
  below =
      map-Statement Free Proved ProvedCase Expression Statement Case (λ e. e.0) (λ x. x.0)
      (λ c. c.0)

  each_proved : (xs : List Proved) → AllByRecursion HoldsAt (map (λ (x : Proved). x.0) xs)
  each_proved [] = tt
  each_proved (x ∷ xs) = (x.1, each_proved xs)

  each_case : (cs : List ProvedCase) → AllByRecursion BodyHolds (map (λ (c : ProvedCase). c.0) cs)
  each_case [] = tt
  each_case (c ∷ cs) = (c.1, each_case cs)

  try_holds : (block : List Statement) (caught : Option (CatchOf Statement))
      (finally : Option (List Statement)) (place : Place) → AllByRecursion HoldsAt block
      → IfAny (λ (c : CatchOf Statement). AllByRecursion HoldsAt c.body) caught
      → IfAny (AllByRecursion HoldsAt) finally
      → HoldsAt (roll-Statement (Statement-F.Try block caught finally place))
  try_holds block caught finally place hb hc hf =
      listed_as (rolls-Try block caught finally place) (of_try [] block caught finally place)
      (does_try block caught finally place)
      (λ has. let first = flat_map in_statement block in
      let second = if_any (in_catch in_statement) caught in
      let p = apart (first ++ second) (if_any (flat_map in_statement) finally) has in
      let q = apart first second p.0 in
      holds_try (map does block) (option_map catch_of caught) (option_map (map does) finally) place
      (each_does block hb q.0) (any_catch caught hc q.1) (any_finally finally hf p.1))

  for_holds : (f : ForFirst Expression) (c u : Option Expression) (x : Statement) (place : Place)
      → HoldsAt x → HoldsAt (roll-Statement (Statement-F.For f c u x place))
  for_holds f c u x place fine =
      listed_as (rolls-For f c u x place) (of_for [] f c u x place) (does_for f c u x place)
      (λ has. let first = in_first in_expression f in
      let condition = if_any in_expression c in
      let update = if_any in_expression u in
      let p = apart ((first ++ condition) ++ update) (in_statement x) has in
      let q = apart (first ++ condition) update p.0 in
      let r = apart first condition q.0 in
      holds_for (for_first_of f) (option_map form c) (option_map form u) (does x) place
      (any_first f r.0) (any_form c r.1) (any_form u q.1) (fine p.1))

  for_in_holds : (goal : ForTarget Expression) (object : Expression) (x : Statement) (place : Place)
      → HoldsAt x → HoldsAt (roll-Statement (Statement-F.ForIn goal object x place))
  for_in_holds goal object x place fine =
      listed_as (rolls-ForIn goal object x place) (of_for_in [] goal object x place)
      (does_for_in goal object x place)
      (λ has. let goals = in_target in_expression goal in
      let p = apart (goals ++ in_expression object) (in_statement x) has in
      let q = apart goals (in_expression object) p.0 in
      holds_for_in (target_of goal) (form object) (does x) place (any_target goal q.0)
      (holds_form t object q.1) (fine p.1))

  return_holds : (value : Option Expression) (place : Place)
      → HoldsAt (roll-Statement (Statement-F.Return value place))
  return_holds value place =
      listed_as (rolls-Return value place) (of_return [] value place) (does_return value place)
      (λ has. holds_return (option_map form value) place (any_form value has))

  layer_holds : (y : Statement-F Free Proved ProvedCase) → HoldsAt (roll-Statement (below y))
  layer_holds (Statement-F.Block body place) =
      listed_as (rolls-Block _ place) (of_block [] _ place) (does_block _ place)
      (λ has. holds_all _ (each_does _ (each_proved body) has))
  layer_holds (Statement-F.Variables ds place) =
      listed_as (rolls-Variables _ place) (of_variables [] _ place) (does_variables _ place)
      (λ has handler ks l ways labels base w set h.
      holds_declare_all _ base l (each_declaration _ has) set h)
  layer_holds (Statement-F.Empty place) =
      listed_as (rolls-Empty place) (of_empty [] place) (does_empty place)
      (λ has handler ks l ways labels base w set h. h)
  layer_holds (Statement-F.Expression x place) =
      listed_as (rolls-Expression x.0 place) (of_value [] x.0 place) (does_expression x.0 place)
      (λ has handler ks l ways labels base w set h.
      (holds_value_of (form x.0) (holds_form t x.0 has) (holds_restarted base set h)).listing)
  layer_holds (Statement-F.If c x None place) =
      listed_as (rolls-If c.0 x.0 None place) (of_if [] c.0 x.0 None place)
      (does_if_alone c.0 x.0 place)
      (λ has. let p = apart (in_expression c.0) (in_statement x.0)
      (apart (in_expression c.0 ++ in_statement x.0) [] has).0 in
      holds_if (form c.0) (does x.0) None place (holds_form t c.0 p.0) (x.1 p.1) tt)
  layer_holds (Statement-F.If c x (Some y) place) =
      listed_as (rolls-If c.0 x.0 (Some y.0) place) (of_if [] c.0 x.0 (Some y.0) place)
      (does_if_else c.0 x.0 y.0 place)
      (λ has. let q = apart (in_expression c.0 ++ in_statement x.0) (in_statement y.0) has in
      let p = apart (in_expression c.0) (in_statement x.0) q.0 in
      holds_if (form c.0) (does x.0) (Some (does y.0)) place (holds_form t c.0 p.0) (x.1 p.1)
      (y.1 q.1))
  layer_holds (Statement-F.Do x c place) =
      listed_as (rolls-Do x.0 c.0 place) (of_do [] x.0 c.0 place) (does_do x.0 c.0 place)
      (λ has. let p = apart (in_statement x.0) (in_expression c.0) has in
      holds_do (does x.0) (form c.0) place (x.1 p.0) (holds_form t c.0 p.1))
  layer_holds (Statement-F.While c x place) =
      listed_as (rolls-While c.0 x.0 place) (of_while [] c.0 x.0 place) (does_while c.0 x.0 place)
      (λ has. let p = apart (in_expression c.0) (in_statement x.0) has in
      holds_while (form c.0) (does x.0) place (holds_form t c.0 p.0) (x.1 p.1))
  layer_holds (Statement-F.For f c u x place) = for_holds _ _ _ x.0 place x.1
  layer_holds (Statement-F.ForIn goal object x place) = for_in_holds _ object.0 x.0 place x.1
  layer_holds (Statement-F.Continue label place) =
      listed_as (rolls-Continue label place) (of_continue [] label place)
      (does_continue label place)
      (λ has handler ks l ways labels base w set h.
      holds_jump_to place (continue_target (label_text label)) (continue_goes (label_text label)) w
      h)
  layer_holds (Statement-F.Break label place) =
      listed_as (rolls-Break label place) (of_break [] label place) (does_break label place)
      (λ has handler ks l ways labels base w set h.
      holds_jump_to place (break_target (label_text label)) (break_goes (label_text label)) w h)
  layer_holds (Statement-F.Return value place) = return_holds _ place
  layer_holds (Statement-F.Labelled label x) =
      listed_as (rolls-Labelled label x.0) (of_labelled [] label x.0) (does_labelled label x.0)
      (λ has. holds_labelled label (does x.0) (x.1 has))
  layer_holds (Statement-F.Switch value cs place) =
      listed_as (rolls-Switch value.0 _ place) (of_switch [] value.0 _ place)
      (does_switch value.0 _ place)
      (λ has. let p = apart (in_expression value.0) _ has in
      holds_switch (form value.0) _ place (holds_form t value.0 p.0)
      (each_clause _ (each_case cs) p.1))
  layer_holds (Statement-F.Throw value place) =
      listed_as (rolls-Throw value.0 place) (of_throw [] value.0 place) (does_throw value.0 place)
      (λ has handler ks l ways labels base w set h.
      holds_throw (form value.0) place base (holds_form t value.0 has) set h)
  layer_holds (Statement-F.Try block None None place) =
      try_holds _ None None place (each_proved block) tt tt
  layer_holds (Statement-F.Try block (Some caught) None place) =
      try_holds _ (Some _) None place (each_proved block) (each_proved caught.body) tt
  layer_holds (Statement-F.Try block None (Some finally) place) =
      try_holds _ None (Some _) place (each_proved block) tt (each_proved finally)
  layer_holds (Statement-F.Try block (Some caught) (Some finally) place) =
      try_holds _ (Some _) (Some _) place (each_proved block) (each_proved caught.body)
      (each_proved finally)
  layer_holds (Statement-F.Statement::Function f) =
      listed_as (rolls-Function _) (of_declared [] _) (does_function _)
      (λ has handler ks l ways labels base w set h. h)

  holds_does : (x : Statement) → HoldsAt x
  holds_does = ind-Statement (λ (e : Expression). Unit {0}) HoldsAt BodyHolds
      (λ x y is. tt)
      (λ x y is. subst (λ z. HoldsAt (roll-Statement z)) is (layer_holds y))
      (λ x y is. subst (λ (z : Case-F Expression Statement Case). AllByRecursion HoldsAt z.body) is
      (each_proved y.body))

  pub each_holds : (xs : List Statement) → ReachesAll t (flat_map in_statement xs)
      → HoldAll t (map does xs)
  each_holds [] has = tt
  each_holds (x ∷ xs) has =
      let p = apart (in_statement x) (flat_map in_statement xs) has in
      (holds_does x p.0, each_holds xs p.1)
