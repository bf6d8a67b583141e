-- The variables that a body declares are among the names of its text.
use Rattle.std.proofs.Common.{◌≡◌, ℕ, Bool, true, false, not, cond, List, [], ◌∷◌, ◌++◌, map, Some, None, refl, sym, subst}
use Rattle.std.specs.List.{AllByRecursion, filter, flat_map}
use Rattle.std.specs.Str.{bytes_eq}
use Rattle.ja_base.proofs.Lists.{all_append, all_left, all_right}
use Rattle.ja_syntax.specs.Hoisted.{Texts, nothing, variables_step, variables_in_case, variables_of, declared_names, once, hoisted_variables}
use Rattle.ja_syntax.specs.code.Hoisted.{case_variables}
use Rattle.ja_syntax.specs.declared.tree.Declaration.{Declaration}
use Rattle.ja_syntax.specs.declared.tree.ForFirst.TheVariants as first
use Rattle.ja_syntax.specs.declared.tree.ForTarget.TheVariants as target
use Rattle.ja_syntax.specs.declared.tree.Name.{Name}
use Rattle.ja_syntax.specs.declared.tree.Case.{Case, roll-Case}
use Rattle.ja_syntax.specs.declared.tree.Statement.{Statement, roll-Statement}
use Rattle.ja_syntax.specs.declared.tree.Expression.{Expression}
use Rattle.ja_syntax.specs.declared.tree.Expression.TheOpen.{Statement-F, Case-F}
use Rattle.ja_syntax.specs.declared.tree.Expression.TheFolds.{fold-Expression, fold-roll-Statement, fold-roll-Case, para-roll-Case, ind-Statement, map-Statement, map-Case}
use Rattle.ja_lower_names.specs.TextOrder.{Parts, if_any, in_name, in_initialiser, in_declaration, expression_step, statement_step, case_step, in_statement}
use Rattle.ja_lower_names.specs.code.TextOrder.{in_expression, in_case}
use Rattle.ja_lower_names.proofs.TextOrderLemmas.{Expressions, Statements, Cases, statement_layer, case_layer, statement_opened}
use Rattle.ja_lower_ranges.proofs.Holding.{Text, ReachesName, Reaches, ReachesAll}

-- where the parts of a text are reached, each of the names is
record Tells (parts : Parts) (names : Texts) : Type 0 where
  told : (t : Text) → ReachesAll t parts → AllByRecursion (ReachesName t) names

tells_nothing : (parts : Parts) → Tells parts []
tells_nothing parts = record { told = λ t has. tt }

tells_both : (first second : Parts) (before behind : Texts) → Tells first before
    → Tells second behind → Tells (first ++ second) (before ++ behind)
tells_both first second before behind h i = record {
  told = λ t has.
      all_append (ReachesName t) before behind
      (h.told t (all_left (Reaches t) first second has))
      (i.told t (all_right (Reaches t) first second has));
}

tells_first : (first second : Parts) (names : Texts) → Tells first names
    → Tells (first ++ second) names
tells_first first second names h =
    record { told = λ t has. h.told t (all_left (Reaches t) first second has) }

tells_second : (first second : Parts) (names : Texts) → Tells second names
    → Tells (first ++ second) names
tells_second first second names h =
    record { told = λ t has. h.told t (all_right (Reaches t) first second has) }

tells_name : (n : Name) → Tells (in_name n) (n.text ∷ [])
tells_name n = record { told = λ t has. (has.0 refl, tt) }

-- ---- a level, in which each statement stands with the fact

abbrev Free : Type 0
Free = (e : Expression) × Unit {0}

abbrev Proved : Type 0
Proved = (x : Statement) × Tells (in_statement x) (variables_of x)

abbrev ProvedCase : Type 0
ProvedCase = (c : Case) × Tells (in_case c) (case_variables c)

abbrev below : Statement-F Free Proved ProvedCase → Statement-F Expression Statement Case
below =
    map-Statement Free Proved ProvedCase Expression Statement Case (λ e. e.0) (λ x. x.0) (λ c. c.0)

abbrev below_case : Case-F Free Proved ProvedCase → Case-F Expression Statement Case
below_case =
    map-Case Free Proved ProvedCase Expression Statement Case (λ e. e.0) (λ x. x.0) (λ c. c.0)

abbrev no_names : Expression → Unit {0}
no_names = fold-Expression (Unit {0}) Texts Texts nothing variables_step variables_in_case

abbrev names_layer : Statement-F Expression Statement Case → Statement-F (Unit {0}) Texts Texts
names_layer =
    map-Statement Expression Statement Case (Unit {0}) Texts Texts no_names variables_of
    case_variables

abbrev case_names_layer : Case-F Expression Statement Case → Case-F (Unit {0}) Texts Texts
case_names_layer =
    map-Case Expression Statement Case (Unit {0}) Texts Texts no_names variables_of case_variables

-- what holds of each element of a list holds of the whole
tells_each : {A B C D : Type 0} (inner : C → Parts) (names : D → Texts) (f : A → B) (j : B → C)
    (k : B → D) → ((x : A) → Tells (inner (j (f x))) (names (k (f x)))) → (xs : List A)
    → Tells (flat_map inner (map j (map f xs))) (flat_map names (map k (map f xs)))
tells_each inner names f j k each [] = tells_nothing []
tells_each inner names f j k each (x ∷ xs) =
    tells_both (inner (j (f x))) (flat_map inner (map j (map f xs))) (names (k (f x)))
    (flat_map names (map k (map f xs))) (each x) (tells_each inner names f j k each xs)

tells_statements : (xs : List Proved) → Tells
    (flat_map (λ (s : Statements). s.1) (map (λ x. (x, in_statement x))
    (map (λ (x : Proved). x.0) xs))) (flat_map (λ (names : Texts). names)
    (map variables_of (map (λ (x : Proved). x.0) xs)))
tells_statements xs =
    tells_each (λ (s : Statements). s.1) (λ (names : Texts). names) (λ (x : Proved). x.0)
    (λ x. (x, in_statement x)) variables_of (λ x. x.1) xs

module _ {A B C D : Type 0} (inner : C → Parts) (f : Declaration A → Declaration B)
    (j : Declaration B → Declaration C) (k : Declaration B → Declaration D)
    (same : (d : Declaration A) → (j (f d)).name.text ≡ (k (f d)).name.text) where
  tells_declarations : (ds : List (Declaration A))
      → Tells (flat_map (in_declaration inner) (map j (map f ds)))
      (declared_names (map k (map f ds)))
  tells_declarations [] = tells_nothing []
  tells_declarations (d ∷ ds) =
      let one = tells_first (in_name (j (f d)).name)
      (if_any (in_initialiser inner) (j (f d)).initialiser) ((j (f d)).name.text ∷ [])
      (tells_name (j (f d)).name) in
      tells_both (in_declaration inner (j (f d)))
      (flat_map (in_declaration inner) (map j (map f ds))) ((k (f d)).name.text ∷ [])
      (declared_names (map k (map f ds)))
      (subst (λ t. Tells (in_declaration inner (j (f d))) (t ∷ [])) (same d) one)
      (tells_declarations ds)

tells_cases : (cs : List ProvedCase) → Tells
    (flat_map (λ (c : Cases). c.1) (map (λ x. (x, in_case x)) (map (λ (c : ProvedCase). c.0) cs)))
    (flat_map (λ (names : Texts). names) (map case_variables (map (λ (c : ProvedCase). c.0) cs)))
tells_cases cs =
    tells_each (λ (c : Cases). c.1) (λ (names : Texts). names) (λ (c : ProvedCase). c.0)
    (λ x. (x, in_case x)) case_variables (λ c. c.1) cs

-- a loop with a head
tells_loop : (head condition update body : Parts) (before behind : Texts) → Tells head before
    → Tells body behind → Tells (head ++ (condition ++ (update ++ body))) (before ++ behind)
tells_loop head condition update body before behind h i =
    tells_both head (condition ++ (update ++ body)) before behind h
    (tells_second condition (update ++ body) behind (tells_second update body behind i))

tells_level : (y : Statement-F Free Proved ProvedCase)
    → Tells (statement_step (statement_layer (below y))) (variables_step (names_layer (below y)))
tells_level (Statement-F.Block body place) = tells_statements body
tells_level (Statement-F.Variables declarations place) =
    tells_declarations (λ (e : Expressions). e.1) _ _ _ (λ d. refl) declarations
tells_level (Statement-F.Empty place) = tells_nothing _
tells_level (Statement-F.Expression value place) = tells_nothing _
tells_level (Statement-F.If c x None place) =
    tells_second (in_expression c.0) _ _ (tells_both (in_statement x.0) [] (variables_of x.0) [] x.1
    (tells_nothing []))
tells_level (Statement-F.If c x (Some y) place) =
    tells_second (in_expression c.0) _ _ (tells_both (in_statement x.0) (in_statement y.0)
    (variables_of x.0) (variables_of y.0) x.1 y.1)
tells_level (Statement-F.Do x c place) = tells_first (in_statement x.0) _ _ x.1
tells_level (Statement-F.While c x place) = tells_second (in_expression c.0) _ _ x.1
tells_level (Statement-F.For first.Nothing c u x place) =
    tells_loop [] _ _ _ [] _ (tells_nothing []) x.1
tells_level (Statement-F.For (first.Expression value) c u x place) =
    tells_loop (in_expression value.0) _ _ _ [] _ (tells_nothing (in_expression value.0)) x.1
tells_level (Statement-F.For (first.Variables declarations) c u x place) =
    tells_loop _ _ _ _ _ _ (tells_declarations (λ (e : Expressions). e.1) _ _ _ (λ d. refl)
    declarations) x.1
tells_level (Statement-F.ForIn (target.Variable d) object x place) =
    tells_both _ _ (d.name.text ∷ []) _ (tells_first (in_name d.name) _ _ (tells_name d.name))
    (tells_second (in_expression object.0) _ _ x.1)
tells_level (Statement-F.ForIn (target.Reference value) object x place) =
    tells_second (in_expression value.0) _ _ (tells_second (in_expression object.0) _ _ x.1)
tells_level (Statement-F.Continue label place) = tells_nothing _
tells_level (Statement-F.Break label place) = tells_nothing _
tells_level (Statement-F.Return value place) = tells_nothing _
tells_level (Statement-F.Labelled label x) = x.1
tells_level (Statement-F.Switch value cases place) =
    tells_second (in_expression value.0) _ _ (tells_cases cases)
tells_level (Statement-F.Throw value place) = tells_nothing _
tells_level (Statement-F.Try block None None place) =
    tells_both _ _ _ _ (tells_statements block) (tells_nothing [])
tells_level (Statement-F.Try block None (Some finally) place) =
    tells_both _ _ _ _ (tells_statements block) (tells_statements finally)
tells_level (Statement-F.Try block (Some caught) None place) =
    tells_both _ _ _ _ (tells_statements block)
    (tells_both _ [] _ [] (tells_second (in_name caught.parameter) _ _
    (tells_statements caught.body)) (tells_nothing []))
tells_level (Statement-F.Try block (Some caught) (Some finally) place) =
    tells_both _ _ _ _ (tells_statements block)
    (tells_both _ _ _ _ (tells_second (in_name caught.parameter) _ _
    (tells_statements caught.body)) (tells_statements finally))
tells_level (Statement-F.Statement::Function f) = tells_nothing _

tells_case : (y : Case-F Free Proved ProvedCase)
    → Tells (case_step (case_layer (below_case y)))
    (variables_in_case (case_names_layer (below_case y)))
tells_case y = tells_second _ _ _ (tells_statements y.body)

statement_told : (x : Statement-F Expression Statement Case)
    → Tells (statement_step (statement_layer x)) (variables_step (names_layer x))
    → Tells (in_statement (roll-Statement x)) (variables_of (roll-Statement x))
statement_told x h =
    subst (λ ns. Tells (in_statement (roll-Statement x)) ns)
    (sym (fold-roll-Statement (Unit {0}) Texts Texts nothing variables_step variables_in_case
    x))
    (subst (λ ps. Tells ps (variables_step (names_layer x))) (sym (statement_opened x)) h)

case_told : (x : Case-F Expression Statement Case)
    → Tells (case_step (case_layer x)) (variables_in_case (case_names_layer x))
    → Tells (in_case (roll-Case x)) (case_variables (roll-Case x))
unfolding in_expression in_statement in_case
case_told x h =
    subst (λ ns. Tells (in_case (roll-Case x)) ns)
    (sym (fold-roll-Case (Unit {0}) Texts Texts nothing variables_step variables_in_case x))
    (subst (λ ps. Tells ps (variables_in_case (case_names_layer x)))
    (sym (para-roll-Case Parts Parts Parts expression_step statement_step case_step x)) h)

tells_variables : (x : Statement) → Tells (in_statement x) (variables_of x)
tells_variables =
    ind-Statement (λ (e : Expression). Unit {0}) (λ x. Tells (in_statement x) (variables_of x))
    (λ c. Tells (in_case c) (case_variables c))
    (λ x y is. tt)
    (λ x y is. subst (λ z. Tells (in_statement (roll-Statement z))
    (variables_of (roll-Statement z))) is (statement_told (below y) (tells_level y)))
    (λ x y is. subst (λ z. Tells (in_case (roll-Case z)) (case_variables (roll-Case z))) is
    (case_told (below_case y) (tells_case y)))

-- ---- bodies

all_filtered : {X : Type 0} (P : X → Type 0) (p : X → Bool) (xs : List X) → AllByRecursion P xs
    → AllByRecursion P (filter p xs)
all_filtered P p [] all = tt
all_filtered P p (x ∷ xs) all = at_head (p x) (all_filtered P p xs all.1)
  where
    at_head : (b : Bool) → AllByRecursion P (filter p xs)
        → AllByRecursion P (cond b (x ∷ filter p xs) (filter p xs))
    at_head true rest = (all.0, rest)
    at_head false rest = rest

all_once : (P : List ℕ → Type 0) (ts : Texts) → AllByRecursion P ts → AllByRecursion P (once ts)
unfolding once
all_once P [] all = tt
all_once P (t ∷ ts) all =
    (all.0, all_filtered P (λ u. not (bytes_eq t u)) (once ts) (all_once P ts all.1))

tells_body : (xs : List Statement) → Tells (flat_map in_statement xs) (flat_map variables_of xs)
tells_body [] = tells_nothing []
tells_body (x ∷ xs) =
    tells_both (in_statement x) (flat_map in_statement xs) (variables_of x)
    (flat_map variables_of xs) (tells_variables x) (tells_body xs)

-- where a body is reached, each variable that it declares is
pub hoisted_reached : (t : Text) (statements : List Statement)
    → ReachesAll t (flat_map in_statement statements)
    → AllByRecursion (ReachesName t) (hoisted_variables statements)
unfolding hoisted_variables
hoisted_reached t statements has =
    all_once (ReachesName t) (flat_map variables_of statements) ((tells_body statements).told t has)
