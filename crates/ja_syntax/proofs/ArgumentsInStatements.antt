-- What one level of a statement says of the name `arguments`.
use Rattle.std.proofs.Common.{◌≡◌, ◌||◌, Bool, false, List, ◌∙◌, ap, sym, map, refl, Option, Some, None}
use Rattle.std.specs.List.{list_any}
use Rattle.ja_base.specs.declared.ids.Place.{Place}
use Rattle.ja_syntax.specs.Arguments.{expression_step, statement_step, case_step, in_statement, in_declaration, in_first, any, if_any}
use Rattle.ja_syntax.specs.code.Arguments.{in_expression, in_case}
use Rattle.ja_syntax.specs.code.Mentions.{optional_mentions, declaration_mentions, initialiser_mentions, first_mentions, target_mentions, catch_mentions, finally_mentions}
use Rattle.ja_syntax.specs.declared.tree.CatchOf.{CatchOf}
use Rattle.ja_syntax.specs.declared.tree.Declaration.{Declaration}
use Rattle.ja_syntax.specs.declared.tree.Initialiser.{Initialiser}
use Rattle.ja_syntax.specs.declared.tree.ForFirst.{ForFirst}
use Rattle.ja_syntax.specs.declared.tree.ForFirst.TheVariants as first
use Rattle.ja_syntax.specs.declared.tree.ForTarget.{ForTarget}
use Rattle.ja_syntax.specs.declared.tree.ForTarget.TheVariants as target
use Rattle.ja_syntax.specs.declared.tree.Name.{Name}
use Rattle.ja_syntax.specs.declared.tree.Case.{Case, out-Case}
use Rattle.ja_syntax.specs.declared.tree.Statement.{Statement, roll-Statement}
use Rattle.ja_syntax.specs.declared.tree.Statement.TheVariants as s
use Rattle.ja_syntax.specs.declared.tree.Statement.TheVariants.{rolls-Block, rolls-Variables, rolls-For, rolls-ForIn, rolls-Return, rolls-Switch, rolls-Try}
use Rattle.ja_syntax.specs.declared.tree.Expression.{Expression}
use Rattle.ja_syntax.specs.declared.tree.Expression.TheOpen.{Statement-F}
use Rattle.ja_syntax.specs.declared.tree.Expression.TheFolds.{fold-roll-Statement, fold_out-Case, map-Statement, map-Case}
use Rattle.ja_syntax.proofs.ArgumentsLemmas.{any_map}

module _ (g : Option Expression → Bool) (empty : g None ≡ false)
    (full : (v : Expression) → g (Some v) ≡ in_expression v) where
  optional_is : (x : Option Expression) → g x ≡ optional_mentions x
  optional_is None = empty
  optional_is (Some v) = full v

module _ (g : Option (Initialiser Expression) → Bool) (empty : g None ≡ false)
    (full : (v : Initialiser Expression) → g (Some v) ≡ in_expression v.value) where
  initialiser_is : (x : Option (Initialiser Expression)) → g x ≡ initialiser_mentions x
  initialiser_is None = empty
  initialiser_is (Some v) = full v

module _ (g : ForFirst Expression → Bool) (nothing : g first.Nothing ≡ false)
    (value : (v : Expression) → g (first.Expression v) ≡ in_expression v)
    (variables : (ds : List (Declaration Expression))
    → g (first.Variables ds) ≡ list_any declaration_mentions ds) where
  first_is : (x : ForFirst Expression) → g x ≡ first_mentions x
  first_is first.Nothing = nothing
  first_is (first.Expression v) = value v
  first_is (first.Variables ds) = variables ds

module _ (g : ForTarget Expression → Bool)
    (variable : (d : Declaration Expression) → g (target.Variable d) ≡ declaration_mentions d)
    (reference : (v : Expression) → g (target.Reference v) ≡ in_expression v) where
  target_is : (x : ForTarget Expression) → g x ≡ target_mentions x
  target_is (target.Variable d) = variable d
  target_is (target.Reference v) = reference v

many : (xs : List Statement) → any (map in_statement xs) ≡ list_any in_statement xs
many xs = any_map (λ b. b) in_statement in_statement (λ x. refl) xs

many_cases : (xs : List Case) → any (map in_case xs) ≡ list_any in_case xs
many_cases xs = any_map (λ b. b) in_case in_case (λ x. refl) xs

-- a level of a statement, with what each part mentions in its place
abbrev layer : Statement-F Expression Statement Case → Statement-F Bool Bool Bool
layer = map-Statement Expression Statement Case Bool Bool Bool in_expression in_statement in_case

opened : (x : Statement-F Expression Statement Case)
    → in_statement (roll-Statement x) ≡ statement_step (layer x)
opened = fold-roll-Statement Bool Bool Bool expression_step statement_step case_step

any_declarations : (f : Declaration Expression → Declaration Bool)
    → ((n : Name) (i : Option (Initialiser Expression))
    → in_declaration (f (record { name = n; initialiser = i })) ≡ initialiser_mentions i)
    → (ds : List (Declaration Expression)) → list_any in_declaration (map f ds)
    ≡ list_any declaration_mentions ds
any_declarations f h ds =
    any_map in_declaration f declaration_mentions (λ d. h d.name d.initialiser) ds

module _ (f : ForFirst Expression → Bool) (g h : Option Expression → Bool)
    (is_f : (x : ForFirst Expression) → f x ≡ first_mentions x)
    (is_g : (x : Option Expression) → g x ≡ optional_mentions x)
    (is_h : (x : Option Expression) → h x ≡ optional_mentions x) (rest : Bool) where
  for_parts : (b : ForFirst Expression) (c u : Option Expression)
      → (f b || (g c || (h u || rest))) ≡ (first_mentions b
      || (optional_mentions c || (optional_mentions u || rest)))
  for_parts b c u = rw (is_f b, is_g c, is_h u) refl

-- the parts of the head of a `for`
first_of : Statement-F Bool Bool Bool → Bool
first_of (Statement-F.For before condition update body place) = in_first before
first_of _ = false

condition_of : Statement-F Bool Bool Bool → Bool
condition_of (Statement-F.For before condition update body place) = if_any condition
condition_of _ = false

update_of : Statement-F Bool Bool Bool → Bool
update_of (Statement-F.For before condition update body place) = if_any update
update_of _ = false

for_layer : (body : Statement) (place : Place) (b : ForFirst Expression) (c u : Option Expression)
    → statement_step (layer (Statement-F.For b c u body place))
    ≡ (first_mentions b || (optional_mentions c || (optional_mentions u || in_statement body)))
unfolding first_of condition_of update_of
for_layer body place =
    for_parts (λ x. first_of (layer (Statement-F.For x None None body place)))
    (λ x. condition_of (layer (Statement-F.For first.Nothing x None body place)))
    (λ x. update_of (layer (Statement-F.For first.Nothing None x body place)))
    (first_is _ refl (λ v. refl) (any_declarations _ (λ n. initialiser_is _ refl (λ v. refl))))
    (optional_is _ refl (λ v. refl)) (optional_is _ refl (λ v. refl)) (in_statement body)

module _ (f : ForTarget Expression → Bool)
    (is_f : (x : ForTarget Expression) → f x ≡ target_mentions x) (rest : Bool) where
  target_part : (x : ForTarget Expression) → (f x || rest) ≡ (target_mentions x || rest)
  target_part x = rw (is_f x) refl

module _ (f : Declaration Expression → Bool)
    (is_f : (n : Name) (i : Option (Initialiser Expression))
    → f (record { name = n; initialiser = i }) ≡ initialiser_mentions i) where
  declaration_is : (d : Declaration Expression) → f d ≡ declaration_mentions d
  declaration_is d = is_f d.name d.initialiser

for_in_layer : (object : Expression) (body : Statement) (place : Place) (x : ForTarget Expression)
    → statement_step (layer (Statement-F.ForIn x object body place))
    ≡ (target_mentions x || (in_expression object || in_statement body))
for_in_layer object body place =
    target_part _ (target_is _ (declaration_is _ (λ n. initialiser_is _ refl (λ v. refl)))
    (λ v. refl)) (in_expression object || in_statement body)

return_layer : (place : Place) (x : Option Expression)
    → statement_step (layer (Statement-F.Return x place)) ≡ optional_mentions x
return_layer place = optional_is _ refl (λ v. refl)

try_layer : (place : Place) (block : List Statement) (x : Option (CatchOf Statement))
    (y : Option (List Statement)) → statement_step (layer (Statement-F.Try block x y place))
    ≡ (list_any in_statement block || (catch_mentions x || finally_mentions y))
try_layer place block None None = rw (many block) refl
try_layer place block None (Some w) = rw (many block, many w) refl
try_layer place block (Some v) None = rw (many block, many v.body) refl
try_layer place block (Some v) (Some w) = rw (many block, many v.body, many w) refl

pub in_block : (body : List Statement) (place : Place)
    → in_statement (s.Block body place) ≡ list_any in_statement body
in_block body place =
    ap in_statement (sym (rolls-Block body place))
    ∙ (opened (Statement-F.Block body place) ∙ many body)

pub in_variables : (declarations : List (Declaration Expression)) (place : Place)
    → in_statement (s.Variables declarations place) ≡ list_any declaration_mentions declarations
in_variables declarations place =
    ap in_statement (sym (rolls-Variables declarations place))
    ∙ (opened (Statement-F.Variables declarations place)
    ∙ any_declarations _ (λ n. initialiser_is _ refl (λ v. refl)) declarations)

pub in_for : (before : ForFirst Expression) (condition update : Option Expression)
    (body : Statement) (place : Place) → in_statement (s.For before condition update body place)
    ≡ (first_mentions before || (optional_mentions condition
    || (optional_mentions update || in_statement body)))
in_for before condition update body place =
    ap in_statement (sym (rolls-For before condition update body place))
    ∙ (opened (Statement-F.For before condition update body place)
    ∙ for_layer body place before condition update)

pub in_for_in : (goal : ForTarget Expression) (object : Expression) (body : Statement)
    (place : Place) → in_statement (s.ForIn goal object body place)
    ≡ (target_mentions goal || (in_expression object || in_statement body))
in_for_in goal object body place =
    ap in_statement (sym (rolls-ForIn goal object body place))
    ∙ (opened (Statement-F.ForIn goal object body place) ∙ for_in_layer object body place goal)

pub in_return : (value : Option Expression) (place : Place)
    → in_statement (s.Return value place) ≡ optional_mentions value
in_return value place =
    ap in_statement (sym (rolls-Return value place))
    ∙ (opened (Statement-F.Return value place) ∙ return_layer place value)

pub in_switch : (value : Expression) (cases : List Case) (place : Place)
    → in_statement (s.Switch value cases place) ≡ (in_expression value || list_any in_case cases)
in_switch value cases place =
    ap in_statement (sym (rolls-Switch value cases place))
    ∙ (opened (Statement-F.Switch value cases place)
    ∙ ap (λ b. in_expression value || b) (many_cases cases))

pub in_try : (block : List Statement) (catch : Option (CatchOf Statement))
    (finally : Option (List Statement)) (place : Place)
    → in_statement (s.Try block catch finally place)
    ≡ (list_any in_statement block || (catch_mentions catch || finally_mentions finally))
in_try block catch finally place =
    ap in_statement (sym (rolls-Try block catch finally place))
    ∙ (opened (Statement-F.Try block catch finally place) ∙ try_layer place block catch finally)

module _ (f : Option Expression → Bool) (is_f : (x : Option Expression)
    → f x ≡ optional_mentions x) where
  case_parts : (test : Option Expression) (body : List Statement)
      → (f test || any (map in_statement body))
      ≡ (optional_mentions test || list_any in_statement body)
  case_parts test body = rw (is_f test, many body) refl

case_layer : (place : Place) (test : Option Expression) (body : List Statement)
    → case_step (map-Case Expression Statement Case Bool Bool Bool in_expression in_statement
    in_case (record { test = test; body = body; place = place }))
    ≡ (optional_mentions test || list_any in_statement body)
case_layer place = case_parts _ (optional_is _ refl (λ v. refl))

pub in_case_is : (case : Case) → in_case case
    ≡ (optional_mentions (out-Case case).test || list_any in_statement (out-Case case).body)
in_case_is case =
    fold_out-Case Bool Bool Bool expression_step statement_step case_step case
    ∙ case_layer (out-Case case).place (out-Case case).test (out-Case case).body
