-- The names that one level of a statement declares.
use Rattle.std.proofs.Common.{◌≡◌, List, [], ◌∷◌, ◌++◌, ◌∙◌, ap, sym, map, refl, append-nil, append_assoc, Option, Some, None}
use Rattle.std.specs.List.{flat_map, fold}
use Rattle.std.proofs.lemmas.List.Folds.{flat_map-map}
use Rattle.std.proofs.lemmas.List.Sums.{fold-append}
use Rattle.ja_base.specs.declared.ids.Place.{Place}
use Rattle.ja_syntax.specs.Hoisted.{Texts, nothing, variables_step, variables_in_case, variables_of, all_names, declared_names, first_names, target_names}
use Rattle.ja_syntax.specs.code.Hoisted.{case_variables, with_name}
use Rattle.ja_syntax.specs.declared.tree.CatchOf.{CatchOf}
use Rattle.ja_syntax.specs.declared.tree.Declaration.{Declaration}
use Rattle.ja_syntax.specs.declared.tree.ForFirst.{ForFirst}
use Rattle.ja_syntax.specs.declared.tree.ForFirst.TheVariants as first
use Rattle.ja_syntax.specs.declared.tree.ForTarget.{ForTarget}
use Rattle.ja_syntax.specs.declared.tree.ForTarget.TheVariants as target
use Rattle.ja_syntax.specs.declared.tree.Case.{Case, out-Case}
use Rattle.ja_syntax.specs.declared.tree.Statement.{Statement, roll-Statement}
use Rattle.ja_syntax.specs.declared.tree.Statement.TheVariants as s
use Rattle.ja_syntax.specs.declared.tree.Statement.TheVariants.{rolls-Block, rolls-Variables, rolls-If, rolls-For, rolls-ForIn, rolls-Switch, rolls-Try}
use Rattle.ja_syntax.specs.declared.tree.Expression.{Expression}
use Rattle.ja_syntax.specs.declared.tree.Expression.TheOpen.{Statement-F}
use Rattle.ja_syntax.specs.declared.tree.Expression.TheFolds.{fold-Expression, fold-roll-Statement, fold_out-Case, map-Statement}

-- a level of a statement, with the names of each part in its place
abbrev layer : Statement-F Expression Statement Case → Statement-F (Unit {0}) Texts Texts
layer =
    map-Statement Expression Statement Case (Unit {0}) Texts Texts
    (fold-Expression (Unit {0}) Texts Texts nothing variables_step variables_in_case) variables_of
    case_variables

opened : (x : Statement-F Expression Statement Case)
    → variables_of (roll-Statement x) ≡ variables_step (layer x)
opened = fold-roll-Statement (Unit {0}) Texts Texts nothing variables_step variables_in_case

many : (xs : List Statement) → all_names (map variables_of xs) ≡ flat_map variables_of xs
many xs = flat_map-map (λ names. names) variables_of xs

declared_map : {E F : Type 0} (f : Declaration E → Declaration F)
    → ((d : Declaration E) → (f d).name.text ≡ d.name.text) → (ds : List (Declaration E))
    → declared_names (map f ds) ≡ declared_names ds
declared_map f h [] = refl
declared_map f h (d ∷ ds) = rw (h d, declared_map f h ds) refl

pub of_block : (body : List Statement) (place : Place)
    → variables_of (s.Block body place) ≡ flat_map variables_of body
of_block body place =
    ap variables_of (sym (rolls-Block body place))
    ∙ (opened (Statement-F.Block body place) ∙ many body)

pub of_variables : (declarations : List (Declaration Expression)) (place : Place)
    → variables_of (s.Variables declarations place) ≡ declared_names declarations
of_variables declarations place =
    ap variables_of (sym (rolls-Variables declarations place))
    ∙ (opened (Statement-F.Variables declarations place) ∙ declared_map _ (λ d. refl) declarations)

for_layer : (condition update : Option Expression) (body : Statement) (place : Place)
    (x : ForFirst Expression) → variables_step
    (layer (Statement-F.For x condition update body place)) ≡ first_names x ++ variables_of body
for_layer condition update body place first.Nothing = refl
for_layer condition update body place (first.Expression v) = refl
for_layer condition update body place (first.Variables ds) =
    ap (λ names. names ++ variables_of body) (declared_map _ (λ d. refl) ds)

pub of_for : (before : ForFirst Expression) (condition update : Option Expression)
    (body : Statement) (place : Place) → variables_of (s.For before condition update body place)
    ≡ first_names before ++ variables_of body
of_for before condition update body place =
    ap variables_of (sym (rolls-For before condition update body place))
    ∙ (opened (Statement-F.For before condition update body place)
    ∙ for_layer condition update body place before)

for_in_layer : (object : Expression) (body : Statement) (place : Place) (x : ForTarget Expression)
    → variables_step (layer (Statement-F.ForIn x object body place)) ≡ target_names x
    ++ variables_of body
for_in_layer object body place (target.Variable d) = refl
for_in_layer object body place (target.Reference v) = refl

pub of_for_in : (goal : ForTarget Expression) (object : Expression) (body : Statement)
    (place : Place) → variables_of (s.ForIn goal object body place) ≡ target_names goal
    ++ variables_of body
of_for_in goal object body place =
    ap variables_of (sym (rolls-ForIn goal object body place))
    ∙ (opened (Statement-F.ForIn goal object body place) ∙ for_in_layer object body place goal)

pub of_switch : (value : Expression) (cases : List Case) (place : Place)
    → variables_of (s.Switch value cases place) ≡ flat_map case_variables cases
of_switch value cases place =
    ap variables_of (sym (rolls-Switch value cases place))
    ∙ (opened (Statement-F.Switch value cases place)
    ∙ flat_map-map (λ names. names) case_variables cases)

pub of_if : (condition : Expression) (then otherwise : Statement) (place : Place)
    → variables_of (s.If condition then (Some otherwise) place) ≡ variables_of then
    ++ variables_of otherwise
of_if condition then otherwise place =
    ap variables_of (sym (rolls-If condition then (Some otherwise) place))
    ∙ opened (Statement-F.If condition then (Some otherwise) place)

pub of_try_alone : (block : List Statement) (place : Place)
    → variables_of (s.Try block None None place) ≡ flat_map variables_of block
of_try_alone block place =
    ap variables_of (sym (rolls-Try block None None place))
    ∙ (opened (Statement-F.Try block None None place) ∙ append-nil _ ∙ many block)

pub of_try_finally : (block body : List Statement) (place : Place)
    → variables_of (s.Try block None (Some body) place) ≡ flat_map variables_of block
    ++ flat_map variables_of body
of_try_finally block body place =
    ap variables_of (sym (rolls-Try block None (Some body) place))
    ∙ (opened (Statement-F.Try block None (Some body) place) ∙ rw (many block, many body) refl)

pub of_try_catch : (block : List Statement) (catch : CatchOf Statement) (place : Place)
    → variables_of (s.Try block (Some catch) None place) ≡ flat_map variables_of block
    ++ flat_map variables_of catch.body
of_try_catch block catch place =
    ap variables_of (sym (rolls-Try block (Some catch) None place))
    ∙ (opened (Statement-F.Try block (Some catch) None place)
    ∙ rw (many block, many catch.body) (ap (λ names. flat_map variables_of block ++ names)
    (append-nil _)))

pub of_try_both : (block : List Statement) (catch : CatchOf Statement) (body : List Statement)
    (place : Place) → variables_of (s.Try block (Some catch) (Some body) place)
    ≡ flat_map variables_of block ++ (flat_map variables_of catch.body
    ++ flat_map variables_of body)
of_try_both block catch body place =
    ap variables_of (sym (rolls-Try block (Some catch) (Some body) place))
    ∙ (opened (Statement-F.Try block (Some catch) (Some body) place)
    ∙ rw (many block, many catch.body, many body) refl)

pub of_case : (case : Case) → case_variables case ≡ flat_map variables_of (out-Case case).body
of_case case =
    fold_out-Case (Unit {0}) Texts Texts nothing variables_step variables_in_case case
    ∙ many (out-Case case).body

more : (names mid new : Texts) (block rest : List Statement) (x : Statement)
    → variables_of x ≡ flat_map variables_of block ++ flat_map variables_of rest
    → mid ≡ fold with_name names (flat_map variables_of block)
    → new ≡ fold with_name mid (flat_map variables_of rest)
    → new ≡ fold with_name names (variables_of x)
more names mid new block rest x e first last =
    last ∙ ap (λ n. fold with_name n (flat_map variables_of rest)) first
    ∙ sym (fold-append with_name names (flat_map variables_of block) (flat_map variables_of rest))
    ∙ ap (fold with_name names) (sym e)

pub added_finally : (names mid new : Texts) (x : Statement) (block body : List Statement)
    (catch : Option (CatchOf Statement)) (finally : Option (List Statement)) (place : Place)
    → x ≡ s.Try block catch finally place → catch ≡ None → finally ≡ Some body
    → mid ≡ fold with_name names (flat_map variables_of block)
    → new ≡ fold with_name mid (flat_map variables_of body)
    → new ≡ fold with_name names (variables_of x)
added_finally names mid new x block body catch finally place is absent present =
    more names mid new block body x (rw (is, absent, present) (of_try_finally block body place))

pub added_catch : (names mid new : Texts) (x : Statement) (block : List Statement)
    (handler : CatchOf Statement) (catch : Option (CatchOf Statement))
    (finally : Option (List Statement)) (place : Place) → x ≡ s.Try block catch finally place
    → catch ≡ Some handler → finally ≡ None
    → mid ≡ fold with_name names (flat_map variables_of block)
    → new ≡ fold with_name mid (flat_map variables_of handler.body)
    → new ≡ fold with_name names (variables_of x)
added_catch names mid new x block handler catch finally place is present absent =
    more names mid new block handler.body x
    (rw (is, present, absent) (of_try_catch block handler place))

pub added_both : (names mid later new : Texts) (x : Statement) (block body : List Statement)
    (handler : CatchOf Statement) (catch : Option (CatchOf Statement))
    (finally : Option (List Statement)) (place : Place) → x ≡ s.Try block catch finally place
    → catch ≡ Some handler → finally ≡ Some body
    → mid ≡ fold with_name names (flat_map variables_of block)
    → later ≡ fold with_name mid (flat_map variables_of handler.body)
    → new ≡ fold with_name later (flat_map variables_of body)
    → new ≡ fold with_name names (variables_of x)
added_both names mid later new x block body handler catch finally place is present also first
    then last =
    let first_two = ap (λ n. fold with_name n (flat_map variables_of handler.body)) first
    ∙ sym (fold-append with_name names (flat_map variables_of block)
    (flat_map variables_of handler.body)) in
    let e : variables_of x ≡ (flat_map variables_of block ++ flat_map variables_of handler.body)
    ++ flat_map variables_of body = rw (is, present, also)
    (of_try_both block handler body place
    ∙ sym (append_assoc (flat_map variables_of block) (flat_map variables_of handler.body)
    (flat_map variables_of body))) in
    last ∙ ap (λ n. fold with_name n (flat_map variables_of body)) (then ∙ first_two)
    ∙ sym (fold-append with_name names (flat_map variables_of block
    ++ flat_map variables_of handler.body) (flat_map variables_of body))
    ∙ ap (fold with_name names) (sym e)
