-- The names and functions of each function of a text are among those of the text.
use Rattle.std.proofs.Common.{ℕ, List, [], ◌∷◌, ◌++◌, map, Option, Some, None, sym, subst}
use Rattle.std.specs.List.{AllByRecursion, flat_map}
use Rattle.std.proofs.lemmas.Grind.{flat_map-append}
use Rattle.ja_base.specs.declared.ids.Place.{Place}
use Rattle.ja_base.proofs.Lists.{all_append, all_left, all_right}
use Rattle.ja_prim.specs.declared.primitive.Primitive.{Primitive}
use Rattle.ja_prim.specs.declared.primitive.Primitive.TheVariants as primitive
use Rattle.ja_syntax.specs.declared.tree.Declaration.{Declaration}
use Rattle.ja_syntax.specs.declared.tree.ForFirst.TheVariants as first
use Rattle.ja_syntax.specs.declared.tree.ForTarget.TheVariants as target
use Rattle.ja_syntax.specs.declared.tree.FunctionOf.{FunctionOf}
use Rattle.ja_syntax.specs.declared.tree.Initialiser.{Initialiser}
use Rattle.ja_syntax.specs.declared.tree.Name.{Name}
use Rattle.ja_syntax.specs.declared.tree.PropertyName.{PropertyName}
use Rattle.ja_syntax.specs.declared.tree.PropertyName.TheVariants as property
use Rattle.ja_syntax.specs.declared.tree.Case.{Case, roll-Case}
use Rattle.ja_syntax.specs.declared.tree.Statement.{Statement, roll-Statement}
use Rattle.ja_syntax.specs.declared.tree.Expression.{Expression, roll-Expression}
use Rattle.ja_syntax.specs.declared.tree.Expression.TheOpen.{Expression-F, Statement-F, Case-F}
use Rattle.ja_syntax.specs.declared.tree.Expression.TheFolds.{para-roll-Case, ind-Statement, map-Expression, map-Statement, map-Case}
use Rattle.ja_lower_draft.specs.Lines.{Scene}
use Rattle.ja_lower_names.specs.TextOrder.{Parts, one_name, one_variable, if_any, in_literal, in_property_name, in_name, in_suffix, in_property, in_operation, in_declaration, expression_step, statement_step, case_step, in_statement, function_parts, if_function, functions_in}
use Rattle.ja_lower_names.specs.code.TextOrder.{in_expression, in_case}
use Rattle.ja_lower_names.proofs.TextOrderLemmas.{Expressions, Statements, Cases, expression_layer, statement_layer, case_layer, expression_opened, statement_opened, function_layer}
use Rattle.ja_lower_ranges.specs.Found.{HasPart, HasParts, HasText, HasFunction}
use Rattle.ja_lower_ranges.proofs.HoldingExpressions.{each_option, each_suffix}

-- a scene that has parts has those of each function among them
record Carries (scene : Scene) (parts : Parts) : Type 0 where
  carried : HasParts scene parts → AllByRecursion (HasFunction scene) (flat_map if_function parts)

module _ (scene : Scene) where
  nothing : Carries scene []
  nothing = record { carried = λ has. tt }

  both : (first second : Parts) → Carries scene first → Carries scene second
      → Carries scene (first ++ second)
  both first second h i = record {
    carried = λ has.
        subst (AllByRecursion (HasFunction scene)) (sym (flat_map-append if_function first second))
        (all_append (HasFunction scene) (flat_map if_function first) (flat_map if_function second)
        (h.carried (all_left (HasPart scene) first second has))
        (i.carried (all_right (HasPart scene) first second has)));
  }

  a_text : (text : List ℕ) → Carries scene (one_name text)
  a_text text = record { carried = λ has. tt }

  a_variable : (text : List ℕ) → Carries scene (one_variable text)
  a_variable text = record { carried = λ has. tt }

  literal : (value : Primitive) → Carries scene (in_literal value)
  literal (primitive.Text text) = a_text text
  literal primitive.Undefined = nothing
  literal primitive.Null = nothing
  literal (primitive.Bool b) = nothing
  literal (primitive.Number n) = nothing

  property_name : (name : PropertyName) → Carries scene (in_property_name name)
  property_name (property.Word text) = a_text text
  property_name (property.Text text) = a_text text
  property_name (property.Number n) = nothing

  any_name : (name : Option Name) → Carries scene (if_any in_name name)
  any_name None = nothing
  any_name (Some n) = a_text n.text

  each_name : (names : List Name) → Carries scene (flat_map in_name names)
  each_name [] = nothing
  each_name (n ∷ names) =
      both (in_name n) (flat_map in_name names) (a_text n.text) (each_name names)

  each : {A B C : Type 0} (inner : C → Parts) (f : A → B) (j : B → C)
      → ((x : A) → Carries scene (inner (j (f x)))) → (xs : List A)
      → Carries scene (flat_map inner (map j (map f xs)))
  each inner f j fine [] = nothing
  each inner f j fine (x ∷ xs) =
      both (inner (j (f x))) (flat_map inner (map j (map f xs))) (fine x) (each inner f j fine xs)

  -- a function is found with its parts
  whole_function : (f : FunctionOf Statement) → Carries scene (flat_map in_statement f.body)
      → Carries scene (function_parts f)
  whole_function f h = record {
    carried = λ has.
        let names = flat_map in_name f.parameters ++ flat_map in_statement f.body in (
          has,
          (both (if_any in_name f.name) names (any_name f.name)
              (both (flat_map in_name f.parameters) (flat_map in_statement f.body)
              (each_name f.parameters) h)).carried has.1,
        );
  }

  -- ---- a level, in which each form stands with the fact

  abbrev Fine : Type 0
  Fine = (e : Expression) × Carries scene (in_expression e)

  abbrev FineStatement : Type 0
  FineStatement = (x : Statement) × Carries scene (in_statement x)

  abbrev FineCase : Type 0
  FineCase = (c : Case) × Carries scene (in_case c)

  abbrev below : Expression-F Fine FineStatement FineCase → Expression-F Expression Statement Case
  below =
      map-Expression Fine FineStatement FineCase Expression Statement Case (λ e. e.0) (λ x. x.0)
      (λ c. c.0)

  abbrev below_statement : Statement-F Fine FineStatement FineCase
      → Statement-F Expression Statement Case
  below_statement =
      map-Statement Fine FineStatement FineCase Expression Statement Case (λ e. e.0) (λ x. x.0)
      (λ c. c.0)

  abbrev below_case : Case-F Fine FineStatement FineCase → Case-F Expression Statement Case
  below_case =
      map-Case Fine FineStatement FineCase Expression Statement Case (λ e. e.0) (λ x. x.0)
      (λ c. c.0)

  expressions : (xs : List Fine) → Carries scene
      (flat_map (λ (p : Expressions). p.1) (map (λ x. (x, in_expression x))
      (map (λ (e : Fine). e.0) xs)))
  expressions xs =
      each (λ (p : Expressions). p.1) (λ (e : Fine). e.0) (λ x. (x, in_expression x)) (λ e. e.1) xs

  statements : (xs : List FineStatement) → Carries scene
      (flat_map (λ (p : Statements). p.1) (map (λ x. (x, in_statement x))
      (map (λ (x : FineStatement). x.0) xs)))
  statements xs =
      each (λ (p : Statements). p.1) (λ (x : FineStatement). x.0) (λ x. (x, in_statement x))
      (λ x. x.1) xs

  body : (xs : List FineStatement) → Carries scene
      (flat_map in_statement (map (λ (x : FineStatement). x.0) xs))
  body [] = nothing
  body (x ∷ xs) =
      both (in_statement x.0) (flat_map in_statement (map (λ (y : FineStatement). y.0) xs)) x.1
      (body xs)

  -- a function in a level
  function : (f : FunctionOf FineStatement)
      → Carries scene (expression_step (expression_layer
      (below (Expression-F.Expression::Function f))))
  function f =
      let tree : FunctionOf Statement = record {
        name = f.name;
        parameters = f.parameters;
        body = map (λ (x : FineStatement). x.0) f.body;
        place = f.place;
      } in
      subst (Carries scene) (sym (function_layer tree)) (whole_function tree (body f.body))

  level : (y : Expression-F Fine FineStatement FineCase)
      → Carries scene (expression_step (expression_layer (below y)))
  level (Expression-F.This place) = nothing
  level (Expression-F.Name name) = a_variable name.text
  level (Expression-F.Literal value place) = literal value
  level (Expression-F.Array elements place) =
      each (if_any (λ (p : Expressions). p.1)) _ _ (each_option _ nothing (λ e. e.1)) elements
  level (Expression-F.Object properties place) =
      each (in_property (λ (p : Expressions). p.1)) _ _
      (λ p. both (in_property_name p.name) (in_expression p.value.0) (property_name p.name)
      p.value.1) properties
  level (Expression-F.Expression::Function f) = function f
  level (Expression-F.Chain head suffixes) =
      both (in_expression head.0) _ head.1
      (each (in_suffix (λ (p : Expressions). p.1)) _ _
      (each_suffix _ (λ n p. a_text n.text) (λ key p. key.1) (λ xs p. expressions xs)) suffixes)
  level (Expression-F.New callee arguments place) =
      both (in_expression callee.0) _ callee.1 (expressions arguments)
  level (Expression-F.Unary operator operand place) = operand.1
  level (Expression-F.Update operator operand place) = operand.1
  level (Expression-F.Binary head operations place) =
      both (in_expression head.0) _ head.1 (each (in_operation (λ (p : Expressions). p.1)) _ _
      (λ o. o.right.1) operations)
  level (Expression-F.Conditional condition consequent otherwise place) =
      both (in_expression condition.0) (in_expression consequent.0 ++ in_expression otherwise.0)
      condition.1 (both (in_expression consequent.0) (in_expression otherwise.0) consequent.1
      otherwise.1)
  level (Expression-F.Assign goal operator value place) =
      both (in_expression goal.0) (in_expression value.0) goal.1 value.1
  level (Expression-F.Sequence head others place) =
      both (in_expression head.0) _ head.1 (expressions others)

  -- ---- statements

  loop : (head condition update body : Parts) → Carries scene head → Carries scene condition
      → Carries scene update → Carries scene body
      → Carries scene (head ++ (condition ++ (update ++ body)))
  loop head condition update body h hc hu hb =
      both head (condition ++ (update ++ body)) h
      (both condition (update ++ body) hc (both update body hu hb))

  -- a variable with or without a value
  declared : (g : Declaration Fine → Parts)
      → ((n : Name) → Carries scene (g (record { name = n; initialiser = None })))
      → ((n : Name) (i : Initialiser Fine) → Carries scene
      (g (record { name = n; initialiser = Some i }))) → (d : Declaration Fine)
      → Carries scene (g d)
  declared g empty full d = at d.name d.initialiser
    where
      at : (n : Name) (i : Option (Initialiser Fine))
          → Carries scene (g (record { name = n; initialiser = i }))
      at n None = empty n
      at n (Some i) = full n i

  alone : (n : Name) → Carries scene (in_name n ++ [])
  alone n = both (in_name n) [] (a_text n.text) nothing

  with_value : (n : Name) (i : Initialiser Fine)
      → Carries scene (in_name n ++ in_expression i.value.0)
  with_value n i = both (in_name n) (in_expression i.value.0) (a_text n.text) i.value.1

  abbrev Inside : Type 0
  Inside = Statement-F Fine FineStatement FineCase

  abbrev parts_of : Inside → Parts
  parts_of y = statement_step (statement_layer (below_statement y))

  level_statement : (y : Inside) → Carries scene (parts_of y)
  level_statement (Statement-F.Block xs place) = statements xs
  level_statement (Statement-F.Variables declarations place) =
      each (in_declaration (λ (p : Expressions). p.1)) _ _ (declared _ alone with_value)
      declarations
  level_statement (Statement-F.Empty place) = nothing
  level_statement (Statement-F.Expression value place) = value.1
  level_statement (Statement-F.If condition consequent None place) =
      both (in_expression condition.0) (in_statement consequent.0 ++ []) condition.1
      (both (in_statement consequent.0) [] consequent.1 nothing)
  level_statement (Statement-F.If condition consequent (Some otherwise) place) =
      both (in_expression condition.0) (in_statement consequent.0 ++ in_statement otherwise.0)
      condition.1 (both (in_statement consequent.0) (in_statement otherwise.0) consequent.1
      otherwise.1)
  level_statement (Statement-F.Do x condition place) =
      both (in_statement x.0) (in_expression condition.0) x.1 condition.1
  level_statement (Statement-F.While condition x place) =
      both (in_expression condition.0) (in_statement x.0) condition.1 x.1
  level_statement (Statement-F.For first.Nothing None None x place) =
      loop [] [] [] (in_statement x.0) nothing nothing nothing x.1
  level_statement (Statement-F.For first.Nothing None (Some update) x place) =
      loop [] [] (in_expression update.0) (in_statement x.0) nothing nothing update.1 x.1
  level_statement (Statement-F.For first.Nothing (Some condition) None x place) =
      loop [] (in_expression condition.0) [] (in_statement x.0) nothing condition.1 nothing x.1
  level_statement (Statement-F.For first.Nothing (Some condition) (Some update) x place) =
      loop [] (in_expression condition.0) (in_expression update.0) (in_statement x.0) nothing
      condition.1 update.1 x.1
  level_statement (Statement-F.For (first.Expression value) None None x place) =
      loop (in_expression value.0) [] [] (in_statement x.0) value.1 nothing nothing x.1
  level_statement (Statement-F.For (first.Expression value) None (Some update) x place) =
      loop (in_expression value.0) [] (in_expression update.0) (in_statement x.0) value.1 nothing
      update.1 x.1
  level_statement (Statement-F.For (first.Expression value) (Some condition) None x place) =
      loop (in_expression value.0) (in_expression condition.0) [] (in_statement x.0) value.1
      condition.1 nothing x.1
  level_statement (Statement-F.For (first.Expression value) (Some condition) (Some update) x
      place) =
      loop (in_expression value.0) (in_expression condition.0) (in_expression update.0)
      (in_statement x.0) value.1 condition.1 update.1 x.1
  level_statement (Statement-F.For (first.Variables declarations) None None x place) =
      loop _ [] [] (in_statement x.0) (each (in_declaration (λ (p : Expressions). p.1)) _ _
      (declared _ alone with_value) declarations) nothing nothing x.1
  level_statement (Statement-F.For (first.Variables declarations) None (Some update) x place) =
      loop _ [] (in_expression update.0) (in_statement x.0)
      (each (in_declaration (λ (p : Expressions). p.1)) _ _ (declared _ alone with_value)
      declarations) nothing update.1 x.1
  level_statement (Statement-F.For (first.Variables declarations) (Some condition) None x place) =
      loop _ (in_expression condition.0) [] (in_statement x.0)
      (each (in_declaration (λ (p : Expressions). p.1)) _ _ (declared _ alone with_value)
      declarations) condition.1 nothing x.1
  level_statement (Statement-F.For (first.Variables declarations) (Some condition) (Some update) x
      place) =
      loop _ (in_expression condition.0) (in_expression update.0) (in_statement x.0)
      (each (in_declaration (λ (p : Expressions). p.1)) _ _ (declared _ alone with_value)
      declarations) condition.1 update.1 x.1
  level_statement (Statement-F.ForIn (target.Variable d) object x place) =
      declared (λ v. parts_of (Statement-F.ForIn (target.Variable v) object x place))
      (λ n. both (in_name n ++ []) (in_expression object.0 ++ in_statement x.0) (alone n)
      (both (in_expression object.0) (in_statement x.0) object.1 x.1))
      (λ n i. both (in_name n ++ in_expression i.value.0)
      (in_expression object.0 ++ in_statement x.0) (with_value n i)
      (both (in_expression object.0) (in_statement x.0) object.1 x.1)) d
  level_statement (Statement-F.ForIn (target.Reference value) object x place) =
      both (in_expression value.0) (in_expression object.0 ++ in_statement x.0) value.1
      (both (in_expression object.0) (in_statement x.0) object.1 x.1)
  level_statement (Statement-F.Continue label place) = nothing
  level_statement (Statement-F.Break label place) = nothing
  level_statement (Statement-F.Return None place) = nothing
  level_statement (Statement-F.Return (Some value) place) = value.1
  level_statement (Statement-F.Labelled label x) = x.1
  level_statement (Statement-F.Switch value cases place) =
      both (in_expression value.0) _ value.1
      (each (λ (p : Cases). p.1) (λ (c : FineCase). c.0) (λ x. (x, in_case x)) (λ c. c.1) cases)
  level_statement (Statement-F.Throw value place) = value.1
  level_statement (Statement-F.Try block None None place) = both _ [] (statements block) nothing
  level_statement (Statement-F.Try block None (Some finally) place) =
      both _ _ (statements block) (statements finally)
  level_statement (Statement-F.Try block (Some caught) None place) =
      both _ _ (statements block) (both _ []
      (both (in_name caught.parameter) _ (a_text caught.parameter.text)
      (statements caught.body)) nothing)
  level_statement (Statement-F.Try block (Some caught) (Some finally) place) =
      both _ _ (statements block) (both _ _ (both (in_name caught.parameter) _
      (a_text caught.parameter.text) (statements caught.body)) (statements finally))
  level_statement (Statement-F.Statement::Function f) = function f

  level_case : (test : Option Fine) (xs : List FineStatement) (place : Place)
      → Carries scene (case_step (case_layer
      (below_case (record { test = test; body = xs; place = place }))))
  level_case None xs place = statements xs
  level_case (Some test) xs place = both (in_expression test.0) _ test.1 (statements xs)

  expression_carried : (x : Expression-F Expression Statement Case)
      → Carries scene (expression_step (expression_layer x))
      → Carries scene (in_expression (roll-Expression x))
  expression_carried x h = subst (Carries scene) (sym (expression_opened x)) h

  statement_carried : (x : Statement-F Expression Statement Case)
      → Carries scene (statement_step (statement_layer x))
      → Carries scene (in_statement (roll-Statement x))
  statement_carried x h = subst (Carries scene) (sym (statement_opened x)) h

  case_carried : (x : Case-F Expression Statement Case) → Carries scene (case_step (case_layer x))
      → Carries scene (in_case (roll-Case x))
  unfolding in_expression in_statement in_case
  case_carried x h =
      subst (Carries scene) (sym (para-roll-Case Parts Parts Parts expression_step statement_step
      case_step x)) h

  statement_carries : (x : Statement) → Carries scene (in_statement x)
  statement_carries =
      ind-Statement (λ e. Carries scene (in_expression e)) (λ x. Carries scene (in_statement x))
      (λ c. Carries scene (in_case c))
      (λ x y is. subst (λ z. Carries scene (in_expression (roll-Expression z))) is
      (expression_carried (below y) (level y)))
      (λ x y is. subst (λ z. Carries scene (in_statement (roll-Statement z))) is
      (statement_carried (below_statement y) (level_statement y)))
      (λ x y is. subst (λ z. Carries scene (in_case (roll-Case z))) is
      (case_carried (below_case y) (level_case y.test y.body y.place)))

  text_carries : (xs : List Statement) → Carries scene (flat_map in_statement xs)
  text_carries [] = nothing
  text_carries (x ∷ xs) =
      both (in_statement x) (flat_map in_statement xs) (statement_carries x) (text_carries xs)

-- a scene that has a text has each of its functions
pub functions_found : (scene : Scene) (statements : List Statement) → HasText scene statements
    → AllByRecursion (HasFunction scene) (functions_in statements)
unfolding functions_in
functions_found scene statements has = (text_carries scene statements).carried has
