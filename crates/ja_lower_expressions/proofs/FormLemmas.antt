-- What one level of an expression is listed as.
use Rattle.std.proofs.Common.{◌≡◌, List, [], ◌∷◌, ◌∙◌, ap, sym, map, refl, Option, Some, None}
use Rattle.std.specs.List.{fold}
use Rattle.ja_base.specs.declared.ids.Place.{Place}
use Rattle.ja_base.proofs.Lists.{map_after}
use Rattle.ja_prim.specs.declared.primitive.Primitive.{Primitive}
use Rattle.ja_syntax.specs.declared.tree.BinaryOperator.{BinaryOperator}
use Rattle.ja_syntax.specs.declared.tree.UnaryOperator.{UnaryOperator}
use Rattle.ja_syntax.specs.declared.tree.UpdateOperator.{UpdateOperator}
use Rattle.ja_syntax.specs.declared.tree.FunctionOf.{FunctionOf}
use Rattle.ja_syntax.specs.declared.tree.Property.{Property}
use Rattle.ja_syntax.specs.declared.tree.Suffix.{Suffix}
use Rattle.ja_syntax.specs.declared.tree.Suffix.TheVariants as suffix
use Rattle.ja_syntax.specs.declared.tree.Operation.{Operation}
use Rattle.ja_syntax.specs.declared.tree.Name.{Name}
use Rattle.ja_syntax.specs.declared.tree.Case.{Case}
use Rattle.ja_syntax.specs.declared.tree.Statement.{Statement}
use Rattle.ja_syntax.specs.declared.tree.Expression.{Expression, roll-Expression}
use Rattle.ja_syntax.specs.declared.tree.Expression.TheVariants as e
use Rattle.ja_syntax.specs.declared.tree.Expression.TheVariants.{rolls-This, rolls-Name, rolls-Literal, rolls-Array, rolls-Object, rolls-Function, rolls-Chain, rolls-New, rolls-Unary, rolls-Update, rolls-Binary, rolls-Conditional, rolls-Assign, rolls-Sequence}
use Rattle.ja_syntax.specs.declared.tree.Expression.TheOpen.{Expression-F}
use Rattle.ja_syntax.specs.declared.tree.Expression.TheFolds.{fold-roll-Expression, map-Expression}
use Rattle.ja_lower_draft.specs.Lines.{Listing, Scene, register, with_const, with_copy}
use Rattle.ja_lower_expressions.specs.References.{Form, valued, value_of, with_name}
use Rattle.ja_lower_expressions.specs.Operators.{list_unary, list_update, list_conditional}
use Rattle.ja_lower_expressions.specs.Literals.{Member, list_array, list_object, list_function}
use Rattle.ja_lower_expressions.specs.Calls.{list_new}
use Rattle.ja_lower_expressions.specs.Expressions.{form, form_step, member_of, with_suffix, apply_operations, list_others, list_assignment}
use Rattle.ja_lower_expressions.specs.code.Expressions.{element_of, property_of, suffix_of, operation_of}

-- lists of what stands for the elements are equal where what stands for each element is
map_alike : {A B : Type 0} (f g : A → B) → ((x : A) → f x ≡ g x) → (xs : List A)
    → map f xs ≡ map g xs
map_alike f g h [] = refl
map_alike f g h (x ∷ xs) = ap (λ y. y ∷ map f xs) (h x) ∙ ap (λ ys. g x ∷ ys) (map_alike f g h xs)

module _ (g : Option Expression → Option Form) (empty : g None ≡ None)
    (full : (v : Expression) → g (Some v) ≡ Some (form v)) where
  element_is : (x : Option Expression) → g x ≡ element_of x
  element_is None = empty
  element_is (Some v) = full v

module _ (g : Suffix Expression → Suffix Form)
    (member : (name : Name) (place : Place)
    → g (suffix.Member name place) ≡ suffix.Member name place)
    (index : (key : Expression) (place : Place)
    → g (suffix.Index key place) ≡ suffix.Index (form key) place)
    (call : (arguments : List Expression) (place : Place)
    → g (suffix.Call arguments place) ≡ suffix.Call (map form arguments) place) where
  suffix_is : (x : Suffix Expression) → g x ≡ suffix_of x
  suffix_is (suffix.Member name place) = member name place
  suffix_is (suffix.Index key place) = index key place
  suffix_is (suffix.Call arguments place) = call arguments place

-- a level of an expression, with what each part is listed as in its place
abbrev level : Expression-F Expression Statement Case → Expression-F Form (Unit {0}) (Unit {0})
level = map-Expression Expression Statement Case Form (Unit {0}) (Unit {0}) form (λ _. tt) (λ _. tt)

-- an expression is listed as its level
formed : {x : Expression} (y : Expression-F Expression Statement Case) → roll-Expression y ≡ x
    → (scene : Scene) (l : Listing) → form x scene l ≡ form_step (level y) scene l
unfolding form
formed y rolled scene l =
    ap (λ (f : Form). f scene l) (ap form (sym rolled)
    ∙ fold-roll-Expression Form (Unit {0}) (Unit {0}) form_step (λ _. tt) (λ _. tt) y)

pub of_this : (place : Place) (scene : Scene) (l : Listing)
    → form (e.This place) scene l ≡ valued (with_copy scene place (register 1) l)
of_this place scene l = formed _ (rolls-This place) scene l

pub of_name : (name : Name) (scene : Scene) (l : Listing)
    → form (e.Name name) scene l ≡ with_name name.text name.place scene l
of_name name scene l = formed _ (rolls-Name name) scene l

pub of_literal : (value : Primitive) (place : Place) (scene : Scene) (l : Listing)
    → form (e.Literal value place) scene l ≡ valued (with_const scene place value l)
of_literal value place scene l = formed _ (rolls-Literal value place) scene l

pub of_array : (elements : List (Option Expression)) (place : Place) (scene : Scene) (l : Listing)
    → form (e.Array elements place) scene l
    ≡ valued (list_array (map element_of elements) place scene l)
of_array elements place scene l =
    formed _ (rolls-Array elements place) scene l
    ∙ ap (λ (xs : List (Option Form)). valued (list_array xs place scene l))
    (map_alike _ element_of (element_is _ refl (λ v. refl)) elements)

pub of_object : (properties : List (Property Expression)) (place : Place) (scene : Scene)
    (l : Listing) → form (e.Object properties place) scene l
    ≡ valued (list_object (map property_of properties) place scene l)
of_object properties place scene l =
    formed _ (rolls-Object properties place) scene l
    ∙ ap (λ (xs : List Member). valued (list_object xs place scene l))
    (map_after _ member_of property_of (λ p. refl) properties)

pub of_function : (function : FunctionOf Statement) (scene : Scene) (l : Listing)
    → form (e.Function function) scene l ≡ valued
    (list_function function.name function.place scene l)
of_function function scene l = formed _ (rolls-Function function) scene l

pub of_chain : (head : Expression) (suffixes : List (Suffix Expression)) (scene : Scene)
    (l : Listing) → form (e.Chain head suffixes) scene l
    ≡ fold (with_suffix scene) (form head scene l) (map suffix_of suffixes)
of_chain head suffixes scene l =
    formed _ (rolls-Chain head suffixes) scene l
    ∙ ap (λ (xs : List (Suffix Form)). fold (with_suffix scene) (form head scene l) xs)
    (map_alike _ suffix_of (suffix_is _ (λ n p. refl) (λ k p. refl) (λ xs p. refl)) suffixes)

pub of_new : (callee : Expression) (arguments : List Expression) (place : Place) (scene : Scene)
    (l : Listing) → form (e.New callee arguments place) scene l
    ≡ valued (list_new (form callee) (map form arguments) place scene l)
of_new callee arguments place scene l = formed _ (rolls-New callee arguments place) scene l

pub of_unary : (operator : UnaryOperator) (operand : Expression) (place : Place) (scene : Scene)
    (l : Listing) → form (e.Unary operator operand place) scene l
    ≡ valued (list_unary operator (form operand) place scene l)
of_unary operator operand place scene l = formed _ (rolls-Unary operator operand place) scene l

pub of_update : (operator : UpdateOperator) (operand : Expression) (place : Place) (scene : Scene)
    (l : Listing) → form (e.Update operator operand place) scene l
    ≡ valued (list_update operator (form operand) place scene l)
of_update operator operand place scene l = formed _ (rolls-Update operator operand place) scene l

pub of_binary : (first : Expression) (operations : List (Operation Expression)) (place : Place)
    (scene : Scene) (l : Listing) → form (e.Binary first operations place) scene l
    ≡ valued (apply_operations place (map operation_of operations) scene
    (value_of (form first) scene l))
of_binary first operations place scene l =
    formed _ (rolls-Binary first operations place) scene l
    ∙ ap (λ (xs : List (Operation Form)).
    valued (apply_operations place xs scene (value_of (form first) scene l)))
    (map_alike _ operation_of (λ o. refl) operations)

pub of_conditional : (condition consequent otherwise : Expression) (place : Place) (scene : Scene)
    (l : Listing) → form (e.Conditional condition consequent otherwise place) scene l
    ≡ valued (list_conditional (form condition) (form consequent) (form otherwise) place scene l)
of_conditional condition consequent otherwise place scene l =
    formed _ (rolls-Conditional condition consequent otherwise place) scene l

pub of_assign : (target : Expression) (operator : Option BinaryOperator) (value : Expression)
    (place : Place) (scene : Scene) (l : Listing)
    → form (e.Assign target operator value place) scene l
    ≡ valued (list_assignment (form target) operator (form value) place scene l)
of_assign target operator value place scene l =
    formed _ (rolls-Assign target operator value place) scene l

pub of_sequence : (first : Expression) (others : List Expression) (place : Place) (scene : Scene)
    (l : Listing) → form (e.Sequence first others place) scene l
    ≡ valued (list_others (map form others) scene (value_of (form first) scene l))
of_sequence first others place scene l = formed _ (rolls-Sequence first others place) scene l
