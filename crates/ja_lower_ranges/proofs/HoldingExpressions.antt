-- What each expression lists holds, where its names and functions are reached.
use Rattle.std.proofs.Common.{List, [], ◌∷◌, ◌++◌, map, Option, Some, None, sym, subst}
use Rattle.std.specs.List.{AllByRecursion, fold, flat_map}
use Rattle.ja_base.specs.declared.ids.Place.{Place}
use Rattle.ja_base.proofs.Lists.{all_left, all_right}
use Rattle.ja_syntax.specs.declared.tree.BinaryOperator.{BinaryOperator}
use Rattle.ja_syntax.specs.declared.tree.Name.{Name}
use Rattle.ja_syntax.specs.declared.tree.Operation.{Operation}
use Rattle.ja_syntax.specs.declared.tree.Property.{Property}
use Rattle.ja_syntax.specs.declared.tree.Suffix.{Suffix}
use Rattle.ja_syntax.specs.declared.tree.Suffix.TheVariants as suffix
use Rattle.ja_syntax.specs.declared.tree.Case.{Case}
use Rattle.ja_syntax.specs.declared.tree.Statement.{Statement}
use Rattle.ja_syntax.specs.declared.tree.Expression.{Expression, roll-Expression}
use Rattle.ja_syntax.specs.declared.tree.Expression.TheOpen.{Expression-F}
use Rattle.ja_syntax.specs.declared.tree.Expression.TheFolds.{fold-roll-Expression, ind-Expression, map-Expression}
use Rattle.ja_lower_draft.specs.Lines.{Listing, Valued, register}
use Rattle.ja_lower_expressions.specs.References.{Listed, Form}
use Rattle.ja_lower_expressions.specs.Expressions.{with_suffix, apply_operations, list_others, member_of, list_assignment, form_step, form}
use Rattle.ja_lower_names.specs.TextOrder.{Parts, one_variable, if_any, in_name, in_property_name, in_property, in_suffix, in_operation, expression_step}
use Rattle.ja_lower_names.specs.code.TextOrder.{in_expression}
use Rattle.ja_lower_names.proofs.TextOrderLemmas.{Expressions, expression_layer, expression_opened}
use Rattle.ja_lower_ranges.proofs.Holding.{Text, ReachesFunction, Reaches, ReachesAll, Context, scene_at, Holds, HoldsValued, HoldsListed, HoldsForm, holds_const, holds_copy}
use Rattle.ja_lower_ranges.proofs.HoldingOperands.{holds_valued, holds_get_value, holds_name, holds_member, holds_element, holds_value_of, holds_list_unary, holds_list_update, holds_conditional, holds_operation, holds_assign, holds_assign_by}
use Rattle.ja_lower_ranges.proofs.HoldingCalls.{HoldsElement, HoldsMember, holds_array, holds_object_literal, holds_function, holds_call, holds_new}

-- ---- suffixes, operations, properties and commas

abbrev HoldsSuffix : Text → Suffix Form → Type 0
HoldsSuffix t (suffix.Member name place) = Unit {0}
HoldsSuffix t (suffix.Index key place) = HoldsForm t key
HoldsSuffix t (suffix.Call arguments place) = AllByRecursion (HoldsForm t) arguments

abbrev HoldsOperation : Text → Operation Form → Type 0
HoldsOperation t o = HoldsForm t o.right

abbrev HoldsProperty : Text → Property Form → Type 0
HoldsProperty t p = HoldsForm t p.value

each_member : (t : Text) (properties : List (Property Form))
    → AllByRecursion (HoldsProperty t) properties
    → AllByRecursion (HoldsMember t) (map member_of properties)
each_member t [] fine = tt
each_member t (p ∷ properties) fine = (fine.0, each_member t properties fine.1)

module _ {t : Text} {c : Context t} where
  holds_suffix : {r : Listed} (s : Suffix Form) → HoldsSuffix t s → HoldsListed c r
      → HoldsListed c (with_suffix (scene_at c) r s)
  holds_suffix {r} (suffix.Member name place) fine h =
      holds_member name.text place _ (holds_get_value r.outcome h.outcome h.listing).listing
  holds_suffix {r} (suffix.Index key place) fine h =
      let v = holds_get_value r.outcome h.outcome h.listing in
      holds_element place _ _ (holds_value_of key fine v.listing).listing
  holds_suffix {r} (suffix.Call arguments place) fine h =
      holds_valued (holds_call arguments place r.outcome fine h.outcome h.listing)

  holds_suffixes : (suffixes : List (Suffix Form)) {r : Listed}
      → AllByRecursion (HoldsSuffix t) suffixes → HoldsListed c r
      → HoldsListed c (fold (with_suffix (scene_at c)) r suffixes)
  holds_suffixes [] fine h = h
  holds_suffixes (s ∷ suffixes) fine h = holds_suffixes suffixes fine.1 (holds_suffix s fine.0 h)

  holds_operations : (first : Place) (operations : List (Operation Form)) {v : Valued}
      → AllByRecursion (HoldsOperation t) operations → HoldsValued c v
      → HoldsValued c (apply_operations first operations (scene_at c) v)
  unfolding apply_operations
  holds_operations first [] fine h = h
  holds_operations first (o ∷ operations) fine h =
      holds_operations first operations fine.1
      (holds_operation o.operator o.right first o.place fine.0 h)

  holds_others : (others : List Form) {v : Valued} → AllByRecursion (HoldsForm t) others
      → HoldsValued c v → HoldsValued c (list_others others (scene_at c) v)
  unfolding list_others
  holds_others [] fine h = h
  holds_others (x ∷ others) fine h = holds_others others fine.1 (holds_value_of x fine.0 h.listing)

  holds_assignment : {l : Listing} (target : Form) (operator : Option BinaryOperator)
      (value : Form) (place : Place) → HoldsForm t target → HoldsForm t value → Holds c l
      → HoldsValued c (list_assignment target operator value place (scene_at c) l)
  holds_assignment target None value place first second h =
      holds_assign target value place first second h
  holds_assignment target (Some operator) value place first second h =
      holds_assign_by operator target value place first second h

-- ---- one level of an expression

-- what the forms of a level hold
abbrev HoldsLevel : {S C : Type 0} → Text → Expression-F Form S C → Type 0
HoldsLevel t (Expression-F.This place) = Unit {0}
HoldsLevel t (Expression-F.Name name) = ReachesAll t (one_variable name.text)
HoldsLevel t (Expression-F.Literal value place) = Unit {0}
HoldsLevel t (Expression-F.Array elements place) = AllByRecursion (HoldsElement t) elements
HoldsLevel t (Expression-F.Object properties place) = AllByRecursion (HoldsProperty t) properties
HoldsLevel t (Expression-F.Expression::Function function) =
    ReachesFunction t function.place × ReachesAll t (if_any in_name function.name)
HoldsLevel t (Expression-F.Chain head suffixes) =
    HoldsForm t head × AllByRecursion (HoldsSuffix t) suffixes
HoldsLevel t (Expression-F.New callee arguments place) =
    HoldsForm t callee × AllByRecursion (HoldsForm t) arguments
HoldsLevel t (Expression-F.Unary operator operand place) = HoldsForm t operand
HoldsLevel t (Expression-F.Update operator operand place) = HoldsForm t operand
HoldsLevel t (Expression-F.Binary first operations place) =
    HoldsForm t first × AllByRecursion (HoldsOperation t) operations
HoldsLevel t (Expression-F.Conditional condition consequent otherwise place) =
    HoldsForm t condition × HoldsForm t consequent × HoldsForm t otherwise
HoldsLevel t (Expression-F.Assign target operator value place) =
    HoldsForm t target × HoldsForm t value
HoldsLevel t (Expression-F.Sequence first others place) =
    HoldsForm t first × AllByRecursion (HoldsForm t) others

holds_step : {S C : Type 0} {t : Text} (x : Expression-F Form S C) → HoldsLevel t x
    → HoldsForm t (form_step x)
holds_step (Expression-F.This place) fine c l h = holds_valued (holds_copy place (register 1) h)
holds_step (Expression-F.Name name) fine c l h = holds_name name.text name.place fine c l h
holds_step (Expression-F.Literal value place) fine c l h = holds_valued (holds_const place value h)
holds_step (Expression-F.Array elements place) fine c l h =
    holds_valued (holds_array elements place fine h)
holds_step (Expression-F.Object properties place) fine c l h =
    holds_valued (holds_object_literal (map member_of properties) place
    (each_member _ properties fine) h)
holds_step (Expression-F.Expression::Function function) fine c l h =
    holds_valued (holds_function function.name function.place fine.0 fine.1 h)
holds_step (Expression-F.Chain head suffixes) fine c l h =
    holds_suffixes suffixes fine.1 (fine.0 c l h)
holds_step (Expression-F.New callee arguments place) fine c l h =
    holds_valued (holds_new callee arguments place fine.0 fine.1 h)
holds_step (Expression-F.Unary operator operand place) fine c l h =
    holds_valued (holds_list_unary operator operand place fine h)
holds_step (Expression-F.Update operator operand place) fine c l h =
    holds_valued (holds_list_update operator operand place fine h)
holds_step (Expression-F.Binary first operations place) fine c l h =
    holds_valued (holds_operations place operations fine.1 (holds_value_of first fine.0 h))
holds_step (Expression-F.Conditional condition consequent otherwise place) fine c l h =
    holds_valued (holds_conditional condition consequent otherwise place fine.0 fine.1 fine.2 h)
holds_step (Expression-F.Assign target operator value place) fine c l h =
    holds_valued (holds_assignment target operator value place fine.0 fine.1 h)
holds_step (Expression-F.Sequence first others place) fine c l h =
    holds_valued (holds_others others fine.1 (holds_value_of first fine.0 h))

-- ---- whole expressions

-- what holds of each variant of a part
module _ {A : Type 0} where
  pub each_option : (P : Option A → Type 0) → P None → ((x : A) → P (Some x)) → (o : Option A) → P o
  each_option P empty full None = empty
  each_option P empty full (Some x) = full x

  pub each_suffix : (P : Suffix A → Type 0)
      → ((name : Name) (place : Place) → P (suffix.Member name place))
      → ((key : A) (place : Place) → P (suffix.Index key place))
      → ((arguments : List A) (place : Place) → P (suffix.Call arguments place))
      → (x : Suffix A) → P x
  each_suffix P member index call (suffix.Member name place) = member name place
  each_suffix P member index call (suffix.Index key place) = index key place
  each_suffix P member index call (suffix.Call arguments place) = call arguments place

module _ (t : Text) where
  abbrev HoldsAt : Expression → Type 0
  HoldsAt e = ReachesAll t (in_expression e) → HoldsForm t (form e)

  -- an expression with the fact
  abbrev Proved : Type 0
  Proved = (e : Expression) × HoldsAt e

  all_mapped : {A B C D : Type 0} (P : C → Type 0) (inner : D → Parts) (f : A → B) (k : B → C)
      (j : B → D) → ((x : A) → ReachesAll t (inner (j (f x))) → P (k (f x))) → (xs : List A)
      → ReachesAll t (flat_map inner (map j (map f xs))) → AllByRecursion P (map k (map f xs))
  all_mapped P inner f k j each [] has = tt
  all_mapped P inner f k j each (x ∷ xs) has =
      let others = flat_map inner (map j (map f xs)) in (
        each x (all_left (Reaches t) (inner (j (f x))) others has),
        all_mapped P inner f k j each xs (all_right (Reaches t) (inner (j (f x))) others has),
      )

  all_forms : (xs : List Proved)
      → ReachesAll t (flat_map (λ (p : Expressions). p.1)
      (map (λ x. (x, in_expression x)) (map (λ (e : Proved). e.0) xs)))
      → AllByRecursion (HoldsForm t) (map form (map (λ (e : Proved). e.0) xs))
  all_forms xs h =
      all_mapped (HoldsForm t) (λ (p : Expressions). p.1) (λ (e : Proved). e.0) form
      (λ x. (x, in_expression x)) (λ e. e.1) xs h

  -- a level with a proof beside each expression inside
  abbrev WithProofs : Type 0
  WithProofs = Expression-F Proved (Statement × Unit {0}) (Case × Unit {0})

  abbrev without_proofs : WithProofs → Expression-F Expression Statement Case
  without_proofs =
      map-Expression Proved (Statement × Unit {0}) (Case × Unit {0}) Expression Statement Case
      (λ e. e.0) (λ s. s.0) (λ c. c.0)

  abbrev with_forms : Expression-F Expression Statement Case
      → Expression-F Form (Unit {0}) (Unit {0})
  with_forms =
      map-Expression Expression Statement Case Form (Unit {0}) (Unit {0}) form (λ _. tt) (λ _. tt)

  holds_level : (y : WithProofs)
      → ReachesAll t (expression_step (expression_layer (without_proofs y)))
      → HoldsLevel t (with_forms (without_proofs y))
  holds_level (Expression-F.This place) h = tt
  holds_level (Expression-F.Name name) h = h
  holds_level (Expression-F.Literal value place) h = tt
  holds_level (Expression-F.Array elements place) h =
      all_mapped (HoldsElement t) (if_any (λ (p : Expressions). p.1)) _ _ _
      (each_option _ (λ h. tt) (λ e. e.1)) elements h
  holds_level (Expression-F.Object properties place) h =
      all_mapped (HoldsProperty t) (in_property (λ (p : Expressions). p.1)) _ _ _
      (λ p h. p.value.1 (all_right (Reaches t) (in_property_name p.name)
      (in_expression p.value.0) h)) properties h
  holds_level (Expression-F.Expression::Function function) h =
      (h.0, all_left (Reaches t) (if_any in_name function.name) _ h.1)
  holds_level (Expression-F.Chain head suffixes) h = (
    head.1 (all_left (Reaches t) (in_expression head.0) _ h),
    all_mapped (HoldsSuffix t) (in_suffix (λ (p : Expressions). p.1)) _ _ _
        (each_suffix _ (λ n p h. tt) (λ key p. key.1) (λ xs p. all_forms xs)) suffixes
        (all_right (Reaches t) (in_expression head.0) _ h),
  )
  holds_level (Expression-F.New callee arguments place) h = (
    callee.1 (all_left (Reaches t) (in_expression callee.0) _ h),
    all_forms arguments (all_right (Reaches t) (in_expression callee.0) _ h),
  )
  holds_level (Expression-F.Unary operator operand place) h = operand.1 h
  holds_level (Expression-F.Update operator operand place) h = operand.1 h
  holds_level (Expression-F.Binary first operations place) h = (
    first.1 (all_left (Reaches t) (in_expression first.0) _ h),
    all_mapped (HoldsOperation t) (in_operation (λ (p : Expressions). p.1)) _ _ _
        (λ o. o.right.1) operations (all_right (Reaches t) (in_expression first.0) _ h),
  )
  holds_level (Expression-F.Conditional condition consequent otherwise place) h =
      let others = all_right (Reaches t) (in_expression condition.0)
      (in_expression consequent.0 ++ in_expression otherwise.0) h in (
        condition.1 (all_left (Reaches t) (in_expression condition.0) _ h),
        consequent.1 (all_left (Reaches t) (in_expression consequent.0) _ others),
        otherwise.1 (all_right (Reaches t) (in_expression consequent.0) _ others),
      )
  holds_level (Expression-F.Assign target operator value place) h = (
    target.1 (all_left (Reaches t) (in_expression target.0) _ h),
    value.1 (all_right (Reaches t) (in_expression target.0) _ h),
  )
  holds_level (Expression-F.Sequence first others place) h = (
    first.1 (all_left (Reaches t) (in_expression first.0) _ h),
    all_forms others (all_right (Reaches t) (in_expression first.0) _ h),
  )

  opened : (x : Expression-F Expression Statement Case)
      → (ReachesAll t (expression_step (expression_layer x)) → HoldsLevel t (with_forms x))
      → HoldsAt (roll-Expression x)
  unfolding form
  opened x fine has =
      subst (λ (f : Form). HoldsForm t f)
      (sym (fold-roll-Expression Form (Unit {0}) (Unit {0}) form_step (λ _. tt) (λ _. tt) x))
      (holds_step (with_forms x) (fine (subst (ReachesAll t) (expression_opened x) has)))

  pub holds_form : (e : Expression) → ReachesAll t (in_expression e) → HoldsForm t (form e)
  holds_form =
      ind-Expression HoldsAt (λ s. Unit {0}) (λ c. Unit {0})
      (λ x y is. subst (λ z. HoldsAt (roll-Expression z)) is
      (opened (without_proofs y) (holds_level y)))
      (λ x y is. tt) (λ x y is. tt)
