-- Expressions (ES3 11): how each is listed.
use Rattle.std.specs.Prelude.{List, [], ◌∷◌, map, Option, Some, None}
use Rattle.std.specs.List.{fold}
use Rattle.ja_base.specs.declared.ids.Place.{Place}
use Rattle.ja_syntax.specs.declared.tree.BinaryOperator.{BinaryOperator}
use Rattle.ja_syntax.specs.declared.tree.Operation.{Operation}
use Rattle.ja_syntax.specs.declared.tree.Property.{Property}
use Rattle.ja_syntax.specs.declared.tree.Suffix.{Suffix}
use Rattle.ja_syntax.specs.declared.tree.Suffix.TheVariants as suffix
use Rattle.ja_syntax.specs.declared.tree.Expression.{Expression}
use Rattle.ja_syntax.specs.declared.tree.Expression.TheOpen.{Expression-F}
use Rattle.ja_syntax.specs.declared.tree.Expression.TheFolds.{fold-Expression}
use Rattle.ja_lower_draft.specs.Lines.{Listing, Valued, Scene, register, with_const, with_copy}
use Rattle.ja_lower_expressions.specs.References.{Listed, Form, valued, get_value, value_of, with_name, with_member, with_element}
use Rattle.ja_lower_expressions.specs.Operators.{list_unary, list_update, apply_operation, list_conditional, assign, assign_by}
use Rattle.ja_lower_expressions.specs.Literals.{Member, list_array, list_object, list_function}
use Rattle.ja_lower_expressions.specs.Calls.{list_call, list_new}

-- a suffix behind what stands before it (11.2)
abbrev pub with_suffix : Scene → Listed → Suffix Form → Listed
with_suffix scene r (suffix.Member name place) =
    let v = get_value scene r.outcome r.listing in
    with_member name.text place scene v.value v.listing
with_suffix scene r (suffix.Index key place) =
    let v = get_value scene r.outcome r.listing in
    let k = value_of key scene v.listing in
    with_element place scene v.value k.value k.listing
with_suffix scene r (suffix.Call arguments place) =
    valued (list_call arguments place scene r.outcome r.listing)

-- operations behind a first operand, from the left to the right
unfoldable pub apply_operations : Place → List (Operation Form) → Scene → Valued → Valued
apply_operations first [] scene v = v
apply_operations first (o ∷ os) scene v =
    apply_operations first os scene (apply_operation o.operator o.right first o.place scene v)

-- expressions between commas: the value is that of the last one (11.14)
unfoldable pub list_others : List Form → Scene → Valued → Valued
list_others [] scene v = v
list_others (x ∷ xs) scene v = list_others xs scene (value_of x scene v.listing)

abbrev pub member_of : Property Form → Member
member_of p = record { name = p.name; value = p.value }

abbrev pub list_assignment : Form → Option BinaryOperator → Form → Place → Scene → Listing → Valued
list_assignment target None value place scene l = assign target value place scene l
list_assignment target (Some operator) value place scene l =
    assign_by operator target value place scene l

-- one level of an expression, with what each expression inside is in its place
abbrev pub form_step : {S C : Type 0} → Expression-F Form S C → Form
form_step (Expression-F.This place) scene l = valued (with_copy scene place (register 1) l)
form_step (Expression-F.Name name) scene l = with_name name.text name.place scene l
form_step (Expression-F.Literal value place) scene l = valued (with_const scene place value l)
form_step (Expression-F.Array elements place) scene l = valued (list_array elements place scene l)
form_step (Expression-F.Object properties place) scene l =
    valued (list_object (map member_of properties) place scene l)
form_step (Expression-F.Expression::Function function) scene l =
    valued (list_function function.name function.place scene l)
form_step (Expression-F.Chain head suffixes) scene l =
    fold (with_suffix scene) (head scene l) suffixes
form_step (Expression-F.New callee arguments place) scene l =
    valued (list_new callee arguments place scene l)
form_step (Expression-F.Unary operator operand place) scene l =
    valued (list_unary operator operand place scene l)
form_step (Expression-F.Update operator operand place) scene l =
    valued (list_update operator operand place scene l)
form_step (Expression-F.Binary first operations place) scene l =
    valued (apply_operations place operations scene (value_of first scene l))
form_step (Expression-F.Conditional condition consequent otherwise place) scene l =
    valued (list_conditional condition consequent otherwise place scene l)
form_step (Expression-F.Assign target operator value place) scene l =
    valued (list_assignment target operator value place scene l)
form_step (Expression-F.Sequence first others place) scene l =
    valued (list_others others scene (value_of first scene l))

unfoldable pub form : Expression → Form
form = fold-Expression Form (Unit {0}) (Unit {0}) form_step (λ _. tt) (λ _. tt)
