-- What enters a function, fills its entry and is given back from it, computed.
use Rattle.std.specs.Prelude.{◌≡◌, ℕ, if◌then◌else◌, ◌==◌, List, [], ◌∷◌, None, map, String}
use Rattle.std.specs.Global.{Global}
use Rattle.std.proofs.Common.{refl}
use Rattle.ja_base.specs.declared.ids.Label.{Label}
use Rattle.ja_base.specs.declared.ids.Reg.{Reg}
use Rattle.ja_abstract.specs.declared.abstraction.Key.{Key}
use Rattle.ja_graph.specs.declared.attrs.TheConstants.{DONT_ENUM, KEPT_HIDDEN}
use Rattle.ja_graph.specs.declared.builtins.TheConstants as builtins
use Rattle.ja_graph.specs.declared.node.Node.{Node}
use Rattle.ja_graph.specs.declared.node.Node.TheVariants as node
use Rattle.ja_graph.specs.declared.node.Args.TheVariants as args
use Rattle.ja_graph.specs.declared.node.Hint.TheVariants as hint
use Rattle.ja_abstract.specs.declared.abstraction.NumberPart.TheVariants as number_part
use Rattle.ja_abstract.specs.AbstractValue.{AbstractValue, AbstractProperty, join, join_properties, no_value, null_value, undefined_value, absent_value, bare, absent_property, entry_property, of_label}
use Rattle.ja_abstract.specs.AbstractState.{AbstractState, new, exactly_none, exactly_some, join_masks, with_property}
use Rattle.ja_abstract.specs.Resolved.{prototype}
use Rattle.ja_abstract.specs.Made.{scope_key}
use Rattle.ja_abstract.specs.Primitives.{of_number_part, whole_value}
use Rattle.ja_laws.proofs.SmallProgram.{object_site, error_site, reg, blank, holding, number, true_value, with_attrs, plain, global_object, object, old_objects, array, function_object, proto, plain_function, SeenValue, SeenProperty, length_name, prototype_name, p_name, q_name, zero_name, info, view, seen, seen_at, seen_property}
use Rattle.ja_rows.specs.Out.{Given}
use Rattle.ja_rows.specs.Calls.{filled_with, given_back}
use Rattle.ja_abstract.specs.declared.abstraction.Mask.{Mask}
use Rattle.ja_laws.proofs.SmallSteps.{edge, enter_demands, register, enters}

module _ (text : String Global) where
  -- ---- Enter

  abbrev call : List Reg → Node
  call list = node.Call (reg 6) (reg 7) (reg 8) (args.Registers list) error_site

  abbrev calling : AbstractProperty → AbstractState
  calling chain = holding 7 (join (of_label function_object) (of_label plain_function))
      (holding 8 (of_label object) (holding 9 (number 5)
      (holding 10 null_value (with_property blank function_object scope_key chain))))

  abbrev entered : List Reg → ℕ → SeenValue
  entered list r = register r (enters text (call list) (calling (bare (of_label global_object))) 1
      object)

  abbrev one : List Reg
  one = reg 9 ∷ []

  enters_this : entered one 1 ≡ seen (of_label object)
  enters_this = refl

  enters_scope : entered one 2 ≡ seen (of_label global_object)
  enters_scope = refl

  -- of the callees those that run this function
  enters_callee : entered one 3 ≡ seen (of_label function_object)
  enters_callee = refl

  enters_count : entered one 4 ≡ seen (number 1)
  enters_count = refl

  enters_parameter : entered one 5 ≡ seen (number 5)
  enters_parameter = refl

  enters_missing : entered one 6 ≡ seen undefined_value
  enters_missing = refl

  enters_rest : entered (reg 9 ∷ reg 9 ∷ reg 10 ∷ []) 7 ≡ seen (join undefined_value null_value)
  enters_rest = refl

  enters_no_rest : entered (reg 9 ∷ reg 10 ∷ []) 7 ≡ seen undefined_value
  enters_no_rest = refl

  enters_as_at_entry : seen_at function_object scope_key
      (enters text (call one) (calling (bare (of_label global_object))) 1 object)
      ≡ seen_property entry_property
  enters_as_at_entry = refl

  enters_with_nothing_made : (enters text (call one)
      (record (calling absent_property) { mask = λ s. exactly_some }) 1 object).mask object_site.0
      ≡ exactly_none
  enters_with_nothing_made = refl

  scope_is_demanded : enter_demands text (call one) (calling entry_property) 1
      (scope_key ∷ prototype_name ∷ []) ≡ (scope_key, function_object ∷ []) ∷ (prototype_name, [])
      ∷ []
  scope_is_demanded = refl

  -- ---- .. by a conversion

  abbrev converted : ℕ → SeenValue
  converted r = register r (enters text (node.Convert (reg 6) (reg 8) hint.Number None)
      (calling absent_property) 2 object)

  converts_this : converted 1 ≡ seen (of_label object)
  converts_this = refl

  converts_scope : converted 2 ≡ seen (of_label global_object)
  converts_scope = refl

  converts_callee : converted 3 ≡ seen undefined_value
  converts_callee = refl

  converts_count : converted 4 ≡ seen (number 0)
  converts_count = refl

  -- ---- .. with elements

  abbrev spread : Node
  spread = node.Call (reg 6) (reg 7) (reg 8) (args.Elements (reg 9)) error_site

  abbrev elements : AbstractValue → ℕ → SeenValue
  elements n r = register r (enters text spread (holding 9 (of_label array)
      (with_property (with_property (calling absent_property) array zero_name (plain null_value))
      array length_name (with_attrs n KEPT_HIDDEN))) 1 object)

  element_parameter : elements (number 1) 5 ≡ seen (join undefined_value null_value)
  element_parameter = refl

  element_rest : elements (number 1) 7 ≡ seen (join undefined_value null_value)
  element_rest = refl

  element_count : elements (number 1) 4 ≡ seen (number 1)
  element_count = refl

  -- an object counts as 0
  element_count_of_object : elements (join (of_label object) (number 1)) 4
      ≡ seen (of_number_part number_part.Index)
  element_count_of_object = refl

  element_count_of_absent : elements absent_value 4 ≡ seen (number 0)
  element_count_of_absent = refl

  element_demands : enter_demands text spread (holding 9 (of_label array)
      (with_property (calling absent_property) array length_name entry_property)) 1
      (length_name ∷ []) ≡ (length_name, array ∷ []) ∷ []
  element_demands = refl

  -- ---- .. with the arguments from the second on

  abbrev tail : Node
  tail = node.Call (reg 6) (reg 7) (reg 8) args.Tail error_site

  -- the node stands in function 1, whose register 7 has the rest of its arguments

  abbrev tailed : AbstractValue → ℕ → SeenValue
  tailed n r = register r (enters text tail (holding 4 n
      (holding 7 (join true_value (of_label function_object)) (calling absent_property))) 1 object)

  tail_parameter : tailed (number 3) 5 ≡ seen (join true_value (of_label function_object))
  tail_parameter = refl

  tail_count : tailed (number 3) 4 ≡ seen (number 2)
  tail_count = refl

  tail_count_of_none : tailed (number 0) 4 ≡ seen (number 0)
  tail_count_of_none = refl

  tail_count_of_class : tailed (of_number_part number_part.Index) 4 ≡ seen whole_value
  tail_count_of_class = refl

  tail_count_of_nothing : tailed no_value 4 ≡ seen no_value
  tail_count_of_nothing = refl

  -- ---- .. by a construction

  abbrev construct : Node
  construct = node.New (reg 6) (reg 7) (reg 8 ∷ []) object_site error_site

  abbrev constructing : AbstractValue → AbstractState
  constructing v = with_property (calling absent_property) function_object prototype_name (plain v)

  constructs_this : register 1 (enters text construct (constructing (of_label proto)) 1 object)
      ≡ seen (of_label object)
  constructs_this = refl

  -- the object is made before the arguments are read
  argument_is_renamed : register 5 (enters text construct (constructing (of_label proto)) 1 object)
      ≡ seen (of_label old_objects)
  argument_is_renamed = refl

  construct_demands : enter_demands text construct (with_property (calling absent_property)
      function_object prototype_name entry_property) 1 (prototype_name ∷ scope_key ∷ [])
      ≡ (prototype_name, function_object ∷ []) ∷ (scope_key, []) ∷ []
  construct_demands = refl

  -- ---- Fill

  abbrev filled : Node → AbstractState → Label → Key → SeenProperty
  filled n a l k = seen_property (filled_with (view text a) (edge 1 object) n l k)

  fills_what_is_there : filled (call one) (with_property (calling absent_property) object p_name
      (with_attrs null_value DONT_ENUM)) object p_name
      ≡ seen_property (with_attrs null_value DONT_ENUM)
  fills_what_is_there = refl

  fills_made_prototype : filled construct (constructing (of_label proto)) object prototype
      ≡ seen_property (bare (of_label proto))
  fills_made_prototype = refl

  fills_prototype_no_object : filled construct (constructing (number 1)) object prototype
      ≡ seen_property (bare (of_label (new builtins.OBJECT_PROTOTYPE)))
  fills_prototype_no_object = refl

  fills_made_object : filled construct (constructing (of_label proto)) object p_name
      ≡ seen_property absent_property
  fills_made_object = refl

  fills_renamed : filled construct (with_property (constructing (of_label proto)) array p_name
      (plain (of_label object))) array p_name ≡ seen_property (plain (of_label old_objects))
  fills_renamed = refl

  -- ---- Give back

  -- an exit with a value in register 5, and one that throws; but for one property all is as at
  -- entry

  abbrev exit : AbstractValue → Mask → AbstractProperty → AbstractState
  exit v m q = record (with_property (record (holding 0 v (holding 5 v blank))
      { property = λ l k. entry_property }) array p_name q)
      { mask = λ s. if s == object_site.0 then m else exactly_none }

  abbrev caller : AbstractState
  caller = with_property (with_property (holding 11 (of_label object) (calling absent_property))
      array q_name (plain null_value)) array p_name (plain (number 1))

  abbrev back : Node → Node → Mask → AbstractValue → AbstractProperty → Given
  back n at m v q = given_back (view text caller) (edge 1 object) (info n) (exit v m q) at

  abbrev returns : Node
  returns = node.Return (reg 5)

  abbrev of : {A : Type 0} → (AbstractState → A) → Given → List (ℕ × A)
  of = λ see. map (λ g. (g.0, see g.1))

  returns_value : of (register 6) (back (call one) returns exactly_none (number 2) entry_property)
      ≡ (1, seen (number 2)) ∷ []
  returns_value = refl

  returns_nothing : back (call one) returns exactly_none no_value entry_property ≡ []
  returns_nothing = refl

  escapes_to_handler : of (register 0) (back (call one) node.Escape exactly_none (number 2)
      entry_property) ≡ (3, seen (number 2)) ∷ []
  escapes_to_handler = refl

  caller_stays : of (register 11) (back (call one) returns exactly_none (number 2) entry_property)
      ≡ (1, seen (of_label object)) ∷ []
  caller_stays = refl

  -- the callee made an object there
  caller_is_renamed : of (register 11) (back (call one) returns exactly_some (number 2)
      entry_property) ≡ (1, seen (of_label old_objects)) ∷ []
  caller_is_renamed = refl

  caller_maybe_renamed : of (register 11) (back (call one) returns
      (join_masks exactly_none exactly_some) (number 2) entry_property)
      ≡ (1, seen (join (of_label object) (of_label old_objects))) ∷ []
  caller_maybe_renamed = refl

  callers_property_stays : of (seen_at array q_name)
      (back (call one) returns exactly_none (number 2) entry_property)
      ≡ (1, seen_property (plain null_value)) ∷ []
  callers_property_stays = refl

  callees_property_is_known : of (seen_at array p_name)
      (back (call one) returns exactly_none (number 2) (plain true_value))
      ≡ (1, seen_property (plain true_value)) ∷ []
  callees_property_is_known = refl

  either_property : of (seen_at array p_name) (back (call one) returns exactly_none (number 2)
      (join_properties entry_property (plain true_value)))
      ≡ (1, seen_property (plain (join true_value (number 1)))) ∷ []
  either_property = refl

  masks_of_callee : of (λ a. a.mask object_site.0) (back (call one) returns exactly_some (number 2)
      entry_property) ≡ (1, exactly_some) ∷ []
  masks_of_callee = refl

  -- what the caller made before stays made
  masks_of_caller : of (λ a. a.mask object_site.0) (given_back
      (view text (record caller { mask = λ s. exactly_some })) (edge 1 object) (info (call one))
      (exit null_value exactly_none entry_property) returns) ≡ (1, exactly_some) ∷ []
  masks_of_caller = refl

  masks_of_neither : of (λ a. a.mask object_site.0)
      (back (call one) returns exactly_none (number 2) entry_property) ≡ (1, exactly_none) ∷ []
  masks_of_neither = refl

  construction_gives_receiver : of (register 6) (back construct returns exactly_none (number 2)
      entry_property) ≡ (1, seen (of_label object)) ∷ []
  construction_gives_receiver = refl

  construction_gives_object : of (register 6) (back construct returns exactly_none (of_label array)
      entry_property) ≡ (1, seen (of_label array)) ∷ []
  construction_gives_object = refl

  receiver_is_renamed : of (register 6) (back construct returns exactly_some undefined_value
      entry_property) ≡ (1, seen (of_label old_objects)) ∷ []
  receiver_is_renamed = refl

  construction_is_counted : of (λ a. a.mask object_site.0)
      (back construct returns exactly_none undefined_value entry_property) ≡ (1, exactly_some) ∷ []
  construction_is_counted = refl

  conversion_returns : of (register 6) (back (node.Convert (reg 6) (reg 8) hint.Number None) returns
      exactly_none (number 2) entry_property) ≡ (1, seen (number 2)) ∷ []
  conversion_returns = refl

  no_exit : back (call one) (node.Move (reg 6) (reg 7)) exactly_none (number 2) entry_property ≡ []
  no_exit = refl
