-- What the rows of the nodes that make objects, or want them, give, computed.
use Rattle.std.specs.Prelude.{◌≡◌, [], ◌∷◌, String}
use Rattle.std.specs.Global.{Global}
use Rattle.std.proofs.Common.{refl}
use lib.Chars.{codes}
use Rattle.ja_graph.specs.declared.attrs.TheConstants.{ALL_ATTRS, DONT_DELETE, DONT_ENUM, KEPT_HIDDEN}
use Rattle.ja_graph.specs.declared.node.Made.{Made}
use Rattle.ja_graph.specs.declared.builtins.TheConstants as builtins
use Rattle.ja_graph.specs.declared.node.Node.{Node}
use Rattle.ja_graph.specs.declared.node.Node.TheVariants as node
use Rattle.ja_graph.specs.declared.node.Made.TheVariants as made
use Rattle.ja_graph.specs.declared.node.ErrorKind.TheVariants as error_kind
use Rattle.ja_abstract.specs.declared.abstraction.NumberPart.TheVariants as number_part
use Rattle.ja_abstract.specs.declared.abstraction.TextPart.TheVariants as text_part
use Rattle.ja_abstract.specs.AbstractValue.{AbstractValue, join, null_value, undefined_value, bare, absent_property, entry_property, of_label}
use Rattle.ja_abstract.specs.AbstractState.{AbstractState, new, old, name_key, exactly_none, exactly_some, with_property}
use Rattle.ja_abstract.specs.Resolved.{prototype}
use Rattle.ja_abstract.specs.Made.{scope_key, value_key}
use Rattle.ja_abstract.specs.Primitives.{of_number_part, of_text_part, nan_value}
use Rattle.ja_laws.proofs.SmallProgram.{object_site, array_site, function_site, proto_site, arguments_site, error_site, reg, function_id, blank, holding, number, one_text, true_value, with_attrs, plain, object, old_objects, array, function_object, proto, activation, arguments_object, error, message_name, length_name, prototype_name, p_name, seen, seen_property}
use Rattle.ja_laws.proofs.SmallSteps.{seen_in, gives, sets, leaves, goes_to}

module _ (text : String Global) where
  -- ---- ToObject

  abbrev to_object : Node
  to_object = node.ToObject (reg 6) (reg 7) (record
      { boolean = object_site; number = proto_site; text = arguments_site }) error_site

  abbrev of : AbstractValue → AbstractState
  of v = holding 7 v blank

  object_is_itself : sets text to_object (of (of_label array)) 6 ≡ (1, seen (of_label array)) ∷ []
  object_is_itself = refl

  nothing_throws : sets text to_object (of null_value) 0 ≡ (3, seen (of_label error)) ∷ []
  nothing_throws = refl

  nothing_is_type_error : leaves text to_object (of undefined_value) error prototype
      ≡ (3, seen_property (bare (of_label (new builtins.TYPE_ERROR_PROTOTYPE)))) ∷ []
  nothing_is_type_error = refl

  nothing_message : leaves text to_object (of undefined_value) error message_name
      ≡ (3, seen_property (plain (one_text (codes "property of null or undefined")))) ∷ []
  nothing_message = refl

  wraps_text : sets text to_object (of (one_text (codes "ab"))) 6
      ≡ (1, seen (of_label arguments_object)) ∷ []
  wraps_text = refl

  length_of_text : leaves text to_object (of (one_text (codes "ab"))) arguments_object length_name
      ≡ (1, seen_property (with_attrs (number 2) ALL_ATTRS)) ∷ []
  length_of_text = refl

  length_of_text_class : leaves text to_object (of (of_text_part text_part.OtherText))
      arguments_object length_name ≡ (
        1,
        seen_property
            (with_attrs (of_number_part number_part.Index) ALL_ATTRS),
      ) ∷ []
  length_of_text_class = refl

  value_of_text : leaves text to_object (of (one_text (codes "ab"))) arguments_object value_key
      ≡ (1, seen_property (bare (one_text (codes "ab")))) ∷ []
  value_of_text = refl

  prototype_of_text : leaves text to_object (of (one_text (codes "ab"))) arguments_object prototype
      ≡ (1, seen_property (bare (of_label (new builtins.STRING_PROTOTYPE)))) ∷ []
  prototype_of_text = refl

  wraps_each_kind : sets text to_object (of (join true_value (join (number 1) null_value))) 6
      ≡ (1, seen (of_label object)) ∷ (1, seen (of_label proto)) ∷ (3, seen undefined_value) ∷ []
  wraps_each_kind = refl

  value_of_number : leaves text to_object (of (join nan_value (number 1))) proto value_key
      ≡ (1, seen_property (bare (join nan_value (number 1)))) ∷ []
  value_of_number = refl

  -- ---- NeedObject

  abbrev need : Node
  need = node.NeedObject (reg 7) error_site

  object_goes_on : goes_to text need (of (of_label old_objects)) ≡ 1 ∷ []
  object_goes_on = refl

  primitive_throws : sets text need (of (number 1)) 0 ≡ (3, seen (of_label error)) ∷ []
  primitive_throws = refl

  either_way : goes_to text need (of (join (of_label object) undefined_value)) ≡ 1 ∷ 3 ∷ []
  either_way = refl

  -- ---- NewObject

  abbrev make : Made → Node
  make kind = node.NewObject (reg 6) object_site kind

  made_is_new : sets text (make made.Object) blank 6 ≡ (1, seen (of_label object)) ∷ []
  made_is_new = refl

  -- what was new in a register is old
  registers_are_renamed : sets text (make made.Object) (of (of_label object)) 7
      ≡ (1, seen (of_label old_objects)) ∷ []
  registers_are_renamed = refl

  properties_are_renamed : leaves text (make made.Object)
      (with_property blank array p_name (plain (of_label object))) array p_name
      ≡ (1, seen_property (plain (of_label old_objects))) ∷ []
  properties_are_renamed = refl

  old_ones_have_either : leaves text (make made.Object)
      (with_property (with_property blank object p_name (plain (number 1))) old_objects p_name
      (plain (number 2))) old_objects p_name
      ≡ (1, seen_property (plain (of_number_part number_part.Index))) ∷ []
  old_ones_have_either = refl

  made_is_empty : leaves text (make made.Object) (with_property blank object p_name
      (plain (number 1))) object p_name ≡ (1, seen_property absent_property) ∷ []
  made_is_empty = refl

  made_inherits : leaves text (make made.Object) blank object prototype
      ≡ (1, seen_property (bare (of_label (new builtins.OBJECT_PROTOTYPE)))) ∷ []
  made_inherits = refl

  made_error_inherits : leaves text (make (made.Error error_kind.TypeError)) blank object prototype
      ≡ (1, seen_property (bare (of_label (new builtins.TYPE_ERROR_PROTOTYPE)))) ∷ []
  made_error_inherits = refl

  made_array_length : leaves text (make made.Array) blank object length_name
      ≡ (1, seen_property (with_attrs (number 0) KEPT_HIDDEN)) ∷ []
  made_array_length = refl

  made_is_counted : seen_in (λ a. a.mask object_site.0 ∷ a.mask array_site.0 ∷ [])
      (gives text (make made.Object) blank) ≡ (1, exactly_some ∷ exactly_none ∷ []) ∷ []
  made_is_counted = refl

  -- absent at the keys of the program alone
  no_key_of_the_program : leaves text (make made.Object) blank object (name_key 1000)
      ≡ (1, seen_property entry_property) ∷ []
  no_key_of_the_program = refl

  -- ---- MakeFunction

  abbrev function : Node
  function = node.MakeFunction (reg 6) (function_id 1) function_site proto_site

  abbrev in_scope : AbstractState
  in_scope = holding 2 (of_label activation) blank

  function_is_new : sets text function in_scope 6 ≡ (1, seen (of_label function_object)) ∷ []
  function_is_new = refl

  function_scope : leaves text function in_scope function_object scope_key
      ≡ (1, seen_property (bare (of_label activation))) ∷ []
  function_scope = refl

  function_length : leaves text function in_scope function_object length_name
      ≡ (1, seen_property (with_attrs (number 2) ALL_ATTRS)) ∷ []
  function_length = refl

  function_prototype : leaves text function in_scope function_object prototype_name
      ≡ (1, seen_property (with_attrs (of_label proto) DONT_DELETE)) ∷ []
  function_prototype = refl

  function_inherits : leaves text function in_scope function_object prototype
      ≡ (1, seen_property (bare (of_label (new builtins.FUNCTION_PROTOTYPE)))) ∷ []
  function_inherits = refl

  prototype_constructor : leaves text function in_scope proto (name_key 105)
      ≡ (1, seen_property (with_attrs (of_label function_object) DONT_ENUM)) ∷ []
  prototype_constructor = refl

  function_is_renamed : sets text function (holding 7
      (join (of_label function_object) (of_label proto)) blank) 7
      ≡ (1, seen (join (of_label (old function_site)) (of_label (old proto_site)))) ∷ []
  function_is_renamed = refl
