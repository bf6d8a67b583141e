-- What the rows of the nodes that enter functions give, computed.
use Rattle.std.specs.Prelude.{◌≡◌, Option, [], ◌∷◌, Some, None, String}
use Rattle.std.specs.Global.{Global}
use Rattle.std.proofs.Common.{refl}
use lib.Chars.{codes}
use Rattle.ja_base.specs.declared.ids.Reg.{Reg}
use Rattle.ja_graph.specs.declared.node.Node.{Node}
use Rattle.ja_graph.specs.declared.node.Node.TheVariants as node
use Rattle.ja_graph.specs.declared.node.Args.TheVariants as args
use Rattle.ja_graph.specs.declared.node.Hint.TheVariants as hint
use Rattle.ja_abstract.specs.AbstractValue.{AbstractValue, join, no_value, null_value, undefined_value, of_label}
use Rattle.ja_abstract.specs.AbstractState.{AbstractState}
use Rattle.ja_laws.proofs.SmallProgram.{object_site, error_site, reg, blank, holding, number, one_text, plain, global_object, object, old_objects, array, function_object, activation, error, plain_function, message_name, seen, seen_property}
use Rattle.ja_laws.proofs.SmallSteps.{sets, leaves, goes_to, edges}

module _ (text : String Global) where
  -- ---- Convert

  abbrev convert : Option Reg → Node
  convert other = node.Convert (reg 6) (reg 7) hint.Number other

  abbrev beside : AbstractValue → AbstractValue → AbstractState
  beside v u = holding 7 v (holding 8 u blank)

  primitive_is_itself : sets text (convert None) (beside (join null_value (of_label object))
      no_value) 6 ≡ (1, seen null_value) ∷ []
  primitive_is_itself = refl

  object_is_converted : edges text (convert None) (beside (join null_value (of_label object))
      no_value) ≡ (2, object) ∷ []
  object_is_converted = refl

  -- the other hint has the other function
  by_text : edges text (node.Convert (reg 6) (reg 7) hint.Text None)
      (beside (join (of_label array) (of_label object)) no_value) ≡ (3, object) ∷ (3, array) ∷ []
  by_text = refl

  kept_beside_nothing : sets text (convert (Some (reg 8)))
      (beside (of_label object) undefined_value) 6 ≡ (1, seen (of_label object)) ∷ []
  kept_beside_nothing = refl

  no_edge_beside_nothing : edges text (convert (Some (reg 8)))
      (beside (of_label object) (join null_value (of_label array))) ≡ []
  no_edge_beside_nothing = refl

  converted_beside_number : edges text (convert (Some (reg 8)))
      (beside (of_label object) (number 1)) ≡ (2, object) ∷ []
  converted_beside_number = refl

  not_kept_beside_number : goes_to text (convert (Some (reg 8)))
      (beside (of_label object) (number 1)) ≡ []
  not_kept_beside_number = refl

  both_beside_either : edges text (convert (Some (reg 8)))
      (beside (of_label object) (join null_value (number 1))) ≡ (2, object) ∷ []
  both_beside_either = refl

  -- ---- Call

  abbrev call : Node
  call = node.Call (reg 6) (reg 7) (reg 8) (args.Registers (reg 9 ∷ [])) error_site

  calls : edges text call (beside (of_label function_object) (of_label object)) ≡ (1, object) ∷ []
  calls = refl

  call_gives_nothing : goes_to text call (beside (of_label function_object) (of_label object)) ≡ []
  call_gives_nothing = refl

  calls_each : edges text call (beside (join (of_label plain_function) (of_label function_object))
      (join (of_label old_objects) (of_label object))) ≡ (1, object) ∷ (1, old_objects)
      ∷ (2, object) ∷ (2, old_objects) ∷ []
  calls_each = refl

  nothing_counts_as_global : edges text call (beside (of_label function_object)
      (join null_value (of_label object))) ≡ (1, global_object) ∷ (1, object) ∷ []
  nothing_counts_as_global = refl

  activation_counts_as_global : edges text call (beside (of_label function_object)
      (of_label activation)) ≡ (1, global_object) ∷ []
  activation_counts_as_global = refl

  no_receiver : edges text call (beside (of_label function_object) no_value) ≡ []
  no_receiver = refl

  call_throws : sets text call (beside (number 1) (of_label object)) 0 ≡ (3, seen (of_label error))
      ∷ []
  call_throws = refl

  no_edge_to_object : edges text call (beside (of_label object) (of_label object)) ≡ []
  no_edge_to_object = refl

  object_is_not_called : leaves text call (beside (of_label object) (of_label object)) error
      message_name ≡ (
        3,
        seen_property
            (plain (one_text (codes "call of a value that is not a function"))),
      ) ∷ []
  object_is_not_called = refl

  calls_or_throws : goes_to text call (beside (join null_value (of_label function_object))
      (of_label object)) ≡ 3 ∷ []
  calls_or_throws = refl

  still_calls : edges text call (beside (join null_value (of_label function_object))
      (of_label object)) ≡ (1, object) ∷ []
  still_calls = refl

  -- ---- New

  abbrev construct : Node
  construct = node.New (reg 6) (reg 7) (reg 9 ∷ []) object_site error_site

  -- the receiver is the new object of the site
  constructs : edges text construct (beside (of_label function_object) no_value) ≡ (1, object) ∷ []
  constructs = refl

  constructs_nothing : goes_to text construct (beside (of_label function_object) no_value) ≡ []
  constructs_nothing = refl

  no_constructor_throws : sets text construct (beside (of_label plain_function) no_value) 0
      ≡ (3, seen (of_label error)) ∷ []
  no_constructor_throws = refl

  no_constructor_has_no_edge : edges text construct (beside (of_label plain_function) no_value) ≡ []
  no_constructor_has_no_edge = refl

  new_message : leaves text construct (beside null_value no_value) error message_name
      ≡ (3, seen_property (plain (one_text (codes "new of a value that is not a constructor"))))
      ∷ []
  new_message = refl
