-- What the rows of the nodes of properties give, computed.
use Rattle.std.specs.Prelude.{◌≡◌, ℕ, true, List, [], ◌∷◌, String}
use Rattle.std.specs.Global.{Global}
use Rattle.std.proofs.Common.{refl}
use lib.Chars.{codes}
use Rattle.ja_base.specs.declared.ids.Label.{Label}
use Rattle.ja_abstract.specs.declared.abstraction.Key.{Key}
use Rattle.ja_abstract.specs.declared.abstraction.Key.TheVariants as key
use Rattle.std.specs.Fmt.{digits as decimal_digits}
use Rattle.ja_graph.specs.declared.attrs.TheConstants.{DONT_DELETE, DONT_ENUM, KEPT_HIDDEN, NO_ATTRS}
use Rattle.ja_graph.specs.declared.builtins.TheConstants as builtins
use Rattle.ja_graph.specs.declared.node.Node.{Node}
use Rattle.ja_graph.specs.declared.node.Node.TheVariants as node
use Rattle.ja_abstract.specs.declared.abstraction.NumberPart.TheVariants as number_part
use Rattle.ja_abstract.specs.declared.abstraction.TextPart.TheVariants as text_part
use Rattle.ja_abstract.specs.AbstractValue.{AbstractValue, AbstractProperty, join, null_value, undefined_value, row_value, absent_value, bare, no_property, absent_property, entry_property, of_label, of_attrs}
use Rattle.ja_abstract.specs.AbstractState.{AbstractState, new, with_property}
use Rattle.ja_abstract.specs.Resolved.{prototype}
use Rattle.ja_abstract.specs.Primitives.{of_bools, of_number_part, of_text_part, whole_value, nan_value}
use Rattle.ja_laws.proofs.SmallProgram.{activation_site, error_site, reg, blank, holding, number, one_text, true_value, false_value, with_attrs, plain, object, old_objects, array, function_object, proto, activation, error, SeenProperty, length_name, prototype_name, p_name, q_name, zero_name, five_name, seen, seen_property}
use Rattle.ja_laws.proofs.SmallSteps.{sets, leaves, goes_to, demands}

module _ (text : String Global) where
  -- an object in register 7, a key in register 8

  abbrev keyed : AbstractValue → AbstractValue → AbstractState → AbstractState
  keyed o k a = holding 7 o (holding 8 k a)

  abbrev of_p : AbstractProperty → AbstractState
  of_p q = with_property blank object p_name q

  abbrev p : AbstractValue
  p = one_text (codes "p")

  -- ---- ReadProp

  abbrev read : Node
  read = node.ReadProp (reg 6) (reg 7) (reg 8)

  reads_property : sets text read (keyed (of_label object) p (of_p (plain (number 1)))) 6
      ≡ (1, seen (number 1)) ∷ []
  reads_property = refl

  reads_prototype : sets text read (keyed (of_label object) p
      (with_property (with_property blank object prototype (bare (of_label proto))) proto p_name
      (plain (number 1)))) 6 ≡ (1, seen (number 1)) ∷ []
  reads_prototype = refl

  prototype_is_hidden : sets text read (keyed (of_label object) p
      (with_property (with_property (of_p (plain (number 2))) object prototype
      (bare (of_label proto))) proto p_name (plain null_value))) 6 ≡ (1, seen (number 2)) ∷ []
  prototype_is_hidden = refl

  -- the names that are indices and the rest of them, and no others
  reads_index_keys : sets text read (keyed (of_label object) (of_text_part text_part.IndexText)
      (with_property (with_property (of_p (plain (number 1))) object zero_name (plain null_value))
      object key.OtherIndex (plain true_value))) 6
      ≡ (1, seen (join undefined_value (join null_value true_value))) ∷ []
  reads_index_keys = refl

  reads_number_as_text : sets text read (keyed (of_label object) (number 5)
      (with_property blank object five_name (plain null_value))) 6 ≡ (1, seen null_value) ∷ []
  unfolding decimal_digits
  reads_number_as_text = refl

  reads_no_primitive : goes_to text read (keyed null_value p blank) ≡ []
  reads_no_primitive = refl

  read_demands : demands text read (keyed (of_label object) p
      (with_property (of_p absent_property) object prototype entry_property))
      (p_name ∷ prototype ∷ []) ≡ (p_name, []) ∷ (prototype, object ∷ []) ∷ []
  read_demands = refl

  -- ---- WriteProp

  abbrev write : Node
  write = node.WriteProp (reg 7) (reg 8) (reg 9) error_site

  abbrev writes : AbstractValue → AbstractValue → AbstractValue → AbstractState → Label → Key
      → List (ℕ × SeenProperty)
  writes o k v a l j = leaves text write (holding 9 v (keyed o k a)) l j

  write_is_strong : writes (of_label object) p (number 2) (of_p (with_attrs (number 1) DONT_ENUM))
      object p_name ≡ (1, seen_property (with_attrs (number 2) DONT_ENUM)) ∷ []
  write_is_strong = refl

  write_leaves_others : writes (of_label object) p (number 2)
      (with_property blank object q_name (plain (number 1))) object q_name
      ≡ (1, seen_property (plain (number 1))) ∷ []
  write_leaves_others = refl

  write_to_a_class_is_weak : writes (of_label object) (of_text_part text_part.IndexText) (number 2)
      (with_property blank object zero_name (plain (number 1))) object zero_name
      ≡ (1, seen_property (plain (of_number_part number_part.Index))) ∷ []
  write_to_a_class_is_weak = refl

  abbrev length : AbstractValue
  length = one_text (codes "length")

  abbrev of_length : AbstractValue → AbstractState
  of_length v = with_property blank array length_name (with_attrs v KEPT_HIDDEN)

  wrong_length_throws : sets text write (holding 9 nan_value
      (keyed (of_label array) length (of_length (number 0)))) 0 ≡ (3, seen (of_label error)) ∷ []
  wrong_length_throws = refl

  wrong_length_is_range_error : leaves text write (holding 9 nan_value
      (keyed (of_label array) length (of_length (number 0)))) error prototype
      ≡ (3, seen_property (bare (of_label (new builtins.RANGE_ERROR_PROTOTYPE)))) ∷ []
  wrong_length_is_range_error = refl

  -- a number that may be a length, and may be none
  length_class : goes_to text write (holding 9 whole_value
      (keyed (of_label array) length (of_length (number 0)))) ≡ 1 ∷ 3 ∷ []
  length_class = refl

  -- an object is no length
  length_of_object : goes_to text write (holding 9 (of_label object)
      (keyed (of_label array) length (of_length (number 0)))) ≡ []
  length_of_object = refl

  length_of_no_array : goes_to text write (holding 9 nan_value
      (keyed (of_label object) length blank)) ≡ 1 ∷ []
  length_of_no_array = refl

  -- an element demands the length too
  write_demands : demands text write (keyed (of_label array) (number 5)
      (with_property blank array length_name entry_property))
      (five_name ∷ length_name ∷ prototype ∷ []) ≡ (five_name, []) ∷ (length_name, array ∷ [])
      ∷ (prototype, []) ∷ []
  unfolding decimal_digits
  write_demands = refl

  -- ---- DeleteProp

  abbrev delete : Node
  delete = node.DeleteProp (reg 6) (reg 7) (reg 8)

  delete_removes : leaves text delete (keyed (of_label object) p (of_p (plain (number 1)))) object
      p_name ≡ (1, seen_property absent_property) ∷ []
  delete_removes = refl

  weak_delete_joins : leaves text delete (keyed (of_label old_objects) p
      (with_property blank old_objects p_name (plain (number 1)))) old_objects p_name
      ≡ (
        1,
        seen_property (record {
          value = join absent_value (number 1);
          attrs = of_attrs NO_ATTRS;
        }),
      ) ∷ []
  weak_delete_joins = refl

  -- one may be kept, the other is missing
  weak_delete_gives : sets text delete (keyed (join (of_label object) (of_label array)) p
      (of_p (with_attrs (number 1) DONT_DELETE))) 6 ≡ (1, seen (of_bools true true)) ∷ []
  weak_delete_gives = refl

  delete_of_no_part : goes_to text delete (keyed (of_label object) p (of_p no_property)) ≡ []
  delete_of_no_part = refl

  -- ---- HasProp

  abbrev has : Node
  has = node.HasProp (reg 6) (reg 7) (reg 8)

  has_property : sets text has (keyed (of_label object) p (of_p (plain undefined_value))) 6
      ≡ (1, seen true_value) ∷ []
  has_property = refl

  has_row : sets text has (keyed (of_label object) p (of_p (plain row_value))) 6
      ≡ (1, seen true_value) ∷ []
  has_row = refl

  has_not : sets text has (keyed (of_label object) p blank) 6 ≡ (1, seen false_value) ∷ []
  has_not = refl

  may_have : sets text has (keyed (join (of_label object) (of_label array)) p
      (of_p (plain null_value))) 6 ≡ (1, seen (of_bools true true)) ∷ []
  may_have = refl

  has_demands : demands text has (keyed (of_label object) p (of_p entry_property))
      (p_name ∷ prototype ∷ []) ≡ (p_name, object ∷ []) ∷ (prototype, []) ∷ []
  has_demands = refl

  -- ---- InstanceOf

  abbrev instance : Node
  instance = node.InstanceOf (reg 6) (reg 7) (reg 8) error_site activation_site

  -- the `prototype` of the function, and what the object inherits from

  abbrev related : AbstractValue → AbstractValue → AbstractValue → AbstractValue → AbstractState
  related o r q inherited = keyed o r (with_property
      (with_property blank function_object prototype_name (plain q)) object prototype
      (bare inherited))

  -- a chain that leads there, and the abstract one may always miss it
  is_instance : sets text instance (related (of_label object) (of_label function_object)
      (of_label proto) (of_label proto)) 6 ≡ (1, seen (of_bools true true)) ∷ []
  is_instance = refl

  is_no_instance : sets text instance (related (of_label object) (of_label function_object)
      (of_label proto) (of_label array)) 6 ≡ (1, seen false_value) ∷ []
  is_no_instance = refl

  -- the `prototype` of the function is not asked for
  primitive_is_no_instance : sets text instance (related (number 1) (of_label function_object)
      null_value absent_value) 6 ≡ (1, seen false_value) ∷ []
  primitive_is_no_instance = refl

  not_a_function_throws : sets text instance (related (of_label object) (of_label object)
      absent_value absent_value) 0 ≡ (3, seen (of_label error)) ∷ []
  not_a_function_throws = refl

  -- the error of the second kind has a site of its own
  prototype_no_object_throws : sets text instance (related (of_label object)
      (of_label function_object) (number 1) absent_value) 0 ≡ (3, seen (of_label activation)) ∷ []
  prototype_no_object_throws = refl

  either_of_instance : goes_to text instance (related (of_label object)
      (join null_value (of_label function_object)) (join null_value (of_label proto)) absent_value)
      ≡ 3 ∷ 3 ∷ 1 ∷ []
  either_of_instance = refl

  instance_demands : demands text instance (keyed (of_label object) (of_label function_object)
      (with_property blank function_object prototype_name entry_property)) (prototype_name ∷ [])
      ≡ (prototype_name, function_object ∷ []) ∷ []
  instance_demands = refl

  primitive_demands_nothing : demands text instance
      (keyed null_value (of_label function_object) (with_property blank function_object
      prototype_name entry_property)) (prototype_name ∷ []) ≡ (prototype_name, []) ∷ []
  primitive_demands_nothing = refl
