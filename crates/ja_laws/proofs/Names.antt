-- What the rows of the nodes of names give, computed.
use Rattle.std.specs.Prelude.{◌≡◌, ℕ, List, [], ◌∷◌, String}
use Rattle.std.specs.Global.{Global}
use Rattle.std.proofs.Common.{refl}
use lib.Chars.{codes}
use Rattle.ja_base.specs.declared.ids.Label.{Label}
use Rattle.ja_graph.specs.declared.attrs.TheConstants.{ALL_ATTRS, DONT_DELETE, DONT_ENUM}
use Rattle.ja_graph.specs.declared.builtins.TheConstants as builtins
use Rattle.ja_graph.specs.declared.node.Node.{Node}
use Rattle.ja_graph.specs.declared.node.Node.TheVariants as node
use Rattle.ja_abstract.specs.declared.abstraction.NumberPart.TheVariants as number_part
use Rattle.ja_abstract.specs.AbstractValue.{AbstractValue, AbstractProperty, join, join_properties, null_value, undefined_value, row_value, bare, absent_property, entry_property, of_label}
use Rattle.ja_abstract.specs.AbstractState.{AbstractState, new, with_property}
use Rattle.ja_abstract.specs.Resolved.{prototype, outer}
use Rattle.ja_abstract.specs.Primitives.{of_number_part}
use Rattle.ja_laws.proofs.SmallProgram.{error_site, reg, name, blank, holding, number, one_text, true_value, false_value, with_attrs, plain, global_object, object, old_objects, array, proto, activation, error, SeenProperty, message_name, p_name, seen, seen_property}
use Rattle.ja_laws.proofs.SmallSteps.{sets, leaves, goes_to, demands}

module _ (text : String Global) where
  -- in front of the global object is an activation, which has these at p, and the global object
  -- those

  abbrev scoped : AbstractProperty → AbstractProperty → AbstractState
  scoped inner q = with_property
      (with_property (with_property (holding 2 (of_label activation) blank) activation outer
      (bare (of_label global_object))) activation p_name inner) global_object p_name q

  -- ---- FindName

  abbrev find : Node
  find = node.FindName (reg 6) (name 106)

  found_behind : sets text find (scoped absent_property (plain (number 1))) 6
      ≡ (1, seen (of_label global_object)) ∷ []
  found_behind = refl

  -- the first object that has it hides the others
  found_first : sets text find (scoped (plain (number 1)) (plain (number 1))) 6
      ≡ (1, seen (of_label activation)) ∷ []
  found_first = refl

  found_in_either : sets text find (scoped (join_properties (plain (number 1)) absent_property)
      (plain (number 1))) 6 ≡ (1, seen (join (of_label activation) (of_label global_object))) ∷ []
  found_in_either = refl

  found_in_none : sets text find (scoped absent_property absent_property) 6 ≡ (1, seen null_value)
      ∷ []
  found_in_none = refl

  -- an object of the chain has what its prototypes have
  found_in_prototype : sets text find (with_property
      (with_property (scoped absent_property absent_property) global_object prototype
      (bare (of_label proto))) proto p_name (plain (number 1))) 6
      ≡ (1, seen (of_label global_object)) ∷ []
  found_in_prototype = refl

  found_without_scope : goes_to text find (holding 2 undefined_value blank) ≡ []
  found_without_scope = refl

  -- behind a property that is not known yet nothing is demanded
  find_demands : demands text find (scoped entry_property absent_property)
      (p_name ∷ prototype ∷ outer ∷ []) ≡ (p_name, activation ∷ []) ∷ (prototype, []) ∷ (outer, [])
      ∷ []
  find_demands = refl

  find_demands_outer : demands text find (with_property (scoped absent_property absent_property)
      activation outer entry_property) (p_name ∷ prototype ∷ outer ∷ []) ≡ (p_name, [])
      ∷ (prototype, []) ∷ (outer, activation ∷ []) ∷ []
  find_demands_outer = refl

  -- ---- ReadRef, ReadSoft

  abbrev read : Node
  read = node.ReadRef (reg 6) (reg 7) (name 106) error_site

  abbrev of_base : AbstractValue → AbstractProperty → AbstractState
  of_base v q = with_property (holding 7 v blank) object p_name q

  unbound_throws : sets text read (of_base null_value absent_property) 0
      ≡ (3, seen (of_label error)) ∷ []
  unbound_throws = refl

  unbound_message : leaves text read (of_base null_value absent_property) error message_name
      ≡ (3, seen_property (plain (one_text (codes "p is not bound")))) ∷ []
  unbound_message = refl

  unbound_is_reference_error : leaves text read (of_base null_value absent_property) error prototype
      ≡ (3, seen_property (bare (of_label (new builtins.REFERENCE_ERROR_PROTOTYPE)))) ∷ []
  unbound_is_reference_error = refl

  -- both alternatives are there
  read_or_unbound : sets text read (of_base (join null_value (of_label object)) (plain (number 1)))
      6 ≡ (3, seen undefined_value) ∷ (1, seen (number 1)) ∷ []
  read_or_unbound = refl

  read_absent : sets text read (of_base (of_label object) absent_property) 6
      ≡ (1, seen undefined_value) ∷ []
  read_absent = refl

  read_leaves_row_out : sets text read (of_base (of_label object)
      (plain (join row_value (number 1)))) 6 ≡ (1, seen (number 1)) ∷ []
  read_leaves_row_out = refl

  read_row_alone : goes_to text read (of_base (of_label object) (plain row_value)) ≡ []
  read_row_alone = refl

  read_demands : demands text read (of_base (of_label object) entry_property)
      (p_name ∷ prototype ∷ []) ≡ (p_name, object ∷ []) ∷ (prototype, []) ∷ []
  read_demands = refl

  abbrev soft : Node
  soft = node.ReadSoft (reg 6) (reg 7) (name 106)

  soft_unbound : sets text soft (of_base null_value absent_property) 6 ≡ (1, seen undefined_value)
      ∷ []
  soft_unbound = refl

  soft_or_unbound : sets text soft (of_base (join null_value (of_label object)) (plain (number 1)))
      6 ≡ (1, seen (join undefined_value (number 1))) ∷ []
  soft_or_unbound = refl

  soft_demands : demands text soft (of_base (of_label object) entry_property)
      (p_name ∷ prototype ∷ []) ≡ (p_name, object ∷ []) ∷ (prototype, []) ∷ []
  soft_demands = refl

  -- ---- WriteRef

  abbrev write : Node
  write = node.WriteRef (reg 7) (name 106) (reg 8)

  abbrev writes : AbstractValue → Label → AbstractProperty → List (ℕ × SeenProperty)
  writes base l q = leaves text write (with_property (holding 8 (number 2) (holding 7 base blank)) l
      p_name q) l p_name

  null_writes_global : writes null_value global_object absent_property
      ≡ (1, seen_property (plain (number 2))) ∷ []
  null_writes_global = refl

  -- a write replaces the value and keeps the attributes
  write_is_strong : writes (of_label object) object (with_attrs (number 1) DONT_ENUM)
      ≡ (1, seen_property (with_attrs (number 2) DONT_ENUM)) ∷ []
  write_is_strong = refl

  write_to_old_is_weak : writes (of_label old_objects) old_objects (plain (number 1))
      ≡ (1, seen_property (plain (of_number_part number_part.Index))) ∷ []
  write_to_old_is_weak = refl

  write_to_two_is_weak : writes (join null_value (of_label object)) object (plain (number 1))
      ≡ (1, seen_property (plain (of_number_part number_part.Index))) ∷ []
  write_to_two_is_weak = refl

  arrays_are_no_scopes : goes_to text write (holding 7 (of_label array) blank) ≡ []
  arrays_are_no_scopes = refl

  -- without the arrays one label is left
  arrays_left_out : writes (join (of_label array) (of_label object)) object (plain (number 1))
      ≡ (1, seen_property (plain (number 2))) ∷ []
  arrays_left_out = refl

  array_stays : leaves text write (holding 8 (number 2)
      (holding 7 (join (of_label array) (of_label object)) blank)) array p_name
      ≡ (1, seen_property absent_property) ∷ []
  array_stays = refl

  read_only_stays : writes (of_label object) object (with_attrs (number 1) ALL_ATTRS)
      ≡ (1, seen_property (with_attrs (number 1) ALL_ATTRS)) ∷ []
  read_only_stays = refl

  write_demands : demands text write (of_base (of_label object) entry_property)
      (p_name ∷ prototype ∷ []) ≡ (p_name, object ∷ []) ∷ (prototype, []) ∷ []
  write_demands = refl

  -- ---- DeleteRef

  abbrev delete : Node
  delete = node.DeleteRef (reg 6) (reg 7) (name 106)

  delete_unbound : sets text delete (of_base null_value absent_property) 6 ≡ (1, seen true_value)
      ∷ []
  delete_unbound = refl

  delete_gives_true : sets text delete (of_base (of_label object) (plain (number 1))) 6
      ≡ (1, seen true_value) ∷ []
  delete_gives_true = refl

  delete_removes : leaves text delete (of_base (of_label object) (plain (number 1))) object p_name
      ≡ (1, seen_property absent_property) ∷ []
  delete_removes = refl

  dont_delete_gives_false : sets text delete (of_base (of_label object)
      (with_attrs (number 1) DONT_DELETE)) 6 ≡ (1, seen false_value) ∷ []
  dont_delete_gives_false = refl

  dont_delete_stays : leaves text delete (of_base (of_label object)
      (with_attrs (number 1) DONT_DELETE)) object p_name
      ≡ (1, seen_property (with_attrs (number 1) DONT_DELETE)) ∷ []
  dont_delete_stays = refl

  -- own readings alone
  delete_demands : demands text delete (of_base (of_label object) entry_property)
      (p_name ∷ prototype ∷ []) ≡ (p_name, object ∷ []) ∷ (prototype, []) ∷ []
  delete_demands = refl
