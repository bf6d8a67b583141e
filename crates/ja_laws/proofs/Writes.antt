-- What puts and deletions leave, computed.
use Rattle.std.specs.Prelude.{◌≡◌, true, false, Bool, List, [], ◌∷◌, map, String}
use Rattle.std.specs.Global.{Global}
use Rattle.std.proofs.Common.{refl}
use Rattle.ja_graph.specs.declared.attrs.TheConstants.{ALL_ATTRS, DONT_DELETE, DONT_ENUM, KEPT_HIDDEN}
use Rattle.ja_base.specs.declared.ids.Label.{Label}
use Rattle.ja_abstract.specs.declared.abstraction.Key.{Key}
use Rattle.ja_abstract.specs.declared.abstraction.Key.TheVariants as key
use Rattle.ja_abstract.specs.declared.abstraction.NumberPart.TheVariants as number_part
use Rattle.ja_abstract.specs.AbstractValue.{Labels, AbstractValue, AbstractProperty, join, join_properties, no_property, null_value, bare, absent_property, of_label}
use Rattle.ja_abstract.specs.AbstractState.{AbstractState, old, with_property}
use Rattle.ja_abstract.specs.Primitives.{of_bools, of_number_part, whole_value, nan_value}
use Rattle.ja_abstract.specs.Reading.{one_label}
use Rattle.ja_abstract.specs.Resolved.{prototype}
use Rattle.ja_abstract.specs.Writes.{Deletion, put_states, put_may_throw, delete_states}
use Rattle.ja_laws.proofs.SmallProgram.{array_site, blank, number, true_value, false_value, with_attrs, plain, object, old_objects, array, proto, length_name, p_name, q_name, zero_name, five_name, view, seen, seen_at, SeenValue, SeenProperty, seen_property}

module _ (text : String Global) where
  -- ---- [[Put]]

  abbrev put_at : Labels → List Key → AbstractValue → AbstractState → Label → Key
      → List SeenProperty
  put_at target keys v a l k = map (seen_at l k) (put_states (view text a) target keys v)

  abbrev of_p : AbstractProperty → AbstractState
  of_p q = with_property blank object p_name q

  abbrev p : List Key
  p = p_name ∷ []

  abbrev both : Labels
  both = (join (of_label object) (of_label array)).label

  abbrev index_value : AbstractProperty
  index_value = plain (of_number_part number_part.Index)

  put_adds : put_at (one_label object) p (number 2) blank object p_name
      ≡ seen_property (plain (number 2)) ∷ []
  put_adds = refl

  put_replaces : put_at (one_label object) p (number 2) (of_p (with_attrs null_value DONT_DELETE))
      object p_name ≡ seen_property (with_attrs (number 2) DONT_DELETE) ∷ []
  put_replaces = refl

  put_maybe_adds : put_at (one_label object) p (number 2)
      (of_p (join_properties (with_attrs null_value DONT_ENUM) absent_property)) object p_name
      ≡ seen_property (record {
        value = number 2;
        attrs =
            (join_properties (with_attrs null_value DONT_ENUM) (plain null_value)).attrs;
      }) ∷ []
  put_maybe_adds = refl

  put_leaves_others : put_at (one_label object) p (number 2)
      (with_property blank array p_name (plain (number 1))) array p_name
      ≡ seen_property (plain (number 1)) ∷ []
  put_leaves_others = refl

  put_is_refused : put_at (one_label object) p (number 2) (of_p (with_attrs (number 1) ALL_ATTRS))
      object p_name ≡ seen_property (with_attrs (number 1) ALL_ATTRS) ∷ []
  put_is_refused = refl

  put_is_refused_by_prototype : put_at (one_label object) p (number 2)
      (with_property (with_property blank object prototype (bare (of_label proto))) proto p_name
      (with_attrs null_value ALL_ATTRS)) object p_name ≡ seen_property absent_property ∷ []
  put_is_refused_by_prototype = refl

  -- the state as it was, and the one with the value
  put_maybe_refused : put_at (one_label object) p (number 2)
      (of_p (join_properties (with_attrs (number 1) ALL_ATTRS) (plain (number 1)))) object p_name
      ≡ seen_property (join_properties (with_attrs (number 1) ALL_ATTRS) (plain (number 1)))
      ∷ seen_property (join_properties (with_attrs (number 2) ALL_ATTRS) (plain (number 2))) ∷ []
  put_maybe_refused = refl

  put_to_old_joins : put_at (one_label old_objects) p (number 2)
      (with_property blank old_objects p_name (plain (number 1))) old_objects p_name
      ≡ seen_property index_value ∷ []
  put_to_old_joins = refl

  put_to_two_joins : put_at both p (number 2) (of_p (plain (number 1))) object p_name
      ≡ seen_property index_value ∷ []
  put_to_two_joins = refl

  -- with the attributes of its own property
  put_to_two_joins_at_each : put_at both p (number 2) (of_p (plain (number 1))) array p_name
      ≡ seen_property (join_properties absent_property (plain (number 2))) ∷ []
  put_to_two_joins_at_each = refl

  put_at_two_keys_joins : put_at (one_label object) (p_name ∷ q_name ∷ []) (number 2)
      (of_p (plain (number 1))) object p_name ≡ seen_property index_value ∷ []
  put_at_two_keys_joins = refl

  put_at_rest_joins : put_at (one_label object) (key.OtherName ∷ []) (number 2)
      (with_property blank object key.OtherName (plain (number 1))) object key.OtherName
      ≡ seen_property index_value ∷ []
  put_at_rest_joins = refl

  put_nowhere : put_at (one_label object) p (number 2) (of_p no_property) object p_name ≡ []
  put_nowhere = refl

  -- ---- [[Put]] of an element

  abbrev of_length : Label → AbstractValue → AbstractState
  of_length l n = with_property blank l length_name (with_attrs n KEPT_HIDDEN)

  abbrev element : Key → AbstractState → Key → List SeenProperty
  element k a j = put_at (one_label array) (k ∷ []) null_value a array j

  element_is_put : element five_name (of_length array (number 3)) five_name
      ≡ seen_property (plain null_value) ∷ []
  element_is_put = refl

  length_grows : element five_name (of_length array (number 3)) length_name
      ≡ seen_property (with_attrs (number 6) KEPT_HIDDEN) ∷ []
  length_grows = refl

  length_stays : element zero_name (of_length array (number 3)) length_name
      ≡ seen_property (with_attrs (number 3) KEPT_HIDDEN) ∷ []
  length_stays = refl

  length_of_class : element five_name (of_length array (of_number_part number_part.Index))
      length_name ≡ seen_property (with_attrs (of_number_part number_part.Index) KEPT_HIDDEN) ∷ []
  length_of_class = refl

  -- a length that is no constant is joined with the index and one
  length_of_two : element five_name (of_length array (join null_value (number 3))) length_name
      ≡ seen_property (with_attrs (join null_value (of_number_part number_part.Index)) KEPT_HIDDEN)
      ∷ []
  length_of_two = refl

  length_by_unknown_index : element key.OtherIndex (of_length array (number 3)) length_name
      ≡ seen_property (with_attrs whole_value KEPT_HIDDEN) ∷ []
  length_by_unknown_index = refl

  no_length : element five_name (with_property blank array length_name no_property) five_name ≡ []
  no_length = refl

  name_is_no_element : element p_name (of_length array (number 3)) length_name
      ≡ seen_property (with_attrs (number 3) KEPT_HIDDEN) ∷ []
  name_is_no_element = refl

  object_has_no_elements : put_at (one_label object) (five_name ∷ []) null_value
      (of_length object (number 3)) object length_name
      ≡ seen_property (with_attrs (number 3) KEPT_HIDDEN) ∷ []
  object_has_no_elements = refl

  length_of_old_array : put_at (one_label (old array_site)) (five_name ∷ []) null_value
      (of_length (old array_site) (number 3)) (old array_site) length_name
      ≡ seen_property (with_attrs (of_number_part number_part.Index) KEPT_HIDDEN) ∷ []
  length_of_old_array = refl

  -- ---- [[Put]] of a length

  abbrev elements : AbstractState
  elements = with_property (with_property (of_length array (number 6)) array zero_name
      (plain null_value)) array five_name (plain null_value)

  abbrev length : AbstractValue → Key → List SeenProperty
  length v k = put_at (one_label array) (length_name ∷ []) v elements array k

  abbrev may_throw : AbstractValue → Bool
  may_throw v = put_may_throw (view text elements) (one_label array) (length_name ∷ []) v

  abbrev maybe_null : SeenProperty
  maybe_null = seen_property (join_properties (plain null_value) absent_property)

  length_is_put : length (number 5) length_name ≡ seen_property (with_attrs (number 5) KEPT_HIDDEN)
      ∷ []
  length_is_put = refl

  element_below_stays : length (number 5) zero_name ≡ seen_property (plain null_value) ∷ []
  element_below_stays = refl

  element_is_cut : length (number 5) five_name ≡ maybe_null ∷ []
  element_is_cut = refl

  rest_is_cut : length (number 5) key.OtherIndex ≡ seen_property absent_property ∷ []
  rest_is_cut = refl

  all_are_cut : length (of_number_part number_part.Index) zero_name ≡ maybe_null ∷ []
  all_are_cut = refl

  length_of_true : length true_value length_name ≡ seen_property (with_attrs (number 1) KEPT_HIDDEN)
      ∷ []
  length_of_true = refl

  greatest_length : length (number 4294967295) length_name
      ≡ seen_property (with_attrs (number 4294967295) KEPT_HIDDEN) ∷ []
  greatest_length = refl

  no_such_length : length (number 4294967296) length_name ≡ []
  no_such_length = refl

  length_is_no_object : length (of_label object) length_name ≡ []
  length_is_no_object = refl

  length_is_right : may_throw (join (number 5) (of_label object)) ≡ false
  length_is_right = refl

  length_is_too_great : may_throw (number 4294967296) ≡ true
  length_is_too_great = refl

  length_is_nan : may_throw nan_value ≡ true
  length_is_nan = refl

  length_of_index_is_right : may_throw (of_number_part number_part.Index) ≡ false
  length_of_index_is_right = refl

  length_of_class_may_be_wrong : may_throw (of_number_part number_part.OtherWhole) ≡ true
  length_of_class_may_be_wrong = refl

  -- ---- [[Delete]]

  abbrev delete : Labels → AbstractState → Label → List (SeenValue × SeenProperty)
  delete target a l = map (λ (r : Deletion). (seen r.0, seen_at l p_name r.1))
      (delete_states (view text a) target p)

  missing_is_deleted : delete (one_label object) blank object
      ≡ (seen true_value, seen_property absent_property) ∷ []
  missing_is_deleted = refl

  deletes : delete (one_label object) (of_p (plain null_value)) object
      ≡ (seen true_value, seen_property absent_property) ∷ []
  deletes = refl

  keeps : delete (one_label object) (of_p (with_attrs null_value DONT_DELETE)) object
      ≡ (seen false_value, seen_property (with_attrs null_value DONT_DELETE)) ∷ []
  keeps = refl

  abbrev maybe_there : AbstractProperty
  maybe_there = join_properties (plain null_value) absent_property

  deletes_maybe : delete (one_label object) (of_p maybe_there) object
      ≡ (seen true_value, seen_property maybe_there) ∷
      (seen true_value, seen_property absent_property) ∷ []
  deletes_maybe = refl

  deletes_weakly : delete both (of_p (plain null_value)) object
      ≡ (seen true_value, seen_property maybe_there) ∷ []
  deletes_weakly = refl

  keeps_weakly : delete both (of_p (with_attrs null_value DONT_DELETE)) object
      ≡ (seen (of_bools true true), seen_property (with_attrs null_value DONT_DELETE)) ∷ []
  keeps_weakly = refl

  deletes_nothing : delete (one_label object) (of_p no_property) object ≡ []
  deletes_nothing = refl
