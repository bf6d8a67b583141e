-- The abstract operations of the built-in functions: what each gives of abstract values, and what
-- it demands (ES3 15.2.4, 15.3.4.3, 15.7.4.2, and the internal properties of 8.6.2).
use Rattle.std.specs.Prelude.{ℕ, Bool, not, ◌&&◌, ◌||◌, List, [], ◌∷◌, map, slice_get}
use Rattle.std.specs.Option.{option_map_or}
use Rattle.ja_base.specs.declared.ids.Label.{Label}
use Rattle.ja_prim.specs.declared.primitive.Primitive.TheVariants as primitive
use Rattle.ja_graph.specs.declared.program.Program.{Program}
use Rattle.ja_graph.specs.Program.{is_arguments_site}
use Rattle.ja_machine.specs.Intrinsics.{class_name}
use Rattle.ja_machine.specs.Machine.{class_of_site}
use Rattle.ja_machine.specs.TextOperations.{text_operations}
use Rattle.ja_abstract.specs.declared.abstraction.Key.{Key}
use Rattle.ja_abstract.specs.AbstractValue.{Labels, AbstractValue, AbstractProperty, no_value, of_primitive}
use Rattle.ja_abstract.specs.AbstractState.{labels_of}
use Rattle.ja_abstract.specs.Resolved.{Demands, join_values, demands_of}
use Rattle.ja_abstract.specs.Keys.{keys_of_value}
use Rattle.ja_abstract.specs.Primitives.{of_bools, of_text_part}
use Rattle.ja_abstract.specs.PrimitiveOperations.{text_operation}
use Rattle.ja_abstract.specs.Reading.{View, some_label, no_demands, demands_if, demands_at, own, demands_of_own, slot, may_have, may_lack, may_be_enumerable, may_be_hidden, proper_ancestors, demands_of_ancestors}
use Rattle.ja_abstract.specs.Writes.{is_array_label}
use Rattle.ja_abstract.specs.Made.{value_key}
use Rattle.ja_abstract.specs.Values.{has_atoms, has_labels, value_if, primitives_of}

-- what is read, and the pairs that are demanded for it
pub record Looked : Type 0 where
  pub value : AbstractValue
  pub demands : Demands

abbrev pub AbstractOperation : Type 0
AbstractOperation = View → List AbstractValue → Looked

abbrev pub looked : AbstractValue → Looked
looked v = record { value = v; demands = no_demands }

abbrev pub of_one : (View → AbstractValue → Looked) → AbstractOperation
of_one f w (v ∷ []) = f w v
of_one f w vs = looked no_value

abbrev pub of_two : (View → AbstractValue → AbstractValue → Looked) → AbstractOperation
of_two f w (u ∷ v ∷ []) = f w u v
of_two f w vs = looked no_value

-- ---- internal properties

abbrev pub is_object : View → AbstractValue → Looked
is_object w v = looked (of_bools (has_labels w v) (has_atoms v))

abbrev pub class_of : View → AbstractValue → Looked
class_of w v =
    let text =
    λ (l : Label). of_primitive (primitive.Text (class_name (class_of_site w.program l.site.0)))
    in
    looked (join_values (map (λ l. value_if (v.label l) (text l)) (labels_of w.program)))

abbrev pub value_of : View → AbstractValue → Looked
value_of w v = record {
  value =
      let held = λ (l : Label). primitives_of (slot w l value_key) in
      join_values (map (λ l. value_if (v.label l) (held l)) (labels_of w.program));
  demands = demands_at w v.label (λ l. demands_of w.state l value_key);
}

-- ---- own properties and prototypes

abbrev pub text_keys_of : View → AbstractValue → List Key
text_keys_of w v = keys_of_value w.program (of_text_part v.text)

-- what the own readings of some labels at the keys of a text may say: true of some, false of some
abbrev pub of_own :
    View → AbstractValue → List Key → (AbstractProperty → Bool) → (AbstractProperty → Bool) → Looked
of_own w v keys may_hold may_fail = record {
  value =
      let some_of =
      λ (holds : AbstractProperty → Bool). some_label w
      (λ l. v.label l && holds (own w l keys)) in
      of_bools (some_of may_hold) (some_of may_fail);
  demands = demands_at w v.label (λ l. demands_of_own w l keys);
}

-- whether an object has the property itself (15.2.4.5)
abbrev pub has_own : View → AbstractValue → AbstractValue → Looked
has_own w v name = of_own w v (text_keys_of w name) (may_have w) may_lack

-- whether it has it, and not DontEnum (15.2.4.7)
abbrev pub is_enumerable : View → AbstractValue → AbstractValue → Looked
is_enumerable w v name =
    of_own w v (text_keys_of w name) (may_be_enumerable w) (λ q. may_lack q || may_be_hidden w q)

-- whether the first inherits from the second, which is an object (15.2.4.6)
abbrev pub inherits : View → AbstractValue → AbstractValue → Looked
inherits w v o = record {
  value =
      let leads = some_label w (λ l. proper_ancestors w v.label l && o.label l) in
      value_if (has_labels w o) (of_bools leads (has_labels w v || has_atoms v));
  demands = demands_if (has_labels w o) (demands_of_ancestors w v.label);
}

-- ---- arrays and arguments objects

abbrev pub is_list_label : Program → Labels
is_list_label p l = is_array_label p l || is_arguments_site p l.site

abbrev pub has_elements : View → AbstractValue → Looked
has_elements w v =
    let is_list = some_label w (λ l. v.label l && is_list_label w.program l) in
    let is_other = some_label w (λ l. v.label l && not (is_list_label w.program l)) in
    looked (of_bools is_list (has_atoms v || is_other))

-- ---- those on texts and numbers alone read nothing of the state

abbrev pub of_values : (List AbstractValue → AbstractValue) → AbstractOperation
of_values f w vs = looked (f vs)

-- ---- all of them, by their numbers

abbrev pub operations : List AbstractOperation
operations =
    of_one is_object
    ∷ of_one class_of
    ∷ of_one value_of
    ∷ of_two has_own
    ∷ of_two is_enumerable
    ∷ of_two inherits
    ∷ of_one has_elements
    ∷ map (λ op. of_values (text_operation op)) text_operations

abbrev pub operation : ℕ → AbstractOperation
operation which =
    option_map_or (λ (r : AbstractOperation). r) (slice_get operations which)
    (λ w vs. looked no_value)
