-- What the abstract operations of the built-in functions come to beside those of the machine (ES3
-- 15.1.2, 15.2.4, 15.3.4.3, 15.5, 15.7.4.2, and the internal properties of 8.6.2): how many values
-- they take, of which kind their results are, and what they give of constants and of one object.
use Rattle.std.specs.Prelude.{◌≡◌, ◌⊎◌, ◌||◌, ℕ, Bool, true, false, List, [], ◌∷◌, map, length, Some, Ok, Err, IsTrue, slice_get}
use Rattle.ja_base.specs.declared.ids.Label.{Label}
use Rattle.ja_prim.specs.declared.primitive.Primitive.{Primitive}
use Rattle.ja_prim.specs.declared.primitive.Primitive.TheVariants as primitive
use Rattle.ja_machine.specs.declared.machine.Value.{Value}
use Rattle.ja_machine.specs.declared.machine.Value.TheVariants as value
use Rattle.ja_machine.specs.declared.machine.Heap.{Heap}
use Rattle.ja_machine.specs.Intrinsics.{IntrinsicOutcome, Computation, class_name, rows}
use Rattle.ja_machine.specs.Intrinsics as machine
use Rattle.ja_machine.specs.Machine.{class_of_site}
use Rattle.ja_abstract.specs.AbstractValue.{AbstractValue, AbstractProperty, no_flags, no_value, of_primitive, of_label}
use Rattle.ja_abstract.specs.Primitives.{of_bools, of_text_part}
use Rattle.ja_abstract.specs.Operations.{operation, looked, is_list_label, text_keys_of}
use Rattle.ja_abstract.specs.Made.{value_key}
use Rattle.ja_abstract.specs.Reading.{View, own, slot, may_have, may_lack, may_be_enumerable, may_be_hidden}
use Rattle.ja_abstract.specs.Values.{primitives_of}

-- ---- how many values they take

-- given another number of values than the machine's operation takes, nothing is given or demanded
abbrev pub TakeTheirValues : Type 0
TakeTheirValues =
    (which : ℕ) (o : machine.Operation) → slice_get machine.operations which ≡ Some o
    → (w : View) (vs : List AbstractValue)
    → (length vs ≡ o.takes) ⊎ (operation which w vs ≡ looked no_value)

-- ---- of which kind their results are

pub data ResultKind : Type 0 where
  booleans : ResultKind
  texts : ResultKind
  numbers : ResultKind
  primitives : ResultKind

-- by their numbers: whether a value is an object, its class, its [[Value]], whether it has an own
-- property, shows it, inherits, has elements; the digits of a number; of texts the size, a unit, a
-- part, a character, the first and the last place of another, small and great letters, and the
-- numbers at their front
abbrev pub kinds : List ResultKind
kinds =
    booleans ∷ texts ∷ primitives ∷ booleans ∷ booleans ∷ booleans ∷ booleans ∷ texts
    ∷ numbers ∷ numbers ∷ texts ∷ texts ∷ numbers ∷ numbers ∷ texts ∷ texts ∷ numbers ∷ numbers ∷ []

-- what the machine's operation gives is of the kind
abbrev pub is_of_kind : ResultKind → Primitive → Bool
is_of_kind booleans (primitive.Bool b) = true
is_of_kind texts (primitive.Text t) = true
is_of_kind numbers (primitive.Number n) = true
is_of_kind primitives q = true
is_of_kind kind q = false

abbrev pub ResultsAreOfKinds : Type 0
ResultsAreOfKinds =
    (which : ℕ) (kind : ResultKind) (row : Computation) → slice_get kinds which ≡ Some kind
    → slice_get rows which ≡ Some row → (xs : List Value) (h : Heap) (q : Primitive)
    → row xs h ≡ Ok q → IsTrue (is_of_kind kind q)

-- the parts of a value that are of the kind
abbrev pub part_of_kind : ResultKind → AbstractValue → AbstractValue
part_of_kind booleans v = of_bools v.flags.is_true v.flags.is_false
part_of_kind texts v = of_text_part v.text
part_of_kind numbers v = record no_value {
  flags = record no_flags { nan = v.flags.nan };
  number = v.number;
}
part_of_kind primitives v = primitives_of v

-- an abstract operation gives no other part than those of the kind
abbrev pub GiveNoOtherKind : Type 0
GiveNoOtherKind =
    (which : ℕ) (kind : ResultKind) → slice_get kinds which ≡ Some kind
    → (w : View) (vs : List AbstractValue)
    → (operation which w vs).value ≡ part_of_kind kind (operation which w vs).value

-- ---- of constants they are the machine's

-- exactly a result; nothing, where an operation doesn't take the values
abbrev pub exactly_given : IntrinsicOutcome → AbstractValue
exactly_given (Ok q) = of_primitive q
exactly_given (Err kind) = no_value

-- of one primitive each they give exactly what the machine gives
abbrev pub AreExact : Type 0
AreExact =
    (which : ℕ) (row : Computation) → slice_get rows which ≡ Some row
    → (w : View) (h : Heap) (qs : List Primitive)
    → (operation which w (map of_primitive qs)).value
    ≡ exactly_given (row (map value.Primitive qs) h)

-- ---- of one object

-- its site tells whether it is an object, its class, and whether it has elements
pub record IsToldBySite (w : View) (l : Label) : Type 0 where
  pub is_object : (operation 0 w (of_label l ∷ [])).value ≡ of_primitive (primitive.Bool true)
  pub class : (operation 1 w (of_label l ∷ [])).value
      ≡ of_primitive (primitive.Text (class_name (class_of_site w.program l.site.0)))
  pub has_elements : (operation 6 w (of_label l ∷ [])).value
      ≡ of_primitive (primitive.Bool (is_list_label w.program l))

-- its resolved readings tell its [[Value]], whether it has an own property of a name, and whether
-- it shows it
abbrev pub own_named : View → Label → AbstractValue → AbstractProperty
own_named w l name = own w l (text_keys_of w name)

pub record IsToldByReadings (w : View) (l : Label) : Type 0 where
  pub value : (operation 2 w (of_label l ∷ [])).value ≡ primitives_of (slot w l value_key)
  pub has_own : (name : AbstractValue) → (operation 3 w (of_label l ∷ name ∷ [])).value
      ≡ of_bools (may_have w (own_named w l name)) (may_lack (own_named w l name))
  pub is_enumerable : (name : AbstractValue) → (operation 4 w (of_label l ∷ name ∷ [])).value
      ≡ of_bools (may_be_enumerable w (own_named w l name))
      (may_lack (own_named w l name) || may_be_hidden w (own_named w l name))
