-- The operations that the built-in functions are written with: what each gives of the values that
-- it takes and of the heap.
use Rattle.std.specs.Prelude.{◌≡◌, ◌⊎◌, ℕ, ◌∷◌, Bool, false, List, [], map, length, Option, Some, None, is_some, Result, Ok, Err}
use Rattle.std.specs.Option.{option_and_then, option_map, option_map_or}
use lib.Chars.{codes}
use Rattle.ja_base.specs.declared.ids.ScopeKind.{ScopeKind}
use Rattle.ja_base.specs.declared.ids.ScopeKind.TheVariants.{Register}
use Rattle.ja_prim.specs.declared.primitive.Primitive.{Primitive}
use Rattle.ja_prim.specs.declared.primitive.Primitive.TheVariants.{Text}
use Rattle.ja_graph.specs.declared.program.Class.{Class}
use Rattle.ja_graph.specs.declared.program.Class.TheVariants as class
use Rattle.ja_machine.specs.declared.machine.Addr.{Addr}
use Rattle.ja_machine.specs.declared.machine.Value.{Value}
use Rattle.ja_machine.specs.declared.machine.Value.TheVariants as value
use Rattle.ja_machine.specs.declared.machine.Property.{Property}
use Rattle.ja_machine.specs.declared.machine.Object.{Object}
use Rattle.ja_machine.specs.declared.machine.Heap.{Heap}
use Rattle.ja_machine.specs.Heap.{object_at, class_at, own, inherits_from}
use Rattle.ja_machine.specs.Values.{is_object, truth}
use Rattle.ja_machine.specs.Enumeration.{is_enumerable}
use Rattle.ja_machine.specs.Calls.{has_elements_at}
use Rattle.ja_machine.specs.TextOperations.{PrimitiveRow, row}
use Rattle.ja_machine.specs.declared.machine.TextOperation.TheVariants as text

-- what an operation gives: a primitive value, or why the run leaves the profile
abbrev pub IntrinsicOutcome : Type 0
IntrinsicOutcome = Result Primitive ScopeKind

-- one that doesn't take the values in its registers leaves the profile
abbrev pub refused : IntrinsicOutcome
refused = Err Register

abbrev pub tells : Bool → IntrinsicOutcome
tells b = Ok (truth b)

abbrev pub Computation : Type 0
Computation = List Value → Heap → IntrinsicOutcome

-- an operation on one value, and one on two
abbrev pub of_one : (Heap → Value → IntrinsicOutcome) → Computation
of_one f (v ∷ []) h = f h v
of_one f vs h = refused

abbrev pub of_two : (Heap → Value → Value → IntrinsicOutcome) → Computation
of_two f (v ∷ w ∷ []) h = f h v w
of_two f vs h = refused

-- ---- internal properties (8.6.2)

abbrev pub if_any : Option Primitive → IntrinsicOutcome
if_any None = refused
if_any (Some q) = Ok q

-- [[Class]]: an activation, which no function meets as a value (10.1.6), has none of its own
abbrev pub class_name : Class → List ℕ
class_name class.Object = codes "Object"
class_name class.Function = codes "Function"
class_name class.Array = codes "Array"
class_name class.String = codes "String"
class_name class.Boolean = codes "Boolean"
class_name class.Number = codes "Number"
class_name class.Error = codes "Error"
class_name class.Math = codes "Math"
class_name class.Activation = codes "Object"

abbrev pub class_of : Heap → Value → IntrinsicOutcome
class_of h (value.Object a) =
    if_any (option_map (λ (c : Class). Text (class_name c)) (class_at h a))
class_of h (value.Primitive q) = refused

-- [[Value]]
abbrev pub value_of : Heap → Value → IntrinsicOutcome
value_of h (value.Object a) =
    if_any (option_and_then (λ (o : Object). o.slots.value) (object_at h a))
value_of h (value.Primitive q) = refused

-- ---- properties and prototypes (15.2.4.5 to 15.2.4.7)

-- what is asked of an object's own property of a name
abbrev pub of_own : (Option Property → Bool) → Heap → Value → Value → IntrinsicOutcome
of_own holds h (value.Object a) (value.Primitive (Text name)) = tells (holds (own h a name))
of_own holds h v w = refused

abbrev pub is_shown : Option Property → Bool
is_shown q = option_map_or is_enumerable q false

-- whether a value is an object that inherits from one
abbrev pub is_behind : Heap → Addr → Value → Bool
is_behind h a (value.Object b) = inherits_from h b a
is_behind h a (value.Primitive q) = false

abbrev pub inherits : Heap → Value → Value → IntrinsicOutcome
inherits h v (value.Object a) = tells (is_behind h a v)
inherits h v (value.Primitive q) = refused

-- whether a value is an array or an arguments object (15.3.4.3)
abbrev pub is_list : Heap → Value → Bool
is_list h (value.Object a) = has_elements_at h a
is_list h (value.Primitive q) = false

-- ---- texts and numbers

-- the primitive values, where all are primitive
abbrev pub primitives_in : List Value → Option (List Primitive)
primitives_in [] = Some []
primitives_in (value.Primitive q ∷ vs) = option_map (λ qs. q ∷ qs) (primitives_in vs)
primitives_in (value.Object a ∷ vs) = None

abbrev pub on_primitives : PrimitiveRow → Computation
on_primitives row vs h = option_map_or row (primitives_in vs) refused

-- ---- all of them

-- an operation: the name under which it is called, how many values it takes, and what it gives
pub record Operation : Type 0 where
  pub name : List ℕ
  pub takes : ℕ
  pub gives : Computation

abbrev pub operation : List ℕ → ℕ → Computation → Operation
operation name takes gives = record { name = name; takes = takes; gives = gives }

-- by their numbers
abbrev pub operations : List Operation
operations =
    operation (codes "$is_object") 1 (of_one (λ h v. tells (is_object v)))
    ∷ operation (codes "$class") 1 (of_one class_of)
    ∷ operation (codes "$value") 1 (of_one value_of)
    ∷ operation (codes "$has_own") 2 (of_two (of_own is_some))
    ∷ operation (codes "$is_enumerable") 2 (of_two (of_own is_shown))
    ∷ operation (codes "$inherits") 2 (of_two inherits)
    ∷ operation (codes "$has_elements") 1 (of_one (λ h v. tells (is_list h v)))
    ∷ operation (codes "$digits") 2 (on_primitives (row text.Digits))
    ∷ operation (codes "$size") 1 (on_primitives (row text.Size))
    ∷ operation (codes "$unit") 2 (on_primitives (row text.Unit))
    ∷ operation (codes "$part") 3 (on_primitives (row text.Part))
    ∷ operation (codes "$character") 1 (on_primitives (row text.Character))
    ∷ operation (codes "$index_of") 3 (on_primitives (row text.IndexOf))
    ∷ operation (codes "$last_index_of") 3 (on_primitives (row text.LastIndexOf))
    ∷ operation (codes "$lower") 1 (on_primitives (row text.Lower))
    ∷ operation (codes "$upper") 1 (on_primitives (row text.Upper))
    ∷ operation (codes "$parse_int") 2 (on_primitives (row text.ParseInt))
    ∷ operation (codes "$parse_float") 1 (on_primitives (row text.ParseFloat)) ∷ []

abbrev pub rows : List Computation
rows = map (λ (o : Operation). o.gives) operations

-- given another number of values than it takes, an operation leaves the profile
abbrev pub TakesItsValues : Operation → Type 0
TakesItsValues o = (vs : List Value) (h : Heap) → (length vs ≡ o.takes) ⊎ (o.gives vs h ≡ refused)
