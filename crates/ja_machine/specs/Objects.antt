-- The objects that nodes make.
use Rattle.std.specs.Prelude.{ℕ, ◌+◌, pos, Bool, true, false, not, if◌then◌else◌, List, [], ◌∷◌, length, drop, Some, None}
use Rattle.std.specs.List.{list_any}
use lib.Chars.{codes}
use Rattle.ja_base.specs.declared.ids.Site.{Site}
use Rattle.ja_graph.specs.declared.attrs.Attrs.{Attrs}
use Rattle.ja_graph.specs.declared.attrs.TheConstants.{ALL_ATTRS, DONT_DELETE, DONT_ENUM, KEPT_HIDDEN, NO_ATTRS}
use Rattle.ja_graph.specs.declared.builtins.TheConstants as builtins
use Rattle.ja_graph.specs.declared.node.ErrorKind.{ErrorKind}
use Rattle.ja_graph.specs.declared.node.ErrorKind.TheVariants as error_kind
use Rattle.ja_graph.specs.declared.node.Made.{Made}
use Rattle.ja_graph.specs.declared.node.Made.TheVariants as made
use Rattle.ja_graph.specs.declared.program.Class.{Class}
use Rattle.ja_graph.specs.declared.program.Class.TheVariants as class
use Rattle.ja_prim.specs.declared.primitive.Primitive.{Primitive}
use Rattle.ja_prim.specs.declared.primitive.Num.TheVariants.{Whole}
use Rattle.ja_prim.specs.declared.primitive.Primitive.TheVariants.{Number, Text}
use Rattle.ja_prim.specs.Conversions.{to_text}
use Rattle.ja_prim.specs.Texts.{same_text}
use Rattle.ja_machine.specs.declared.machine.Addr.{Addr}
use Rattle.ja_machine.specs.declared.machine.Value.{Value}
use Rattle.ja_machine.specs.declared.machine.Value.TheVariants as value
use Rattle.ja_machine.specs.declared.machine.Content.TheVariants as contents
use Rattle.ja_machine.specs.declared.machine.Property.{Property}
use Rattle.ja_machine.specs.declared.machine.Slots.{Slots}
use Rattle.ja_machine.specs.declared.machine.Object.{Object}
use Rattle.ja_machine.specs.Writes.{new_property, length_name, whole_number}
use Rattle.ja_machine.specs.Frames.{argument}

abbrev pub property_with : List ℕ → Value → Attrs → Property
property_with name v attrs = new_property name (contents.Value v) attrs

-- ---- objects

-- the only object of a site without a node
abbrev pub first_of : Site → Addr
first_of s = record { site = s; ordinal = 0 }

abbrev pub inheriting : Site → Slots
inheriting prototype =
    record {
      prototype = Some (first_of prototype);
      outer = None;
      scope = None;
      value = None;
      arguments = false;
    }

abbrev pub object_with : Class → Slots → List Property → Object
object_with class slots properties =
    record { class = class; slots = slots; properties = properties }

-- the prototype of the errors of a kind (15.11.4, 15.11.7)
abbrev pub prototype_of_error : ErrorKind → Site
prototype_of_error error_kind.Error = builtins.ERROR_PROTOTYPE
prototype_of_error error_kind.EvalError = builtins.EVAL_ERROR_PROTOTYPE
prototype_of_error error_kind.RangeError = builtins.RANGE_ERROR_PROTOTYPE
prototype_of_error error_kind.ReferenceError = builtins.REFERENCE_ERROR_PROTOTYPE
prototype_of_error error_kind.SyntaxError = builtins.SYNTAX_ERROR_PROTOTYPE
prototype_of_error error_kind.TypeError = builtins.TYPE_ERROR_PROTOTYPE
prototype_of_error error_kind.URIError = builtins.URI_ERROR_PROTOTYPE

-- an error of the machine's own: its message has no attributes
abbrev pub error_object : Site → List ℕ → Object
error_object prototype message =
    object_with class.Error (inheriting prototype)
    (property_with (codes "message") (value.Primitive (Text message)) NO_ATTRS ∷ [])

-- a new empty object (15.2.2.1), array (15.4.2.1) or error (15.11.2.1)
abbrev pub empty_object : Made → Object
empty_object made.Object = object_with class.Object (inheriting builtins.OBJECT_PROTOTYPE) []
empty_object made.Array =
    object_with class.Array (inheriting builtins.ARRAY_PROTOTYPE)
    (property_with length_name (whole_number 0) KEPT_HIDDEN ∷ [])
empty_object (made.Error kind) = object_with class.Error (inheriting (prototype_of_error kind)) []

-- the object of a boolean, a number or a text (9.9)
abbrev pub wrapper : Class → Site → Primitive → List Property → Object
wrapper class prototype q properties =
    object_with class (record (inheriting prototype) { value = Some q }) properties

abbrev pub text_length : List ℕ → List Property
text_length units = property_with length_name (whole_number (length units)) ALL_ATTRS ∷ []

-- an object before a scope chain (12.14, 13), made as by `new Object()`
abbrev pub scope_object : Addr → Object
scope_object outer =
    object_with class.Object (record (inheriting builtins.OBJECT_PROTOTYPE) { outer = Some outer })
    []

-- ---- functions (13.2)

abbrev pub function_object : ℕ → Addr → Addr → Object
function_object parameters chain prototype =
    object_with
    class.Function
    (record (inheriting builtins.FUNCTION_PROTOTYPE) { scope = Some chain })
    (property_with length_name (whole_number parameters) ALL_ATTRS
    ∷ property_with (codes "prototype") (value.Object prototype) DONT_DELETE ∷ [])

-- the object that its constructions inherit from
abbrev pub prototype_object : Addr → Object
prototype_object function =
    object_with class.Object (inheriting builtins.OBJECT_PROTOTYPE)
    (property_with (codes "constructor") (value.Object function) DONT_ENUM ∷ [])

-- what a construction makes (13.2.2)
abbrev pub constructed_object : Addr → Object
constructed_object prototype =
    object_with class.Object (record (inheriting builtins.OBJECT_PROTOTYPE)
    { prototype = Some prototype }) []

-- ---- activations and their arguments objects (10.1.6, 10.1.8)

-- a property in place of the one of its name, or last
abbrev pub with_property : List Property → Property → List Property
with_property [] q = q ∷ []
with_property (r ∷ rs) q = if same_text r.name q.name then q ∷ rs else r ∷ with_property rs q

-- Whether each parameter and the element of `arguments` at its place have one value: there is such
-- an argument, and no later parameter has the name.
abbrev pub sharing : List (List ℕ) → List Value → List Bool
sharing [] arguments = []
sharing (name ∷ names) [] = []
sharing (name ∷ names) (v ∷ arguments) =
    not (list_any (same_text name) names) ∷ sharing names arguments

abbrev pub first_flag : List Bool → Bool
first_flag [] = false
first_flag (b ∷ bs) = b

abbrev pub with_flag : Property → Bool → Property
with_flag q shared = record q { shared = shared }

-- the parameters bound, the last of equal names winning; a missing argument is undefined
abbrev pub with_parameters : List Property → List (List ℕ) → List Value → List Bool → List Property
with_parameters qs [] arguments flags = qs
with_parameters qs (name ∷ names) arguments flags =
    with_parameters (with_property qs (with_flag
    (property_with name (argument arguments 0) DONT_DELETE) (first_flag flags))) names
    (drop 1 arguments) (drop 1 flags)

abbrev pub index_text : ℕ → List ℕ
index_text i = to_text (Number (Whole (pos i)))

-- a property that `for`-`in` doesn't show
abbrev pub hidden : List ℕ → Value → Property
hidden name v = property_with name v DONT_ENUM

-- the element of `arguments` at an index
abbrev pub argument_element : ℕ → Value → List Bool → Property
argument_element i v flags = with_flag (hidden (index_text i) v) (first_flag flags)

-- the elements of `arguments` from an index on, in order
abbrev pub with_elements : List Property → ℕ → List Value → List Bool → List Property
with_elements qs i [] flags = qs
with_elements qs i (v ∷ arguments) flags =
    with_elements (with_property qs (argument_element i v flags)) (i + 1) arguments (drop 1 flags)

-- an arguments object before it has its elements
abbrev pub empty_arguments : Value → ℕ → Object
empty_arguments callee count =
    object_with
    class.Object
    (record (inheriting builtins.OBJECT_PROTOTYPE) { arguments = true })
    (hidden (codes "callee") callee ∷ hidden length_name (whole_number count) ∷ [])

abbrev pub arguments_object : Value → List Value → List Bool → Object
arguments_object callee arguments flags =
    let o : Object = empty_arguments callee (length arguments) in
    record o { properties = with_elements o.properties 0 arguments flags }

-- an activation has no prototype
abbrev pub activation : Addr → List Property → Object
activation outer properties = record {
  class = class.Activation;
  slots =
      record {
        prototype = None;
        outer = Some outer;
        scope = None;
        value = None;
        arguments = false;
      };
  properties = properties;
}
