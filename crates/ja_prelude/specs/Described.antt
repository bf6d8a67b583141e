-- The built-in objects by their paths, as the standard describes them (ES3 section 15): the
-- internal value and the properties of each. The laws of table_laws.rt compare with them what is
-- there when a run begins.
use Rattle.std.specs.Prelude.{ℕ, pos, false, not, Option, Some, None}
use Rattle.std.specs.Prelude.{List, [], ◌∷◌, ◌++◌, map, filter, find}
use Rattle.std.specs.List.{flat_map, fold, slice_get}
use Rattle.std.specs.Option.{option_map_or}
use Rattle.std.specs.Str.{bytes_eq}
use Prim.Native.String.{String}
use lib.Chars.{codes}
use Rattle.ja_base.specs.declared.ids.NameId.{NameId}
use Rattle.ja_graph.specs.WellFormed.{builtin_names}
use Rattle.ja_graph.specs.declared.program.ObjectSpec.{ObjectSpec}
use Rattle.ja_graph.specs.declared.program.PropertySpec.{PropertySpec}
use Rattle.ja_graph.specs.declared.program.SpecContent.{SpecContent}
use Rattle.ja_graph.specs.declared.program.SpecContent.TheVariants as spec
use Rattle.ja_lower_names.specs.Names.{with_name}
use Rattle.ja_prelude.specs.Table.{is_word, member, opening_objects, path_of, words}
use Rattle.ja_prim.specs.declared.primitive.Num.TheVariants.{NaN, Whole}
use Rattle.ja_prim.specs.declared.primitive.Primitive.{Primitive}
use Rattle.ja_prim.specs.declared.primitive.Primitive.TheVariants as primitive

-- What a property has: a primitive value, the object at a path, or nothing that the tool has, since
-- it is out of the profile.
pub data Held : Type 0 where
  Value : Primitive → Held
  At : List ℕ → Held
  Row : Held

-- a property: its name, and what it has
pub record Property : Type 0 where
  pub name : List ℕ
  pub held : Held

-- an object: its path, its internal value if it has one (8.6.2), and its properties
pub record Described : Type 0 where
  pub path : List ℕ
  pub value : Option Primitive
  pub properties : List Property

-- ---- words for properties

abbrev pub property : List ℕ → Held → Property
property name held = record { name = name; held = held }

-- some of the properties of the object with a path
abbrev pub Part : Type 0
Part = List ℕ → List Property

-- a primitive value
abbrev pub gives : String → Primitive → Part
gives name value path = property (codes name) (Value value) ∷ []

abbrev pub whole : ℕ → Primitive
whole n = primitive.Number (Whole (pos n))

-- the object at another path
abbrev pub leads : String → String → Part
leads name to path = property (codes name) (At (codes to)) ∷ []

-- objects, each at the path of the property itself
abbrev pub own : String → Part
own names path = map (λ name. property name (At (member path name))) (words names)

-- rows
abbrev pub rows : String → Part
rows names path = map (λ name. property name Row) (words names)

-- ---- words for objects

abbrev pub with_value : String → Option Primitive → List Part → Described
with_value path value parts = record {
  path = codes path;
  value = value;
  properties = flat_map (λ (part : Part). part (codes path)) parts;
}

abbrev pub with : String → List Part → Described
with path parts = with_value path None parts

-- a function that takes so many arguments (15.3.5.1)
abbrev pub function : String → ℕ → Described
function path count = with path (gives "length" (whole count) ∷ [])

-- a constructor, which takes one argument and has nothing besides but `prototype` (15.2.3.1)
abbrev pub constructor : String → Described
constructor path = with path (gives "length" (whole 1) ∷ own "prototype" ∷ [])

-- the prototype of a kind of native errors (15.11.7.8, 15.11.7.9, 15.11.7.10)
abbrev pub error_prototype : String → String → Described
error_prototype path kind =
    with path (
    leads "constructor" kind ∷ gives "name" (primitive.Text (codes kind))
    ∷ gives "message" (primitive.Text []) ∷ [])

-- ---- the objects

abbrev pub descriptions : List Described
descriptions =
    -- the global object (15.1)
    with "global" (
    gives "NaN" (primitive.Number NaN) ∷ gives "undefined" primitive.Undefined
    ∷ own "parseInt parseFloat isNaN isFinite"
    ∷ own "Object Function Array String Boolean Number"
    ∷ own "Error EvalError RangeError ReferenceError SyntaxError TypeError URIError"
    ∷ own "Math"
    ∷ rows "Infinity eval decodeURI decodeURIComponent encodeURI encodeURIComponent"
    ∷ rows "escape unescape Date RegExp" ∷ [])
    -- objects (15.2)
    ∷ constructor "Object"
    ∷ with "Object.prototype" (
    leads "constructor" "Object" ∷ own "toString valueOf"
    ∷ own "hasOwnProperty isPrototypeOf propertyIsEnumerable" ∷ rows "toLocaleString" ∷ [])
    -- functions (15.3)
    ∷ constructor "Function"
    ∷ with "Function.prototype" (
    gives "length" (whole 0) ∷ leads "constructor" "Function" ∷ own "apply call"
    ∷ rows "toString" ∷ [])
    -- arrays (15.4)
    ∷ constructor "Array"
    ∷ with "Array.prototype" (
    gives "length" (whole 0) ∷ leads "constructor" "Array"
    ∷ own "toString concat join pop push reverse shift slice splice unshift"
    ∷ rows "toLocaleString sort" ∷ [])
    -- texts (15.5)
    ∷ with "String" (gives "length" (whole 1) ∷ own "fromCharCode prototype" ∷ [])
    ∷ with_value "String.prototype" (Some (primitive.Text [])) (
    gives "length" (whole 0) ∷ leads "constructor" "String" ∷ own "toString valueOf"
    ∷ own "charAt charCodeAt concat indexOf lastIndexOf slice split substring"
    ∷ own "toLowerCase toUpperCase"
    ∷ rows "substr match replace search localeCompare toLocaleLowerCase toLocaleUpperCase" ∷ [])
    -- truth values (15.6)
    ∷ constructor "Boolean"
    ∷ with_value "Boolean.prototype" (Some (primitive.Bool false)) (
    leads "constructor" "Boolean" ∷ own "toString valueOf" ∷ [])
    -- numbers (15.7)
    ∷ with "Number" (
    gives "length" (whole 1) ∷ own "prototype" ∷ gives "NaN" (primitive.Number NaN)
    ∷ rows "MAX_VALUE MIN_VALUE POSITIVE_INFINITY NEGATIVE_INFINITY" ∷ [])
    ∷ with_value "Number.prototype" (Some (whole 0)) (
    leads "constructor" "Number" ∷ own "toString valueOf"
    ∷ rows "toLocaleString toFixed toExponential toPrecision" ∷ [])
    -- errors (15.11)
    ∷ constructor "Error"
    ∷ with "Error.prototype" (
    leads "constructor" "Error" ∷ gives "name" (primitive.Text (codes "Error"))
    ∷ gives "message" (primitive.Text []) ∷ own "toString" ∷ [])
    ∷ constructor "EvalError" ∷ error_prototype "EvalError.prototype" "EvalError"
    ∷ constructor "RangeError" ∷ error_prototype "RangeError.prototype" "RangeError"
    ∷ constructor "ReferenceError" ∷ error_prototype "ReferenceError.prototype" "ReferenceError"
    ∷ constructor "SyntaxError" ∷ error_prototype "SyntaxError.prototype" "SyntaxError"
    ∷ constructor "TypeError" ∷ error_prototype "TypeError.prototype" "TypeError"
    ∷ constructor "URIError" ∷ error_prototype "URIError.prototype" "URIError"
    -- Math (15.8)
    ∷ with "Math" (
    own "abs ceil floor round max min pow"
    ∷ rows "E LN10 LN2 LOG2E LOG10E PI SQRT1_2 SQRT2"
    ∷ rows "acos asin atan atan2 cos exp log random sin sqrt tan" ∷ [])
    -- the other functions (15.1.2, 15.2.4, 15.3.4, 15.4.4, 15.5.3, 15.5.4, 15.6.4, 15.7.4, 15.8.2,
    -- 15.11.4)
    ∷ function "parseInt" 2
    ∷ function "parseFloat" 1
    ∷ function "isNaN" 1
    ∷ function "isFinite" 1
    ∷ function "Object.prototype.toString" 0
    ∷ function "Object.prototype.valueOf" 0
    ∷ function "Object.prototype.hasOwnProperty" 1
    ∷ function "Object.prototype.isPrototypeOf" 1
    ∷ function "Object.prototype.propertyIsEnumerable" 1
    ∷ function "Function.prototype.apply" 2
    ∷ function "Function.prototype.call" 1
    ∷ function "Array.prototype.toString" 0
    ∷ function "Array.prototype.concat" 1
    ∷ function "Array.prototype.join" 1
    ∷ function "Array.prototype.pop" 0
    ∷ function "Array.prototype.push" 1
    ∷ function "Array.prototype.reverse" 0
    ∷ function "Array.prototype.shift" 0
    ∷ function "Array.prototype.slice" 2
    ∷ function "Array.prototype.splice" 2
    ∷ function "Array.prototype.unshift" 1
    ∷ function "String.fromCharCode" 1
    ∷ function "String.prototype.toString" 0
    ∷ function "String.prototype.valueOf" 0
    ∷ function "String.prototype.charAt" 1
    ∷ function "String.prototype.charCodeAt" 1
    ∷ function "String.prototype.concat" 1
    ∷ function "String.prototype.indexOf" 1
    ∷ function "String.prototype.lastIndexOf" 1
    ∷ function "String.prototype.slice" 2
    ∷ function "String.prototype.split" 2
    ∷ function "String.prototype.substring" 2
    ∷ function "String.prototype.toLowerCase" 0
    ∷ function "String.prototype.toUpperCase" 0
    ∷ function "Boolean.prototype.toString" 0
    ∷ function "Boolean.prototype.valueOf" 0
    ∷ function "Number.prototype.toString" 1
    ∷ function "Number.prototype.valueOf" 0
    ∷ function "Error.prototype.toString" 0
    ∷ function "Math.abs" 1
    ∷ function "Math.ceil" 1
    ∷ function "Math.floor" 1
    ∷ function "Math.round" 1
    ∷ function "Math.max" 2
    ∷ function "Math.min" 2
    ∷ function "Math.pow" 2
    ∷ []

-- ---- what is there when a run begins, in these words

-- the text of a name
abbrev pub text_of : NameId → List ℕ
text_of name = option_map_or (λ text. text) (slice_get builtin_names name.0) []

abbrev pub held_by : SpecContent → Held
held_by (spec.Prim value) = Value value
held_by (spec.Object site) = At (path_of site)
held_by spec.Row = Row

abbrev pub property_of : PropertySpec → Property
property_of q = property (text_of q.name) (held_by q.content)

abbrev pub described : ObjectSpec → Described
described o = record {
  path = path_of o.site;
  value = o.value;
  properties = map property_of o.properties;
}

-- the object at a path, if there is one
abbrev pub object_at : List ℕ → Option Described
object_at path = find (λ (d : Described). bytes_eq d.path path) (map described opening_objects)

-- ---- the names of the properties

-- those that objects have, too, which are made in a run: functions, arrays, texts and arguments
-- objects (10.1.8)
abbrev pub later_names : List (List ℕ)
later_names = words "length callee arguments"

abbrev pub described_names : List (List ℕ)
described_names =
    flat_map (λ (d : Described). map (λ (p : Property). p.name) d.properties) descriptions

-- each name once, in the order of the descriptions
abbrev pub names_in_order : List (List ℕ)
names_in_order =
    fold with_name [] (filter (λ name. not (is_word name later_names)) described_names)
    ++ later_names
