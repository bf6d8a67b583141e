-- The built-in objects (ES3 section 15), by the table of them, with their names and sites; and what
-- is said of the table.
use Rattle.std.specs.Prelude.{ℕ, suc, pos, Bool, true, false, ◌+◌, ◌==◌, ◌&&◌, not, List, [], ◌∷◌, ◌++◌, map, filter, find, Option, Some, None}
use Rattle.std.specs.Bool.{if◌then◌else◌}
use Rattle.std.specs.List.{enumerate_from, flat_map, list_any, slice_split}
use Rattle.std.specs.Option.{is_some, option_and_then, option_map, option_map_or, option_to_list}
use Rattle.std.specs.Str.{bytes_eq}
use Prim.Native.String.{String}
use lib.Chars.{codes}
use Rattle.ja_base.specs.declared.ids.FnId.{FnId}
use Rattle.ja_base.specs.declared.ids.NameId.{NameId}
use Rattle.ja_base.specs.declared.ids.Site.{Site}
use Rattle.ja_lower_names.specs.Names.{number}
use Rattle.ja_prim.specs.declared.primitive.Num.TheVariants.{NaN, Whole}
use Rattle.ja_prim.specs.declared.primitive.Primitive.{Primitive}
use Rattle.ja_prim.specs.declared.primitive.Primitive.TheVariants as primitive
use Rattle.ja_graph.specs.declared.attrs.Attrs.{Attrs}
use Rattle.ja_graph.specs.declared.attrs.TheConstants.{ALL_ATTRS, DONT_ENUM, KEPT_HIDDEN}
use Rattle.ja_graph.specs.declared.builtins.TheConstants.{BUILTIN_CLASSES}
use Rattle.ja_graph.specs.declared.builtins.TheConstants as sites
use Rattle.ja_graph.specs.declared.node.ErrorKind.{ErrorKind}
use Rattle.ja_graph.specs.declared.node.ErrorKind.TheVariants as kind
use Rattle.ja_graph.specs.declared.program.Class.{Class}
use Rattle.ja_graph.specs.declared.program.Class.TheVariants as class
use Rattle.ja_graph.specs.declared.program.ObjectSpec.{ObjectSpec}
use Rattle.ja_graph.specs.declared.program.PropertySpec.{PropertySpec}
use Rattle.ja_graph.specs.declared.program.SpecContent.{SpecContent}
use Rattle.ja_graph.specs.declared.program.SpecContent.TheVariants as spec
use Rattle.ja_graph.specs.declared.program.SiteInfo.{SiteInfo}
use Rattle.ja_graph.specs.WellFormed.{builtin_names}
use Rattle.ja_prelude.specs.declared.table.TheConstants.{OBJECTS, FUNCTION_OBJECTS}
use Rattle.ja_prelude.specs.declared.table.BuiltinObject.{BuiltinObject}
use Rattle.ja_prelude.specs.declared.table.Constant.{Constant}
use Rattle.ja_prelude.specs.declared.table.Constant.TheVariants as constant
use Rattle.ja_prelude.specs.declared.table.Content.{Content}
use Rattle.ja_prelude.specs.declared.table.Content.TheVariants as content
use Rattle.ja_prelude.specs.declared.table.Role.{Role}
use Rattle.ja_prelude.specs.declared.table.Role.TheVariants as role

-- A property of the table: its name, what it has, and its attributes.
pub record TableEntry : Type 0 where
  pub name : List ℕ
  pub content : Content
  pub attrs : Attrs

abbrev pub entry_of : List ℕ → Content → Attrs → TableEntry
entry_of name content attrs = record { name = name; content = content; attrs = attrs }

-- A row of the table: the name under which reports print an object, the object, and its properties.
pub record TableRow : Type 0 where
  pub path : List ℕ
  pub object : BuiltinObject
  pub entries : List TableEntry

abbrev pub row_of : List ℕ → BuiltinObject → List TableEntry → TableRow
row_of path object entries = record { path = path; object = object; entries = entries }

-- the rows of the table: those of the global object, the prototypes, the constructors and `Math`, and
-- those of the other functions
abbrev pub object_rows : List TableRow
object_rows =
    map (λ row. row_of row.0.now row.1 (map (λ e. entry_of e.0.now e.1 e.2) row.2.now)) OBJECTS

abbrev pub function_rows : List TableRow
function_rows =
    map (λ row. row_of row.0.now row.1 (map (λ e. entry_of e.0.now e.1 e.2) row.2.now))
    FUNCTION_OBJECTS

abbrev pub table_rows : List TableRow
table_rows = object_rows ++ function_rows

-- ---- the objects that are there when a run begins

-- the number of a built-in name: its place among them
unfoldable pub builtin_number : List ℕ → NameId
builtin_number name = number builtin_names name

-- the name of a kind of errors (15.11.7.9)
abbrev pub error_name : ErrorKind → List ℕ
error_name kind.Error = codes "Error"
error_name kind.EvalError = codes "EvalError"
error_name kind.RangeError = codes "RangeError"
error_name kind.ReferenceError = codes "ReferenceError"
error_name kind.SyntaxError = codes "SyntaxError"
error_name kind.TypeError = codes "TypeError"
error_name kind.URIError = codes "URIError"

-- a number of the table
abbrev pub number_of : ℕ → Primitive
number_of n = primitive.Number (Whole (pos n))

-- a primitive value of the table
abbrev pub primitive_of : Constant → Primitive
primitive_of constant.Undefined = primitive.Undefined
primitive_of constant.NaN = primitive.Number NaN
primitive_of constant.False = primitive.Bool false
primitive_of (constant.Number n) = number_of n
primitive_of constant.Empty = primitive.Text []
primitive_of (constant.ErrorName kind) = primitive.Text (error_name kind)

-- what a property of the table has
abbrev pub content_of : Content → SpecContent
content_of (content.Prim value) = spec.Prim (primitive_of value)
content_of (content.Object site) = spec.Object site
content_of content.Row = spec.Row

-- a property of the table
abbrev pub property_of : TableEntry → PropertySpec
property_of e =
    record { name = builtin_number e.name; content = content_of e.content; attrs = e.attrs }

-- the internal value of an object of the table, if it has one (8.6.2)
abbrev pub value_of : Role → Option Primitive
value_of (role.Wrapper value) = Some (primitive_of value)
value_of other = None

-- the function that [[Call]] runs, by its number in the table, and the one that [[Construct]] runs
abbrev pub call_of : Role → Option ℕ
call_of (role.Function call) = Some call
call_of (role.Constructor call construct) = Some call
call_of other = None

abbrev pub construct_of : Role → Option ℕ
construct_of (role.Constructor call construct) = Some construct
construct_of other = None

-- the scope of a function is the global object
abbrev pub scope_of : Role → Option Site
scope_of role = option_map (λ _. sites.GLOBAL) (call_of role)

-- an object of the table with these properties
abbrev pub object_with : BuiltinObject → List PropertySpec → ObjectSpec
object_with o properties = record {
  site = o.site;
  prototype = o.prototype;
  scope = scope_of o.role;
  value = value_of o.role;
  properties = properties;
}

abbrev pub object_of : TableRow → ObjectSpec
object_of row = object_with row.object (map property_of row.entries)

-- the built-in objects, each behind its prototype and its scope
unfoldable pub opening_objects : List ObjectSpec
opening_objects = map object_of table_rows

-- ---- their sites

-- a function of the table in a program in which the first one has this number
abbrev pub function_of : ℕ → ℕ → FnId
function_of first k = record { 0 = first + k }

-- the site of an object of the table, with this class and this path: what its objects run, and the
-- name under which reports print it
abbrev pub site_of : ℕ → Class → List ℕ → Role → SiteInfo
site_of first kind path role = record {
  class = kind;
  place = record { line = 0; column = 0 };
  owner = None;
  calls = option_map (function_of first) (call_of role);
  constructs = option_map (function_of first) (construct_of role);
  builtin = Some path;
}

-- the row of the object that has a site
abbrev pub row_with : List TableRow → ℕ → Option TableRow
row_with rows s = find (λ (row : TableRow). row.object.site.0 == s) rows

-- the site of this number and class, if an object of the table has it
abbrev pub sites_with : ℕ → List TableRow → ℕ × Class → List SiteInfo
sites_with first rows site =
    option_to_list (option_map (λ (row : TableRow). site_of first site.1 row.path row.object.role)
    (row_with rows site.0))

-- the sites of the built-in objects, by their numbers
unfoldable pub builtin_sites : ℕ → List SiteInfo
builtin_sites first = flat_map (sites_with first table_rows) (enumerate_from 0 BUILTIN_CLASSES)

-- ---- what the standard says of the table

-- the words of a text, between which stands a blank
abbrev pub words : String → List (List ℕ)
words text = slice_split (λ unit. unit == 32) (codes text)

-- a name is one of these
abbrev pub is_word : List ℕ → List (List ℕ) → Bool
is_word name names = list_any (bytes_eq name) names

-- A built-in object by the name of its site: its class, and its path in the standard.
pub record NamedSite : Type 0 where
  pub site : Site
  pub class : Class
  pub path : List ℕ

abbrev pub named : Site → Class → String → NamedSite
named site kind path = record { site = site; class = kind; path = codes path }

-- the built-in objects: the global object and the prototypes (15.1, 15.2.4, 15.3.4, 15.4.4, 15.5.4,
-- 15.6.4, 15.7.4, 15.11.4, 15.11.7), the constructors (15.2.3, 15.3.3, 15.4.3, 15.5.3, 15.6.3,
-- 15.7.3, 15.11.3, 15.11.7), `Math` (15.8), and the other functions
abbrev pub named_sites : List NamedSite
named_sites =
    named sites.GLOBAL class.Object "global"
    ∷ named sites.OBJECT_PROTOTYPE class.Object "Object.prototype"
    ∷ named sites.FUNCTION_PROTOTYPE class.Function "Function.prototype"
    ∷ named sites.ARRAY_PROTOTYPE class.Array "Array.prototype"
    ∷ named sites.STRING_PROTOTYPE class.String "String.prototype"
    ∷ named sites.BOOLEAN_PROTOTYPE class.Boolean "Boolean.prototype"
    ∷ named sites.NUMBER_PROTOTYPE class.Number "Number.prototype"
    ∷ named sites.ERROR_PROTOTYPE class.Error "Error.prototype"
    ∷ named sites.EVAL_ERROR_PROTOTYPE class.Error "EvalError.prototype"
    ∷ named sites.RANGE_ERROR_PROTOTYPE class.Error "RangeError.prototype"
    ∷ named sites.REFERENCE_ERROR_PROTOTYPE class.Error "ReferenceError.prototype"
    ∷ named sites.SYNTAX_ERROR_PROTOTYPE class.Error "SyntaxError.prototype"
    ∷ named sites.TYPE_ERROR_PROTOTYPE class.Error "TypeError.prototype"
    ∷ named sites.URI_ERROR_PROTOTYPE class.Error "URIError.prototype"
    ∷ named sites.OBJECT class.Function "Object"
    ∷ named sites.FUNCTION class.Function "Function"
    ∷ named sites.ARRAY class.Function "Array"
    ∷ named sites.STRING class.Function "String"
    ∷ named sites.BOOLEAN class.Function "Boolean"
    ∷ named sites.NUMBER class.Function "Number"
    ∷ named sites.ERROR class.Function "Error"
    ∷ named sites.EVAL_ERROR class.Function "EvalError"
    ∷ named sites.RANGE_ERROR class.Function "RangeError"
    ∷ named sites.REFERENCE_ERROR class.Function "ReferenceError"
    ∷ named sites.SYNTAX_ERROR class.Function "SyntaxError"
    ∷ named sites.TYPE_ERROR class.Function "TypeError"
    ∷ named sites.URI_ERROR class.Function "URIError"
    ∷ named sites.MATH class.Math "Math"
    ∷ named sites.PARSE_INT class.Function "parseInt"
    ∷ named sites.PARSE_FLOAT class.Function "parseFloat"
    ∷ named sites.IS_NAN class.Function "isNaN"
    ∷ named sites.IS_FINITE class.Function "isFinite"
    ∷ named sites.OBJECT_TO_STRING class.Function "Object.prototype.toString"
    ∷ named sites.OBJECT_VALUE_OF class.Function "Object.prototype.valueOf"
    ∷ named sites.HAS_OWN_PROPERTY class.Function "Object.prototype.hasOwnProperty"
    ∷ named sites.IS_PROTOTYPE_OF class.Function "Object.prototype.isPrototypeOf"
    ∷ named sites.PROPERTY_IS_ENUMERABLE class.Function "Object.prototype.propertyIsEnumerable"
    ∷ named sites.APPLY class.Function "Function.prototype.apply"
    ∷ named sites.CALL class.Function "Function.prototype.call"
    ∷ named sites.ARRAY_TO_STRING class.Function "Array.prototype.toString"
    ∷ named sites.ARRAY_CONCAT class.Function "Array.prototype.concat"
    ∷ named sites.ARRAY_JOIN class.Function "Array.prototype.join"
    ∷ named sites.ARRAY_POP class.Function "Array.prototype.pop"
    ∷ named sites.ARRAY_PUSH class.Function "Array.prototype.push"
    ∷ named sites.ARRAY_REVERSE class.Function "Array.prototype.reverse"
    ∷ named sites.ARRAY_SHIFT class.Function "Array.prototype.shift"
    ∷ named sites.ARRAY_SLICE class.Function "Array.prototype.slice"
    ∷ named sites.ARRAY_SPLICE class.Function "Array.prototype.splice"
    ∷ named sites.ARRAY_UNSHIFT class.Function "Array.prototype.unshift"
    ∷ named sites.FROM_CHAR_CODE class.Function "String.fromCharCode"
    ∷ named sites.STRING_TO_STRING class.Function "String.prototype.toString"
    ∷ named sites.STRING_VALUE_OF class.Function "String.prototype.valueOf"
    ∷ named sites.CHAR_AT class.Function "String.prototype.charAt"
    ∷ named sites.CHAR_CODE_AT class.Function "String.prototype.charCodeAt"
    ∷ named sites.STRING_CONCAT class.Function "String.prototype.concat"
    ∷ named sites.INDEX_OF class.Function "String.prototype.indexOf"
    ∷ named sites.LAST_INDEX_OF class.Function "String.prototype.lastIndexOf"
    ∷ named sites.STRING_SLICE class.Function "String.prototype.slice"
    ∷ named sites.SPLIT class.Function "String.prototype.split"
    ∷ named sites.SUBSTRING class.Function "String.prototype.substring"
    ∷ named sites.TO_LOWER_CASE class.Function "String.prototype.toLowerCase"
    ∷ named sites.TO_UPPER_CASE class.Function "String.prototype.toUpperCase"
    ∷ named sites.BOOLEAN_TO_STRING class.Function "Boolean.prototype.toString"
    ∷ named sites.BOOLEAN_VALUE_OF class.Function "Boolean.prototype.valueOf"
    ∷ named sites.NUMBER_TO_STRING class.Function "Number.prototype.toString"
    ∷ named sites.NUMBER_VALUE_OF class.Function "Number.prototype.valueOf"
    ∷ named sites.ERROR_TO_STRING class.Function "Error.prototype.toString"
    ∷ named sites.MATH_ABS class.Function "Math.abs"
    ∷ named sites.MATH_CEIL class.Function "Math.ceil"
    ∷ named sites.MATH_FLOOR class.Function "Math.floor"
    ∷ named sites.MATH_ROUND class.Function "Math.round"
    ∷ named sites.MATH_MAX class.Function "Math.max"
    ∷ named sites.MATH_MIN class.Function "Math.min"
    ∷ named sites.MATH_POW class.Function "Math.pow"
    ∷ []

-- the functions that the objects of a site run: where they are called, and where they construct
abbrev pub functions_of : SiteInfo → List FnId
functions_of info = option_to_list info.calls ++ option_to_list info.constructs

-- the path of the object of a site
abbrev pub path_of : Site → List ℕ
path_of s = option_map_or (λ (row : TableRow). row.path) (row_with table_rows s.0) []

-- the path of a property of the object with this path
abbrev pub member : List ℕ → List ℕ → List ℕ
member path name = if bytes_eq path (codes "global") then name else path ++ codes "." ++ name

-- An object that a property of the object with this path holds is at the property's own path; but
-- that of `constructor` is the one whose `prototype` is the object with this path.
abbrev pub is_at_its_path : List ℕ → List ℕ → Content → Bool
is_at_its_path path name (content.Object s) =
    if bytes_eq name (codes "constructor") then bytes_eq path
    (member (path_of s) (codes "prototype")) else bytes_eq (path_of s) (member path name)
is_at_its_path path name other = true

-- a property that holds the name of a kind of errors is `name` of the prototype of these errors
-- (15.11.4.2, 15.11.7.9)
abbrev pub is_of_its_kind : List ℕ → List ℕ → Content → Bool
is_of_its_kind path name (content.Prim (constant.ErrorName kind)) =
    bytes_eq name (codes "name") && bytes_eq path (member (error_name kind) (codes "prototype"))
is_of_its_kind path name other = true

-- the class of functions, and an object that can be called
abbrev pub is_function_class : Class → Bool
is_function_class class.Function = true
is_function_class other = false

abbrev pub is_function : Role → Bool
is_function role = is_some (call_of role)

-- The prototype of an object of the table, by its path: of a function Function.prototype, of the
-- prototype of native errors Error.prototype, and of any other object Object.prototype, which has
-- none itself.
abbrev pub prototype_told : TableRow → List (List ℕ)
prototype_told row =
    if bytes_eq row.path (codes "Object.prototype") then []
    else if is_function row.object.role && not (bytes_eq row.path (codes "Function.prototype"))
    then codes "Function.prototype" ∷ []
    else if is_word row.path
    (words
    "EvalError.prototype RangeError.prototype ReferenceError.prototype SyntaxError.prototype TypeError.prototype URIError.prototype")
    then codes "Error.prototype" ∷ []
    else codes "Object.prototype" ∷ []

-- the constants: their values don't change (15.7.3, 15.8.1)
abbrev pub constants : List (List ℕ)
constants =
    words "Number.MAX_VALUE Number.MIN_VALUE Number.NaN"
    ++ words "Number.NEGATIVE_INFINITY Number.POSITIVE_INFINITY"
    ++ words "Math.E Math.LN10 Math.LN2 Math.LOG2E Math.LOG10E Math.PI Math.SQRT1_2 Math.SQRT2"

-- The attributes of a property of the object with this path. The three values of the global object
-- (15.1.1) and the `length` of an array (15.4.5.2) are DontEnum and DontDelete; the `length` of any
-- other object (15.3.5.1, 15.5.5.1), `prototype` (15.2.3.1) and the constants have all attributes;
-- any other property is only DontEnum (15).
abbrev pub attrs_told : List ℕ → List ℕ → Attrs
attrs_told path name =
    if is_word (member path name) (words "NaN Infinity undefined Array.prototype.length")
    then KEPT_HIDDEN
    else if is_word name (words "length prototype") then ALL_ATTRS
    else if is_word (member path name) constants then ALL_ATTRS
    else DONT_ENUM

-- names of properties of the object with this path
pub record NamesAt : Type 0 where
  pub path : List ℕ
  pub names : List (List ℕ)

abbrev pub at : String → String → NamesAt
at path names = record { path = codes path; names = words names }

-- what is out of the profile
abbrev pub scope_rows : List NamesAt
scope_rows =
    at "global"
    "Infinity eval decodeURI decodeURIComponent encodeURI encodeURIComponent escape unescape Date RegExp"
    ∷ at "Object.prototype" "toLocaleString"
    ∷ at "Function.prototype" "toString"
    ∷ at "Array.prototype" "toLocaleString sort"
    ∷ at "String.prototype"
    "substr match replace search localeCompare toLocaleLowerCase toLocaleUpperCase"
    ∷ at "Number" "MAX_VALUE MIN_VALUE POSITIVE_INFINITY NEGATIVE_INFINITY"
    ∷ at "Number.prototype" "toLocaleString toFixed toExponential toPrecision"
    ∷ at "Math"
    "E LN10 LN2 LOG2E LOG10E PI SQRT1_2 SQRT2 acos asin atan atan2 cos exp log random sin sqrt tan"
    ∷ []

-- the names that are told of the object with this path
abbrev pub names_at : List NamesAt → List ℕ → List (List ℕ)
names_at rows path = flat_map (λ (r : NamesAt). if bytes_eq r.path path then r.names else []) rows

abbrev pub is_row : Content → Bool
is_row content.Row = true
is_row other = false

-- the names of the properties of an object that are rows
abbrev pub rows_of : TableRow → List (List ℕ)
rows_of row =
    map (λ (e : TableEntry). e.name) (filter (λ (e : TableEntry). is_row e.content) row.entries)

-- ---- the functions of the objects

abbrev pub number_in : Content → Option ℕ
number_in (content.Prim (constant.Number n)) = Some n
number_in other = None

-- what an object of the table has as its `length`
abbrev pub length_of : List TableEntry → Option ℕ
length_of entries =
    option_and_then (λ (e : TableEntry). number_in e.content)
    (find (λ (e : TableEntry). bytes_eq e.name (codes "length")) entries)

-- the functions of the table by their numbers, each with the path of its object ..
abbrev pub function_paths : List (List ℕ)
function_paths =
    flat_map (λ (row : TableRow). map (λ _. row.path)
    (option_to_list (call_of row.object.role) ++ option_to_list (construct_of row.object.role)))
    table_rows

-- .. and those that run where an object is called: the number, the path, and the `length`
pub record Called : Type 0 where
  pub number : ℕ
  pub path : List ℕ
  pub length : Option ℕ

abbrev pub lengths : List Called
lengths =
    flat_map (λ (row : TableRow).
    map (λ k. record { number = k; path = row.path; length = length_of row.entries })
    (option_to_list (call_of row.object.role))) table_rows

-- A function has as many parameters as its `length` says; but these, which serve a further argument
-- by a parameter, have one more.
abbrev pub with_one_more : List (List ℕ)
with_one_more =
    words "Array.prototype.concat Array.prototype.splice"
    ++ words "String.prototype.indexOf String.prototype.lastIndexOf"

abbrev pub parameters_told : Called → Option ℕ
parameters_told f = if is_word f.path with_one_more then option_map suc f.length else f.length
