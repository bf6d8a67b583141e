-- What a function does with its `this`, by its nodes in the order of its text.
use Rattle.std.specs.Prelude.{ℕ, ◌==◌, Bool, true, false, if◌then◌else◌}
use Rattle.std.specs.Prelude.{List, [], ◌∷◌, ◌++◌, map, find, slice_get}
use Rattle.std.specs.List.{fold}
use Rattle.std.specs.Option.{option_map_or, option_to_list}
use Rattle.std.specs.Str.{bytes_eq}
use Prim.Native.String.{String}
use lib.Chars.{codes}
use Rattle.ja_base.specs.declared.ids.NameId.{NameId}
use Rattle.ja_base.specs.declared.ids.Reg.{Reg}
use Rattle.ja_graph.specs.Node.{register_set}
use Rattle.ja_graph.specs.declared.builtins.TheConstants.{INTRINSICS}
use Rattle.ja_graph.specs.declared.node.ErrorKind.{ErrorKind}
use Rattle.ja_graph.specs.declared.node.ErrorKind.TheVariants.{TypeError}
use Rattle.ja_graph.specs.declared.node.Made.TheVariants.{Error}
use Rattle.ja_graph.specs.declared.node.Node.{Node}
use Rattle.ja_graph.specs.declared.node.Node.TheVariants as node
use Rattle.ja_graph.specs.declared.node.UnaryOp.{UnaryOp}
use Rattle.ja_graph.specs.declared.node.UnaryOp.TheVariants as unary
use Rattle.ja_prim.specs.declared.primitive.Primitive.TheVariants as primitive

-- ---- what registers and variables hold

-- `this`; a text; the property of `this` that has this name; what a call gave that had `this` as
-- its receiver; whether a value is an object, and the contrary; a new error; or anything else
pub data Thing : Type 0 where
  This : Thing
  Word : List ℕ → Thing
  Property : List ℕ → Thing
  Result : Thing → Thing
  IsObject : Thing → Thing
  Not : Thing → Thing
  New : ErrorKind → Thing
  Other : Thing

-- something comes of a property of `this`
abbrev pub comes_of_this : Thing → Bool
comes_of_this (Property name) = true
comes_of_this (Result callee) = true
comes_of_this (IsObject value) = comes_of_this value
comes_of_this (Not value) = comes_of_this value
comes_of_this _ = false

-- the numbers of registers and of variables' names, each with what was put there; the last is first
pub record Held : Type 0 where
  pub registers : List (ℕ × Thing)
  pub variables : List (ℕ × Thing)

abbrev pub found : List (ℕ × Thing) → ℕ → Thing
found things n =
    let there = find (λ (x : ℕ × Thing). x.0 == n) things in
    option_map_or (λ (x : ℕ × Thing). x.1) there Other

abbrev pub in_register : Held → Reg → Thing
in_register held r = found held.registers r.0

abbrev pub in_variable : Held → NameId → Thing
in_variable held name = found held.variables name.0

abbrev pub put_register : Held → Reg → Thing → Held
put_register held r thing = record held { registers = (r.0, thing) ∷ held.registers }

abbrev pub put_variable : Held → NameId → Thing → Held
put_variable held name thing = record held { variables = (name.0, thing) ∷ held.variables }

-- ---- what nodes give

abbrev pub property_of : Thing → Thing → Thing
property_of This (Word name) = Property name
property_of object key = Other

abbrev pub result_of : Thing → Thing → Thing
result_of This callee = Result callee
result_of receiver callee = Other

-- an operation of the built-in functions, by its number
abbrev pub operation : ℕ → List ℕ
operation which = option_map_or (λ row. row.0.now) (slice_get INTRINSICS which) []

abbrev pub answer_of : List ℕ → List Thing → Thing
answer_of name (value ∷ []) = if bytes_eq name (codes "$is_object") then IsObject value else Other
answer_of name values = Other

abbrev pub outcome_of : UnaryOp → Thing → Thing
outcome_of unary.ToBool value = value
outcome_of unary.Not value = Not value
outcome_of op value = Other

-- what is held behind a node
abbrev pub behind : Held → Node → Held
behind held (node.Const dst (primitive.Text text)) = put_register held dst (Word text)
behind held (node.Move dst src) = put_register held dst (in_register held src)
behind held (node.ReadRef dst base name error) = put_register held dst (in_variable held name)
behind held (node.WriteRef base name src) = put_variable held name (in_register held src)
behind held (node.ReadProp dst object key) =
    put_register held dst (property_of (in_register held object) (in_register held key))
behind held (node.Call dst callee receiver args error) =
    put_register held dst (result_of (in_register held receiver) (in_register held callee))
behind held (node.Intrinsic dst which args) =
    put_register held dst (answer_of (operation which) (map (in_register held) args))
behind held (node.Unary dst op src) = put_register held dst (outcome_of op (in_register held src))
behind held (node.NewObject dst site (Error kind)) = put_register held dst (New kind)
behind held n = fold (λ h r. put_register h r Other) held (option_to_list (register_set n))

-- ---- what is done

-- A property is read, or put; what follows is done where something is true; something is called on
-- `this`; something is returned; a new error is thrown.
pub data Use : Type 0 where
  reads : List ℕ → Use
  puts : List ℕ → Use
  branches : Thing → Use
  calls : Thing → Use
  returns : Thing → Use
  throws : ErrorKind → Use

abbrev pub read_of : Thing → List Use
read_of (Property name) = reads name ∷ []
read_of _ = []

abbrev pub put_of : Thing → List Use
put_of (Property name) = puts name ∷ []
put_of _ = []

abbrev pub call_of : Thing → Thing → List Use
call_of This callee = calls callee ∷ []
call_of receiver callee = []

abbrev pub throw_of : Thing → List Use
throw_of (New kind) = throws kind ∷ []
throw_of _ = []

-- a use of something that comes of `this`
abbrev pub if_of_this : (Thing → Use) → Thing → List Use
if_of_this use_of thing = if comes_of_this thing then use_of thing ∷ [] else []

abbrev pub uses_at : Held → Node → List Use
uses_at held (node.ReadProp dst object key) =
    read_of (property_of (in_register held object) (in_register held key))
uses_at held (node.WriteProp object key src error) =
    put_of (property_of (in_register held object) (in_register held key))
uses_at held (node.Call dst callee receiver args error) =
    call_of (in_register held receiver) (in_register held callee)
uses_at held (node.Branch src) = if_of_this branches (in_register held src)
uses_at held (node.Return src) = if_of_this returns (in_register held src)
uses_at held (node.Throw src) = throw_of (in_register held src)
uses_at held n = []

abbrev pub uses_behind : Held → List Node → List Use
uses_behind held [] = []
uses_behind held (n ∷ ns) = uses_at held n ++ uses_behind (behind held n) ns

-- where a function begins, register 1 holds `this`
abbrev pub uses : List Node → List Use
uses nodes = uses_behind (record { registers = (1, This) ∷ []; variables = [] }) nodes

-- ---- what the built-in functions do, each with its path

abbrev pub does : String → List Use → List (List ℕ × Use)
does path list = map (λ (use_of : Use). (codes path, use_of)) list

-- One method of an object is tried (8.6.2.6): it is read, and where it is an object itself, read
-- again and called on the object; what it gives is returned where that is a primitive value.
abbrev pub tries : String → List Use
tries name =
    let method = Property (codes name) in
    reads (codes name) ∷ branches (IsObject method) ∷ reads (codes name) ∷ calls method
    ∷ branches (Not (IsObject (Result method))) ∷ returns (Result method) ∷ []

-- Methods on a receiver of another kind throw a TypeError (15.3.4.3, 15.4.4.2, 15.5.4.2, 15.6.4.2,
-- 15.7.4.2); those of arrays read `length`, and put it where they change it (15.4.4), and what
-- `shift` gives stood first (15.4.4.9); a default value is that of one method, else of the other,
-- else a TypeError is thrown (8.6.2.6).
abbrev pub uses_told : List (List ℕ × Use)
uses_told =
    does "Function.prototype.apply" (throws TypeError ∷ [])
    ++ does "Array.prototype.toString" (throws TypeError ∷ reads (codes "length") ∷ [])
    ++ does "Array.prototype.concat" (reads (codes "length") ∷ [])
    ++ does "Array.prototype.join" (reads (codes "length") ∷ [])
    ++ does "Array.prototype.pop" (reads (codes "length") ∷ puts (codes "length") ∷ [])
    ++ does "Array.prototype.push" (reads (codes "length") ∷ puts (codes "length") ∷ [])
    ++ does "Array.prototype.reverse" (reads (codes "length") ∷ [])
    ++ does "Array.prototype.shift" (
    reads (codes "length") ∷ reads (codes "0") ∷ puts (codes "length")
    ∷ returns (Property (codes "0")) ∷ [])
    ++ does "Array.prototype.slice" (reads (codes "length") ∷ [])
    ++ does "Array.prototype.splice" (reads (codes "length") ∷ puts (codes "length") ∷ [])
    ++ does "Array.prototype.unshift" (reads (codes "length") ∷ puts (codes "length") ∷ [])
    ++ does "String.prototype.toString" (throws TypeError ∷ [])
    ++ does "String.prototype.valueOf" (throws TypeError ∷ [])
    ++ does "Boolean.prototype.toString" (throws TypeError ∷ [])
    ++ does "Boolean.prototype.valueOf" (throws TypeError ∷ [])
    ++ does "Number.prototype.toString" (throws TypeError ∷ [])
    ++ does "Number.prototype.valueOf" (throws TypeError ∷ [])
    ++ does "Error.prototype.toString" (reads (codes "name") ∷ reads (codes "message") ∷ [])
    ++ does "%valueFirst" (tries "valueOf" ++ tries "toString" ++ throws TypeError ∷ [])
    ++ does "%textFirst" (tries "toString" ++ tries "valueOf" ++ throws TypeError ∷ [])
