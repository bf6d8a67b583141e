-- Array and object literals, and functions as expressions (ES3 11.1.4, 11.1.5, 13).
use Rattle.std.specs.Prelude.{ℕ, ◌+◌, pos, Bool, true, ◌&&◌, ◌==◌, List, [], ◌∷◌, length, Option, Some, None}
use Rattle.std.specs.Fmt.{decimal, signed_decimal}
use lib.Chars.{codes}
use Rattle.std.specs.List.{position_or_len}
use Rattle.ja_base.specs.declared.ids.FnId.{FnId}
use Rattle.ja_base.specs.declared.ids.Place.{Place}
use Rattle.ja_base.specs.declared.ids.Reg.{Reg}
use Rattle.ja_prim.specs.declared.primitive.Num.TheVariants.{Whole}
use Rattle.ja_prim.specs.declared.primitive.Primitive.TheVariants as primitive
use Rattle.ja_syntax.specs.declared.tree.Name.{Name}
use Rattle.ja_syntax.specs.declared.tree.PropertyName.{PropertyName}
use Rattle.ja_syntax.specs.declared.tree.PropertyName.TheVariants as property
use Rattle.ja_graph.specs.declared.node.Made.{Made}
use Rattle.ja_graph.specs.declared.node.Made.TheVariants as made
use Rattle.ja_graph.specs.declared.registers.TheConstants.{SCOPE}
use Rattle.ja_graph.specs.declared.node.Node.TheVariants.{NewObject, WriteProp, MakeFunction, PushScope, Bind}
use Rattle.ja_lower_draft.specs.Lines.{Listing, Valued, Scene, site, name_id, with_node, with_result, with_const, with_copy, with_move}
use Rattle.ja_lower_expressions.specs.References.{Form, value_of}

-- the registers of the scope chain and of the object in force
abbrev pub scope : Reg
scope = SCOPE

-- the property of an object by a key that is known
unfoldable pub write_known : Scene → Place → Reg → List ℕ → Reg → Listing → Listing
write_known scene place object key src l =
    let k = with_const scene place (primitive.Text key) l in
    with_node scene place (WriteProp object k.value src (site 0)) k.listing

abbrev pub new_object : Scene → Place → Made → Listing → Valued
new_object scene place kind l = with_result scene place (λ dst. NewObject dst (site 0) kind) l

-- ---- arrays: each element that is there is written under the text of its index, and `length` last

-- a hole writes nothing
unfoldable pub write_element : Scene → Place → Reg → ℕ → Option Form → Listing → Listing
write_element scene place array i None l = l
write_element scene place array i (Some element) l =
    let v = value_of element scene l in write_known scene place array (decimal i) v.value v.listing

unfoldable pub write_elements : Scene → Place → Reg → ℕ → List (Option Form) → Listing → Listing
write_elements scene place array i [] l = l
write_elements scene place array i (element ∷ elements) l =
    write_elements scene place array (i + 1) elements (write_element scene place array i element l)

unfoldable pub write_length : Scene → Place → Reg → ℕ → Listing → Listing
write_length scene place array count l =
    let n = with_const scene place (primitive.Number (Whole (pos count))) l in
    write_known scene place array (codes "length") n.value n.listing

unfoldable pub list_array : List (Option Form) → Place → Scene → Listing → Valued
list_array elements place scene l =
    let array = new_object scene place made.Array l in
    record {
      listing =
          write_length scene place array.value (length elements)
          (write_elements scene place array.value 0 elements array.listing);
      value = array.value;
    }

-- ---- objects

abbrev pub property_text : PropertyName → List ℕ
property_text (property.Word text) = text
property_text (property.Text text) = text
property_text (property.Number n) = signed_decimal n

-- a property of a literal: its name and its value
pub record Member : Type 0 where
  pub name : PropertyName
  pub value : Form

unfoldable pub write_member : Scene → Place → Reg → Member → Listing → Listing
write_member scene place object m l =
    let v = value_of m.value scene l in
    write_known scene place object (property_text m.name) v.value v.listing

unfoldable pub write_members : Scene → Place → Reg → List Member → Listing → Listing
write_members scene place object [] l = l
write_members scene place object (m ∷ members) l =
    write_members scene place object members (write_member scene place object m l)

unfoldable pub list_object : List Member → Place → Scene → Listing → Valued
list_object members place scene l =
    let object = new_object scene place made.Object l in
    record {
      listing = write_members scene place object.value members object.listing;
      value = object.value;
    }

-- ---- functions

-- places are equal
abbrev pub same_place : Place → Place → Bool
same_place a b = (a.line == b.line) && (a.column == b.column)

-- the number of a function: the program is 0, then those of the text by the places of their words
-- `function`; where no function of the text has the place, the number is behind the last one
abbrev pub function_id : Scene → Place → FnId
function_id scene place = record { 0 = 1 + position_or_len (same_place place) scene.functions }

abbrev pub make_function : Scene → Place → Listing → Valued
make_function scene place l =
    with_result scene place (λ dst. MakeFunction dst (function_id scene place) (site 0) (site 1)) l

-- a function with a name has an object of its own before its scope chain, which binds the name
unfoldable pub list_named_function : Name → Place → Scene → Listing → Valued
list_named_function name place scene l =
    let saved = with_copy scene place scope l in
    let function = make_function scene place
    (with_node scene place (PushScope (site 0)) saved.listing) in
    record {
      listing =
          with_move scene place scope saved.value
          (with_node scene place (Bind (name_id scene name.text) function.value true)
          function.listing);
      value = function.value;
    }

abbrev pub list_function : Option Name → Place → Scene → Listing → Valued
list_function None place scene l = make_function scene place l
list_function (Some name) place scene l = list_named_function name place scene l
