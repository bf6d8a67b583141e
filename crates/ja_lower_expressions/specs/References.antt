-- What an expression comes to, a value or a reference, and how a reference is read and written (ES3
-- 8.7).
use Rattle.std.specs.Prelude.{ℕ, if◌then◌else◌, List, Option, Some, None}
use Rattle.ja_base.specs.declared.ids.Place.{Place}
use Rattle.ja_base.specs.declared.ids.Reg.{Reg}
use Rattle.ja_prim.specs.declared.primitive.Primitive.TheVariants as primitive
use Rattle.ja_graph.specs.declared.node.Wrappers.{Wrappers}
use Rattle.ja_graph.specs.declared.node.Node.TheVariants.{FindName, ReadRef, WriteRef, ToObject, ReadProp, WriteProp}
use Rattle.ja_lower_expressions.specs.declared.outcome.Outcome.{Outcome}
use Rattle.ja_lower_expressions.specs.declared.outcome.Outcome.TheVariants.{Value, Name, Member}
use Rattle.ja_lower_expressions.specs.declared.outcome.Outcome.TheVariants as outcome
use Rattle.ja_lower_expressions.specs.declared.special.Special.{Special}
use Rattle.ja_lower_draft.specs.Lines.{Listing, Valued, Scene, site, name_id, with_node, with_result, with_const, with_text}
use Rattle.ja_lower_expressions.specs.Specials.{special_of}

-- a listing, and what the expression listed last comes to
pub record Listed : Type 0 where
  pub listing : Listing
  pub outcome : Outcome

-- how an expression is listed
abbrev pub Form : Type 0
Form = Scene → Listing → Listed

abbrev pub valued : Valued → Listed
valued v = record { listing = v.listing; outcome = Value v.value }

-- GetValue (8.7.1); no text of a built-in function reads the name of a special form
abbrev pub get_value : Scene → Outcome → Listing → Valued
get_value scene (Value v) l = record { listing = l; value = v }
get_value scene (Name base name place) l =
    with_result scene place (λ dst. ReadRef dst base name (site 0)) l
get_value scene (Member object key place) l =
    with_result scene place (λ dst. ReadProp dst object key) l
get_value scene (outcome.Special form place) l = with_const scene place primitive.Undefined l

-- PutValue (8.7.2), at the place of the form that writes; nothing is written to a value or a
-- special form
abbrev pub put_value : Scene → Place → Outcome → Reg → Listing → Listing
put_value scene place (Value v) src l = l
put_value scene place (Name base name at) src l = with_node scene place (WriteRef base name src) l
put_value scene place (Member object key at) src l =
    with_node scene place (WriteProp object key src (site 0)) l
put_value scene place (outcome.Special form at) src l = l

-- an expression's value
unfoldable pub value_of : Form → Scene → Listing → Valued
value_of x scene l = let r = x scene l in get_value scene r.outcome r.listing

abbrev pub wrappers : Wrappers
wrappers = record { boolean = site 0; number = site 1; text = site 2 }

-- the object of a value (9.9)
abbrev pub with_object : Scene → Place → Reg → Listing → Valued
with_object scene place src l =
    with_result scene place (λ dst. ToObject dst src wrappers (site 3)) l

-- the name of a variable (10.1.4)
abbrev pub with_variable : List ℕ → Place → Scene → Listing → Listed
with_variable name place scene l =
    let v = with_result scene place (λ dst. FindName dst (name_id scene name)) l in
    record { listing = v.listing; outcome = Name v.value (name_id scene name) place }

-- the special form of a name, where names may be special forms
abbrev pub special_in : Scene → List ℕ → Option Special
special_in scene name = if scene.specials then special_of name else None

abbrev pub with_special_or_variable : Option Special → List ℕ → Place → Scene → Listing → Listed
with_special_or_variable (Some form) name place scene l =
    record { listing = l; outcome = outcome.Special form place }
with_special_or_variable None name place scene l = with_variable name place scene l

-- a name
unfoldable pub with_name : List ℕ → Place → Scene → Listing → Listed
with_name name place scene l = with_special_or_variable (special_in scene name) name place scene l

-- `.NAME` behind a value (11.2.1): the key is known, and comes before the object's conversion
unfoldable pub with_member : List ℕ → Place → Scene → Reg → Listing → Listed
with_member name place scene object l =
    let key = with_const scene place (primitive.Text name) l in
    let o = with_object scene place object key.listing in
    record { listing = o.listing; outcome = Member o.value key.value place }

-- `[F]` behind a value: the key is converted behind the object
unfoldable pub with_element : Place → Scene → Reg → Reg → Listing → Listed
with_element place scene object key l =
    let o = with_object scene place object l in
    let k = with_text scene place key o.listing in
    record { listing = k.listing; outcome = Member o.value k.value place }
