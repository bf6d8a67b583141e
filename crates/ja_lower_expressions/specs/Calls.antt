-- Calls and `new` (ES3 11.2.2 to 11.2.4).
use Rattle.std.specs.Prelude.{List, [], ◌∷◌, ◌++◌}
use Rattle.ja_base.specs.declared.ids.Place.{Place}
use Rattle.ja_base.specs.declared.ids.Reg.{Reg}
use Rattle.ja_prim.specs.declared.primitive.Primitive.TheVariants as primitive
use Rattle.ja_graph.specs.declared.node.Args.TheVariants.{Registers}
use Rattle.ja_graph.specs.declared.node.Node.TheVariants.{Call, New}
use Rattle.ja_lower_expressions.specs.declared.outcome.Outcome.{Outcome}
use Rattle.ja_lower_expressions.specs.declared.outcome.Outcome.TheVariants.{Value, Name, Member, Special}
use Rattle.ja_lower_draft.specs.Lines.{Listing, Valued, Scene, site, with_result, with_const}
use Rattle.ja_lower_expressions.specs.References.{Form, get_value, value_of}
use Rattle.ja_lower_expressions.specs.Specials.{list_special}

-- arguments are listed from the left to the right, each into a register
pub record Arguments : Type 0 where
  pub listing : Listing
  pub values : List Reg

unfoldable pub list_arguments : List Form → Scene → Listing → List Reg → Arguments
list_arguments [] scene l values = record { listing = l; values = values }
list_arguments (argument ∷ arguments) scene l values =
    let v = value_of argument scene l in
    list_arguments arguments scene v.listing (values ++ v.value ∷ [])

abbrev pub with_call : Scene → Place → Reg → Reg → List Reg → Listing → Valued
with_call scene place callee receiver values l =
    with_result scene place (λ dst. Call dst callee receiver (Registers values) (site 0)) l

-- A reference is read behind the arguments, and its object is the receiver; what is no reference is
-- called without one. A special form is listed behind its arguments.
abbrev pub call_outcome : Outcome → Scene → Place → List Reg → Listing → Valued
call_outcome (Value v) scene place values l =
    let receiver = with_const scene place primitive.Null l in
    with_call scene place v receiver.value values receiver.listing
call_outcome (Name base name at) scene place values l =
    let f = get_value scene (Name base name at) l in
    with_call scene place f.value base values f.listing
call_outcome (Member object key at) scene place values l =
    let f = get_value scene (Member object key at) l in
    with_call scene place f.value object values f.listing
call_outcome (Special form at) scene place values l = list_special form scene place values l

-- the call of what stands before it
unfoldable pub list_call : List Form → Place → Scene → Outcome → Listing → Valued
list_call arguments place scene callee l =
    let a = list_arguments arguments scene l [] in
    call_outcome callee scene place a.values a.listing

-- `new` behind its callee's value
unfoldable pub new_of : List Form → Place → Scene → Reg → Listing → Valued
new_of arguments place scene callee l =
    let a = list_arguments arguments scene l [] in
    with_result scene place (λ dst. New dst callee a.values (site 0) (site 1)) a.listing

unfoldable pub list_new : Form → List Form → Place → Scene → Listing → Valued
list_new callee arguments place scene l = let f = value_of callee scene l in
    new_of arguments place scene f.value f.listing
