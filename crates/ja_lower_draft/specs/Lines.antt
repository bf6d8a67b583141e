-- The listing of a function so far, and the lines that are added to it.
use Rattle.std.specs.Prelude.{ℕ, ◌+◌, Bool, List, [], ◌∷◌, ◌++◌, Option, Some, None}
use Rattle.ja_base.specs.declared.ids.NameId.{NameId}
use Rattle.ja_base.specs.declared.ids.Place.{Place}
use Rattle.ja_base.specs.declared.ids.Reg.{Reg}
use Rattle.ja_base.specs.declared.ids.Site.{Site}
use Rattle.ja_prim.specs.declared.primitive.Primitive.{Primitive}
use Rattle.ja_graph.specs.declared.node.Hint.{Hint}
use Rattle.ja_graph.specs.declared.node.Hint.TheVariants as hint
use Rattle.ja_graph.specs.declared.node.Node.{Node}
use Rattle.ja_graph.specs.declared.node.Node.TheVariants.{Const, Move, Convert, Unary}
use Rattle.ja_graph.specs.declared.node.UnaryOp.{UnaryOp}
use Rattle.ja_graph.specs.declared.node.UnaryOp.TheVariants.{ToNum, ToText, ToBool}
use Rattle.ja_lower_names.specs.Names.{number}
use Rattle.ja_lower_listing.specs.declared.item.Spot.{Spot}
use Rattle.ja_lower_listing.specs.declared.item.Item.{Item}
use Rattle.ja_lower_listing.specs.declared.item.Item.TheVariants as item

-- What is listed of a function so far, and the numbers of its next temporary (as a register) and
-- its next spot.
pub record Listing : Type 0 where
  pub items : List Item
  pub temporary : ℕ
  pub spot : ℕ

-- a listing, and the register that holds the value of the form listed last
pub record Valued : Type 0 where
  pub listing : Listing
  pub value : Reg

abbrev pub register : ℕ → Reg
register n = record { 0 = n }

-- a site of a node: they are numbered anew for each node, in the order of its fields
abbrev pub site : ℕ → Site
site n = record { 0 = n }

-- What a form needs of the program: its names, and the places of its words `function`, in the order
-- of the text; the spot to which what is thrown goes, if something around the form handles it; and
-- whether names that begin with `$` are special forms, as in the texts of built-in functions.
pub record Scene : Type 0 where
  pub names : List (List ℕ)
  pub functions : List Place
  pub handler : Option Spot
  pub specials : Bool

abbrev pub name_id : Scene → List ℕ → NameId
name_id scene name = number scene.names name

-- ---- lines

abbrev pub with_item : Listing → Item → Listing
with_item l i = record l { items = l.items ++ i ∷ [] }

-- a node, which may throw to the handler
abbrev pub with_node : Scene → Place → Node → Listing → Listing
with_node scene place node l = with_item l (item.Node node None scene.handler place)

-- a node that leads to a spot by its edge `other`
abbrev pub with_branch : Scene → Place → Node → Spot → Listing → Listing
with_branch scene place node other l = with_item l (item.Node node (Some other) scene.handler place)

-- a node that sets the next temporary
abbrev pub with_result : Scene → Place → (Reg → Node) → Listing → Valued
with_result scene place node l = record {
  listing =
      with_node scene place (node (register l.temporary))
      (record l { temporary = l.temporary + 1 });
  value = register l.temporary;
}

-- the spot of what follows, and a jump
abbrev pub with_spot : Spot → Listing → Listing
with_spot s l = with_item l (item.Spot s)

abbrev pub with_jump : Spot → Listing → Listing
with_jump s l = with_item l (item.Jump s)

-- the next spots of a listing, and the listing behind n of them
abbrev pub spot_of : Listing → ℕ → Spot
spot_of l i = record { 0 = l.spot + i }

abbrev pub behind_spots : ℕ → Listing → Listing
behind_spots n l = record l { spot = l.spot + n }

-- the numbers of the temporaries begin again at a register
abbrev pub restarted : ℕ → Listing → Listing
restarted base l = record l { temporary = base }

-- ---- conversions of a register

-- the default value of an object (8.6.2.6), with a hint
abbrev pub with_default : Scene → Place → Hint → Reg → Listing → Valued
with_default scene place kind src l = with_result scene place (λ dst. Convert dst src kind None) l

abbrev pub with_unary : Scene → Place → UnaryOp → Reg → Listing → Valued
with_unary scene place op src l = with_result scene place (λ dst. Unary dst op src) l

-- ToNumber, ToString and ToBoolean (9.3, 9.8, 9.2) of any value
unfoldable pub with_number : Scene → Place → Reg → Listing → Valued
with_number scene place src l =
    let v = with_default scene place hint.Number src l in
    with_unary scene place ToNum v.value v.listing

unfoldable pub with_text : Scene → Place → Reg → Listing → Valued
with_text scene place src l =
    let v = with_default scene place hint.Text src l in
    with_unary scene place ToText v.value v.listing

abbrev pub with_truth : Scene → Place → Reg → Listing → Valued
with_truth scene place src l = with_unary scene place ToBool src l

abbrev pub with_const : Scene → Place → Primitive → Listing → Valued
with_const scene place prim l = with_result scene place (λ dst. Const dst prim) l

-- a register moved to the next temporary, and one moved to a register
abbrev pub with_copy : Scene → Place → Reg → Listing → Valued
with_copy scene place src l = with_result scene place (λ dst. Move dst src) l

abbrev pub with_move : Scene → Place → Reg → Reg → Listing → Listing
with_move scene place dst src l = with_node scene place (Move dst src) l
