-- What register `scope` has behind straight lines of a listing, and what is asked of the ways out
-- of a `catch` (ES3 12.14).
use Rattle.std.specs.Prelude.{◌≡◌, ◌<◌, ◌==◌, ℕ, Bool, true, false, if◌then◌else◌, List, [], ◌∷◌, ◌++◌, Option, Some, None}
use Rattle.std.specs.List.{AllByRecursion, fold, list_any}
use Rattle.ja_base.specs.declared.ids.Place.{Place}
use Rattle.ja_base.specs.declared.ids.Reg.{Reg}
use Rattle.ja_graph.specs.declared.node.Node.{Node}
use Rattle.ja_graph.specs.declared.node.Node.TheVariants.{Enter, Move, PushScope}
use Rattle.ja_graph.specs.Node.{register_set}
use Rattle.ja_lower_listing.specs.declared.item.Spot.{Spot}
use Rattle.ja_lower_listing.specs.declared.item.Item.{Item}
use Rattle.ja_lower_listing.specs.declared.item.Item.TheVariants as item
use Rattle.ja_lower_draft.specs.Copies.{Template, with_block}
use Rattle.ja_lower_draft.specs.Lines.{Listing, Scene, with_spot, with_jump, with_move}
use Rattle.ja_lower_expressions.specs.Literals.{scope}
use Rattle.ja_lower_statements.specs.Ways.{Way, of_catch, of_finally}

-- ---- the scope chain in force

-- what register `scope` has: what it had before the lines, what a register has kept, a new object
-- before a scope chain, or anything
pub data Chain : Type 0 where
  as_before : Chain
  kept_in : Reg → Chain
  new_object_before : Chain → Chain
  anything : Chain

-- behind a node that sets a register
abbrev pub unless_set : Option Reg → Chain → Chain
unless_set None chain = chain
unless_set (Some dst) chain = if dst.0 == scope.0 then anything else chain

-- behind a node
unfoldable pub behind_node : Node → Chain → Chain
behind_node (Move dst src) chain = if dst.0 == scope.0 then kept_in src else chain
behind_node (PushScope site) chain = new_object_before chain
behind_node (Enter site arguments) chain = anything
behind_node node chain = unless_set (register_set node) chain

-- behind a line; a copy of a block is passed over, as its statements leave the register as it was
abbrev pub behind_line : Chain → Item → Chain
behind_line chain (item.Node node other handler place) = behind_node node chain
behind_line chain (item.Spot s) = chain
behind_line chain (item.Jump s) = chain
behind_line chain (item.Copy block) = chain

-- behind straight lines
unfoldable pub scope_behind : List Item → Chain
scope_behind items = fold behind_line as_before items

-- ---- ways that are left

abbrev pub is_catch : Way → Bool
is_catch (of_catch saved) = true
is_catch way = false

-- ways that a jump leaves on its way to a target
abbrev pub AreLeft : (Way → Option Spot) → List Way → Type 0
AreLeft target ways = AllByRecursion (λ way. target way ≡ None) ways

-- a way without a block of `finally`
abbrev pub HasNoBlock : Way → Type 0
HasNoBlock (of_finally saved block) = ⊥
HasNoBlock way = Unit {0}

abbrev pub HaveNoBlocks : List Way → Type 0
HaveNoBlocks ways = AllByRecursion HasNoBlock ways

-- the register in which the `try` of a way kept the scope chain
abbrev pub kept_by : Way → Option Reg
kept_by (of_catch saved) = Some saved
kept_by (of_finally saved block) = Some saved
kept_by way = None

-- Of the ways that are left, one kept the scope chain at its `try`, and no `catch` is left outside
-- of it: what it kept is in force.
pub record IsThatOutside (ways : List Way) (chain : Chain) : Type 0 where
  pub inner : List Way
  pub way : Way
  pub outer : List Way
  pub split : ways ≡ inner ++ way ∷ outer
  pub no_catch : list_any is_catch outer ≡ false
  pub register : Reg
  pub keeps : kept_by way ≡ Some register
  pub in_force : chain ≡ kept_in register

-- a listing that ends with a jump to a spot, and what is said of the scope chain in force there
pub record Arrives (spot : Spot) (IsInForce : Chain → Type 0) (new : Listing) : Type 0 where
  pub before : Listing
  pub jumps : new ≡ with_jump spot before
  pub scope : IsInForce (scope_behind before.items)

-- the block of a `finally` is copied above a register, with a scope chain in force, and the listing
-- goes on behind it
pub record RunsBlock (block : Template) (above : Reg) (chain : Chain) (on : Listing → Listing)
    (new : Listing) : Type 0 where
  pub before : Listing
  pub scope : scope_behind before.items ≡ chain
  pub goes_on : new ≡ on (with_block block above before)

-- before the block of a `finally` behind ways that are left: what its `try` kept, if a `catch` is
-- among them
abbrev pub before_block : List Way → Reg → Chain → Chain
before_block ways saved chain = if list_any is_catch ways then kept_in saved else chain

-- ---- `try`

-- A `try` first moves `scope` to a register, and lists its block behind that, with temporaries
-- above the register.
pub record KeepsScope (scene : Scene) (place : Place) (saved : Reg) (base : ℕ) (l new : Listing)
    (block : Listing → Listing) : Type 0 where
  pub before : Listing
  pub kept : before.items ≡ l.items ++ item.Node (Move saved scope) None scene.handler place ∷ []
  pub below : saved.0 < base
  pub listed : new ≡ block before

-- where a handler begins, `scope` is set first to what a register has
pub record SetsScope (scene : Scene) (place : Place) (handler : Spot) (saved : Reg)
    (items : List Item) : Type 0 where
  pub front : List Item
  pub behind : List Item
  pub split : items ≡ front ++ item.Spot handler
      ∷ item.Node (Move scope saved) None scene.handler place ∷ behind

-- The body of a `catch` is listed with a new object before what its `try` kept, inside the way that
-- sets the register again, which is also set behind the body.
pub record CatchesWith (scene : Scene) (place : Place) (saved : Reg) (end : Spot)
    (body : Way → Listing → Listing) (new : Listing) : Type 0 where
  pub handler : Listing
  pub scope_of_handler : scope_behind handler.items ≡ new_object_before (kept_in saved)
  pub listed : new ≡ with_spot end (with_move scene place scope saved
      (body (of_catch saved) handler))
