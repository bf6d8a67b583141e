-- What lines come to.
use Rattle.std.specs.Prelude.{◌≡◌, ◌<◌, ◌+◌, ℕ, List, [], ◌∷◌, ◌++◌, length, map, Option, Some, slice_get}
use Rattle.std.specs.List.{AllByRecursion}
use Rattle.ja_base.specs.declared.ids.Place.{Place}
use Rattle.ja_graph.specs.declared.node.Node.{Node}
use Rattle.ja_graph.specs.declared.node.Node.TheVariants.{Escape}
use Rattle.ja_graph.specs.declared.node.NodeInfo.{NodeInfo}
use Rattle.ja_lower_listing.specs.declared.item.Block.{Block}
use Rattle.ja_lower_listing.specs.declared.item.BlockNode.{BlockNode}
use Rattle.ja_lower_listing.specs.declared.item.Spot.{Spot}
use Rattle.ja_lower_listing.specs.declared.item.Target.{Target}
use Rattle.ja_lower_listing.specs.declared.item.Target.TheVariants as target
use Rattle.ja_lower_listing.specs.declared.item.Item.{Item}
use Rattle.ja_lower_listing.specs.declared.item.Item.TheVariants as item

-- a listing whose last item is Escape
pub record EndsWithEscape (whole : List Item) : Type 0 where
  pub front : List Item
  pub other : Option Spot
  pub handler : Option Spot
  pub place : Place
  pub split : whole ≡ front ++ item.Node Escape other handler place ∷ []

-- ---- where edges lead

-- the edges of a node lead to nodes of its function, which has so many
pub record LeadsInside (nodes : ℕ) (info : NodeInfo) : Type 0 where
  pub next : info.next.0 < nodes
  pub other : info.other.0 < nodes
  pub handler : info.handler.0 < nodes

-- the edges of each node lead to nodes of its function
abbrev pub EdgesLeadInside : List NodeInfo → Type 0
EdgesLeadInside nodes =
    (n : ℕ) (info : NodeInfo) → slice_get nodes n ≡ Some info → LeadsInside (length nodes) info

-- a target of a block of so many nodes, where it is a node, is one of them
abbrev pub IsWithin : ℕ → Target → Type 0
IsWithin nodes (target.Node n) = n < nodes
IsWithin nodes other = Unit {0}

abbrev pub EdgesAreWithin : ℕ → BlockNode → Type 0
EdgesAreWithin nodes n = IsWithin nodes n.next × IsWithin nodes n.other × IsWithin nodes n.handler

-- a block whose own nodes are all there
pub record IsWhole (block : Block) : Type 0 where
  pub entry : IsWithin (length block.nodes) block.entry
  pub nodes : AllByRecursion (EdgesAreWithin (length block.nodes)) block.nodes

abbrev pub OfCopy : (Block → Type 0) → Item → Type 0
OfCopy P (item.Copy block) = P block
OfCopy P other = Unit {0}

abbrev pub CopiesAreWhole : List Item → Type 0
CopiesAreWhole items = AllByRecursion (OfCopy IsWhole) items

-- ---- which nodes there are

abbrev pub node_at : BlockNode → Node × Place
node_at n = (n.node, n.place)

-- the nodes of a listing with their places, in order
unfoldable pub placed : List Item → List (Node × Place)
placed [] = []
placed (item.Node node other handler place ∷ items) = (node, place) ∷ placed items
placed (item.Spot s ∷ items) = placed items
placed (item.Jump s ∷ items) = placed items
placed (item.Copy block ∷ items) = map node_at block.nodes ++ placed items
