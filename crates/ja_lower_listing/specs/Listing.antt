-- Listings: the nodes of a function in order, with spots and jumps between them and copies of
-- blocks, and the graph that they come to.
use Rattle.std.specs.Prelude.{ℕ, zero, suc, ◌+◌, ◌-◌, ◌==◌, Bool, true, false, if◌then◌else◌, List, [], ◌∷◌, ◌++◌, length, map, Option, Some, None}
use Rattle.std.specs.Option.{option_or, option_map_or}
use Rattle.ja_base.specs.declared.ids.NodeId.{NodeId}
use Rattle.ja_graph.specs.declared.node.Node.{Node}
use Rattle.ja_graph.specs.declared.node.Node.TheVariants.{Throw, Return, Escape, Stop}
use Rattle.ja_graph.specs.declared.node.NodeInfo.{NodeInfo}
use Rattle.ja_graph.specs.Node.{may_throw}
use Rattle.ja_lower_listing.specs.declared.item.Block.{Block}
use Rattle.ja_lower_listing.specs.declared.item.BlockNode.{BlockNode}
use Rattle.ja_lower_listing.specs.declared.item.Spot.{Spot}
use Rattle.ja_lower_listing.specs.declared.item.Target.{Target}
use Rattle.ja_lower_listing.specs.declared.item.Target.TheVariants as target
use Rattle.ja_lower_listing.specs.declared.item.Item.{Item}
use Rattle.ja_lower_listing.specs.declared.item.Item.TheVariants as item

-- how many nodes a listing has
unfoldable pub node_count : List Item → ℕ
node_count [] = 0
node_count (item.Node node other handler place ∷ items) = suc (node_count items)
node_count (item.Spot s ∷ items) = node_count items
node_count (item.Jump s ∷ items) = node_count items
node_count (item.Copy block ∷ items) = length block.nodes + node_count items

-- the lines behind a spot, if it stands in a listing; of several places the last one counts
unfoldable pub behind : Spot → List Item → Option (List Item)
behind s [] = None
behind s (item.Node node other handler place ∷ items) = behind s items
behind s (item.Spot t ∷ items) =
    option_or (behind s items) (if t.0 == s.0 then Some items else None)
behind s (item.Jump t ∷ items) = behind s items
behind s (item.Copy block ∷ items) = behind s items

-- ---- where a run goes on

-- Where a target of a copy leads: to a node of the copy, whose first node has a number, to a spot
-- around it, or to what stands behind it.
abbrev pub led : ℕ → (Spot → Target) → Target → Target → Target
led first jump next (target.Node n) = target.Node (first + n)
led first jump next (target.Spot s) = jump s
led first jump next target.Behind = next
led first jump next target.Out = target.Out

-- Where a run goes on from lines at the end of a listing: at the first node, or where a jump before
-- it leads. A copy is entered where its block is.
unfoldable pub goes : List Item → (Spot → Target) → List Item → Target
goes whole jump [] = target.Behind
goes whole jump (item.Node node other handler place ∷ items) =
    target.Node (node_count whole - suc (node_count items))
goes whole jump (item.Spot s ∷ items) = goes whole jump items
goes whole jump (item.Jump s ∷ items) = jump s
goes whole jump (item.Copy block ∷ items) =
    led (node_count whole - (length block.nodes + node_count items)) jump (goes whole jump items)
    block.entry

-- Where a spot leads by fewer jumps than so many; one that doesn't stand in the listing is around
-- it. More jumps lead out.
unfoldable pub leads : List Item → ℕ → Spot → Target
leads whole zero s = target.Out
leads whole (suc jumps) s =
    option_map_or (goes whole (leads whole jumps)) (behind s whole) (target.Spot s)

-- Where a jump leads: it makes no node. More jumps than the listing has lines go round, and lead
-- out.
abbrev pub jump_of : List Item → Spot → Target
jump_of whole s = leads whole (suc (length whole)) s

abbrev pub way_on : List Item → List Item → Target
way_on whole items = goes whole (jump_of whole) items

-- ---- the nodes with their edges

-- an edge to a spot, if there is one
abbrev pub edge : List Item → Option Spot → Target
edge whole None = target.Out
edge whole (Some s) = jump_of whole s

-- a node goes on to what follows, unless it leaves the function or throws
unfoldable pub goes_on : Node → Bool
goes_on (Throw src) = false
goes_on (Return src) = false
goes_on Escape = false
goes_on (Stop kind) = false
goes_on node = true

-- a node whose edges lead elsewhere
abbrev pub with_edges : (Target → Target) → BlockNode → BlockNode
with_edges f n = record n { next = f n.next; other = f n.other; handler = f n.handler }

-- the nodes of the lines at the end of a listing
unfoldable pub nodes_from : List Item → List Item → List BlockNode
nodes_from whole [] = []
nodes_from whole (item.Node node other handler place ∷ items) =
    record {
      node = node;
      next = if goes_on node then way_on whole items else target.Out;
      other = edge whole other;
      handler = if may_throw node then edge whole handler else target.Out;
      place = place;
      above = None;
    }
    ∷ nodes_from whole items
nodes_from whole (item.Spot s ∷ items) = nodes_from whole items
nodes_from whole (item.Jump s ∷ items) = nodes_from whole items
nodes_from whole (item.Copy block ∷ items) =
    map (with_edges (led (node_count whole - (length block.nodes + node_count items))
    (jump_of whole) (way_on whole items))) block.nodes
    ++ nodes_from whole items

-- the block that lines come to
abbrev pub block_of : List Item → Block
block_of items = record { entry = way_on items items; nodes = nodes_from items items }

-- ---- the graph of a function: what doesn't lead to one of its nodes leads to Escape, the last one

abbrev pub closed : ℕ → Target → NodeId
closed escape (target.Node n) = record { 0 = n }
closed escape other = record { 0 = escape }

abbrev pub info_of : ℕ → BlockNode → NodeInfo
info_of escape n = record {
  node = n.node;
  next = closed escape n.next;
  other = closed escape n.other;
  handler = closed escape n.handler;
  place = n.place;
}

abbrev pub assembled : List Item → List NodeInfo
assembled whole = map (info_of (node_count whole - 1)) (block_of whole).nodes

-- ---- what a listing begins with

-- whether its first line that is no spot is a node
unfoldable pub begins_with_node : List Item → Bool
begins_with_node [] = false
begins_with_node (item.Node node other handler place ∷ items) = true
begins_with_node (item.Spot s ∷ items) = begins_with_node items
begins_with_node (item.Jump s ∷ items) = false
begins_with_node (item.Copy block ∷ items) = false
