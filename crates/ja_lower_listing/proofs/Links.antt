-- One more node of a listing with its edges.
use Rattle.std.proofs.Common.{◌≡◌, ℕ, ◌+◌, ◌-◌, List, [], ◌∷◌, ◌++◌, length, get_or, take, map, Option, refl, arith, ap, sym, ◌∙◌, ◌⊎◌, inl, inr, length-append}
use Rattle.std.proofs.lemmas.Grind.{common_steps}
use Rattle.ja_base.specs.declared.ids.Place.{Place}
use Rattle.ja_graph.specs.declared.node.Node.{Node}
use Rattle.ja_lower_listing.specs.declared.item.Block.{Block}
use Rattle.ja_lower_listing.specs.declared.item.BlockNode.{BlockNode}
use Rattle.ja_lower_listing.specs.declared.item.Item.{Item}
use Rattle.ja_lower_listing.specs.declared.item.Item.TheVariants as item
use Rattle.ja_lower_listing.specs.declared.item.Spot.{Spot}
use Rattle.ja_lower_listing.specs.Listing.{node_count, led, jump_of, way_on, with_edges, nodes_from}
use Rattle.ja_lower_listing.specs.code.Passes.{ways_on, seen}
use Rattle.ja_lower_listing.proofs.Kept.{counted}

-- what the last element leaves
pub take_last : {A : Type 0} (xs ys : List A) (y : A) (n : ℕ) → xs ≡ ys ++ y ∷ [] → n ≡ length xs
    → take (n - 1) xs ≡ ys
take_last xs ys y n e h = grind (arith, common_steps)

-- the last element
pub get_last : {A : Type 0} (xs ys : List A) (y d : A) (n : ℕ) → xs ≡ ys ++ y ∷ [] → n ≡ length xs
    → get_or xs (n - 1) d ≡ y
get_last xs ys y d n e h = grind (arith, common_steps)

-- a list without elements
pub none_left : (items : List Item) → length items ≡ 0 → items ≡ []
none_left [] h = refl
none_left (x ∷ items) h = absurd (omega arith)

-- of no items
pub no_nodes : (whole : List Item) → nodes_from whole [] ≡ []
unfolding nodes_from
no_nodes whole = refl

-- a node and a copy are behind the others where a run goes on
pub ways_node : (whole rest : List Item) (node : Node) (other handler : Option Spot) (place : Place)
    → ways_on whole (item.Node node other handler place ∷ rest) ≡ ways_on whole rest
    ++ (seen whole rest).here ∷ []
unfolding ways_on
ways_node whole rest node other handler place = refl

pub ways_copy : (whole rest : List Item) (block : Block)
    → ways_on whole (item.Copy block ∷ rest) ≡ ways_on whole rest ++ (seen whole rest).here ∷ []
unfolding ways_on
ways_copy whole rest block = refl

-- the first node of a copy is behind those before it
pub nodes_copy : (whole rest : List Item) (block : Block) (before : List BlockNode)
    → before ++ nodes_from whole (item.Copy block ∷ rest) ≡ nodes_from whole whole
    → nodes_from whole (item.Copy block ∷ rest)
    ≡ map (with_edges (led (length before) (jump_of whole) (way_on whole rest))) block.nodes
    ++ nodes_from whole rest
unfolding nodes_from node_count
nodes_copy whole rest block before e =
    let all = sym (length-append before (nodes_from whole (item.Copy block ∷ rest)))
    ∙ (ap length e ∙ counted whole whole) in
    let first : node_count whole - (length block.nodes + node_count rest)
    ≡ length before = omega (arith, all, counted whole (item.Copy block ∷ rest)) in
    ap (λ n. map (with_edges (led n (jump_of whole) (way_on whole rest))) block.nodes
    ++ nodes_from whole rest) first

-- a spot and a jump have no node
pub plain_nodes : (whole rest : List Item) (x : Item)
    → ((s : Spot) × (x ≡ item.Spot s)) ⊎ ((s : Spot) × (x ≡ item.Jump s))
    → nodes_from whole (x ∷ rest) ≡ nodes_from whole rest
unfolding nodes_from
plain_nodes whole rest x (inl (s, e)) = rw e refl
plain_nodes whole rest x (inr (s, e)) = rw e refl

pub plain_ways : (whole rest : List Item) (x : Item)
    → ((s : Spot) × (x ≡ item.Spot s)) ⊎ ((s : Spot) × (x ≡ item.Jump s))
    → ways_on whole (x ∷ rest) ≡ ways_on whole rest
unfolding ways_on
plain_ways whole rest x (inl (s, e)) = rw e refl
plain_ways whole rest x (inr (s, e)) = rw e refl
