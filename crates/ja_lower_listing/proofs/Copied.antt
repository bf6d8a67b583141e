-- The nodes of a copy lead as those of its block.
use Rattle.std.proofs.Common.{◌≡◌, ℕ, ◌+◌, ◌-◌, List, [], ◌∷◌, ◌++◌, length, map, zero, suc, Some, slice_get, ap, sym, ◌∙◌, arith}
use Rattle.ja_lower_listing.specs.declared.item.Block.{Block}
use Rattle.ja_lower_listing.specs.declared.item.BlockNode.{BlockNode}
use Rattle.ja_lower_listing.specs.declared.item.Item.{Item}
use Rattle.ja_lower_listing.specs.declared.item.Item.TheVariants as item
use Rattle.ja_lower_listing.specs.Listing.{node_count, led, jump_of, way_on, with_edges, nodes_from, block_of}
use Rattle.ja_lower_listing.proofs.Kept.{nodes_both}
use Rattle.ja_lower_listing.proofs.Parts.{count_both}

get_behind : (xs ys : List BlockNode) (k : ℕ)
    → slice_get (xs ++ ys) (length xs + k) ≡ slice_get ys k
get_behind [] ys k = let same : 0 + k ≡ k = omega arith in ap (λ j. slice_get ys j) same
get_behind (x ∷ xs) ys k =
    let same : suc (length xs) + k ≡ suc (length xs + k) = omega arith in
    ap (λ j. slice_get (x ∷ (xs ++ ys)) j) same ∙ get_behind xs ys k

get_mapped : (f : BlockNode → BlockNode) (xs ys : List BlockNode) (k : ℕ) (n : BlockNode)
    → slice_get xs k ≡ Some n → slice_get (map f xs ++ ys) k ≡ Some (f n)
get_mapped f [] ys k n e = cc
get_mapped f (x ∷ xs) ys zero n e = let same : x ≡ n = cc in ap (λ m. Some (f m)) same
get_mapped f (x ∷ xs) ys (suc k) n e = get_mapped f xs ys k n e

pub copies_lead_alike : (front items : List Item) (block : Block) (k : ℕ) (n : BlockNode)
    → slice_get block.nodes k ≡ Some n → slice_get
    (block_of (front ++ item.Copy block ∷ items)).nodes (node_count front + k)
    ≡ Some (with_edges (led (node_count front) (jump_of (front ++ item.Copy block ∷ items))
    (way_on (front ++ item.Copy block ∷ items) items)) n)
unfolding nodes_from node_count
copies_lead_alike front items block k n e =
    let whole : List Item = front ++ item.Copy block ∷ items in
    let (ns, is, count) = nodes_both whole front (item.Copy block ∷ items) in
    let all : node_count whole ≡ node_count front
    + (length block.nodes + node_count items) = count_both front (item.Copy block ∷ items) in
    let first : node_count whole - (length block.nodes + node_count items)
    ≡ node_count front = omega (arith, all) in
    let f : ℕ → BlockNode → BlockNode = λ from.
    with_edges (led from (jump_of whole) (way_on whole items)) in
    ap (λ xs. slice_get xs (node_count front + k)) is
    ∙ (ap (λ m. slice_get (ns ++ (map (f (node_count whole -
    (length block.nodes + node_count items))) block.nodes ++ nodes_from whole items)) (m + k))
    (sym count)
    ∙ (get_behind ns (map (f (node_count whole - (length block.nodes + node_count items)))
    block.nodes ++ nodes_from whole items) k
    ∙ (get_mapped (f (node_count whole - (length block.nodes + node_count items))) block.nodes
    (nodes_from whole items) k n e
    ∙ ap (λ from. Some (f from n)) first)))
