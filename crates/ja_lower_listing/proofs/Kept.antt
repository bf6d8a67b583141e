-- Lines come to their nodes.
use Rattle.std.proofs.Common.{◌≡◌, ℕ, if◌then◌else◌, ◌+◌, ◌-◌, List, [], ◌∷◌, ◌++◌, length, map, suc, Some, None, slice_get, refl, ap, sym, subst, ◌∙◌, append_assoc, length-append, arith}
use Rattle.std.proofs.lemmas.List.{length-map, map-append}
use Rattle.ja_graph.specs.declared.node.Node.{Node}
use Rattle.ja_graph.specs.declared.node.Node.TheVariants.{Escape}
use Rattle.ja_graph.specs.declared.node.NodeInfo.{NodeInfo}
use Rattle.ja_graph.specs.Node.{may_throw}
use Rattle.ja_graph.specs.WellFormed.{LastIsEscape}
use Rattle.ja_lower_listing.specs.declared.item.BlockNode.{BlockNode}
use Rattle.ja_lower_listing.specs.declared.item.Spot.{Spot}
use Rattle.ja_lower_listing.specs.declared.item.Target.{Target}
use Rattle.ja_lower_listing.specs.declared.item.Target.TheVariants as target
use Rattle.ja_lower_listing.specs.declared.item.Item.{Item}
use Rattle.ja_lower_listing.specs.declared.item.Item.TheVariants as item
use Rattle.ja_lower_listing.specs.Listing.{node_count, with_edges, led, jump_of, way_on, edge, goes_on, nodes_from, block_of, info_of, assembled}
use Rattle.ja_lower_listing.specs.Laws.{EndsWithEscape, node_at, placed}
use Rattle.ja_lower_listing.proofs.Parts.{count_split}

pub counted : (whole items : List Item) → length (nodes_from whole items) ≡ node_count items
unfolding nodes_from node_count
counted whole [] = refl
counted whole (item.Node node other handler place ∷ items) = ap suc (counted whole items)
counted whole (item.Spot s ∷ items) = counted whole items
counted whole (item.Jump s ∷ items) = counted whole items
counted whole (item.Copy block ∷ items) =
    let f = with_edges (led (node_count whole - (length block.nodes + node_count items))
    (jump_of whole) (way_on whole items)) in
    length-append (map f block.nodes) (nodes_from whole items)
    ∙ (ap (λ n. n + length (nodes_from whole items)) (length-map block.nodes f)
    ∙ ap (λ n. length block.nodes + n) (counted whole items))

-- the nodes of a line, and of lines, before those that stand behind
line_nodes : (whole : List Item) (x : Item) (rest : List Item)
    → (ns : List BlockNode) × (nodes_from whole (x ∷ rest) ≡ ns ++ nodes_from whole rest)
    × (length ns ≡ node_count (x ∷ []))
unfolding nodes_from node_count
line_nodes whole (item.Node node other handler place) rest = (_ ∷ [], refl, refl)
line_nodes whole (item.Spot s) rest = ([], refl, refl)
line_nodes whole (item.Jump s) rest = ([], refl, refl)
line_nodes whole (item.Copy block) rest = (_, refl, length-map block.nodes _ ∙ (omega arith))

pub nodes_both : (whole front items : List Item)
    → (ns : List BlockNode) × (nodes_from whole (front ++ items) ≡ ns ++ nodes_from whole items)
    × (length ns ≡ node_count front)
unfolding node_count
nodes_both whole [] items = ([], refl, refl)
nodes_both whole (x ∷ front) items =
    let (first, is, one) = line_nodes whole x (front ++ items) in
    let (ns, rest, more) = nodes_both whole front items in (
      first ++ ns,
      is ∙ (ap (λ xs. first ++ xs) rest
          ∙ sym (append_assoc first ns (nodes_from whole items))),
      omega (arith, length-append first ns, one, more, count_split x front),
    )

pub block_counted : (items : List Item) → length (block_of items).nodes ≡ node_count items
block_counted items = counted items items

pub assembled_counted : (whole : List Item) → length (assembled whole) ≡ node_count whole
assembled_counted whole =
    length-map (nodes_from whole whole) (info_of (node_count whole - 1)) ∙ counted whole whole

-- ---- nodes and places

same_nodes : (f : Target → Target) (ns : List BlockNode)
    → map node_at (map (with_edges f) ns) ≡ map node_at ns
same_nodes f [] = refl
same_nodes f (n ∷ ns) = ap (λ xs. node_at n ∷ xs) (same_nodes f ns)

kept : (whole items : List Item) → map node_at (nodes_from whole items) ≡ placed items
unfolding nodes_from placed
kept whole [] = refl
kept whole (item.Node node other handler place ∷ items) =
    ap (λ xs. (node, place) ∷ xs) (kept whole items)
kept whole (item.Spot s ∷ items) = kept whole items
kept whole (item.Jump s ∷ items) = kept whole items
kept whole (item.Copy block ∷ items) =
    let f = led (node_count whole - (length block.nodes + node_count items)) (jump_of whole)
    (way_on whole items) in
    map-append node_at (map (with_edges f) block.nodes) (nodes_from whole items)
    ∙ (ap (λ xs. xs ++ map node_at (nodes_from whole items)) (same_nodes f block.nodes)
    ∙ ap (λ xs. map node_at block.nodes ++ xs) (kept whole items))

pub block_kept : (items : List Item) → map node_at (block_of items).nodes ≡ placed items
block_kept items = kept items items

infos_kept : (escape : ℕ) (ns : List BlockNode)
    → map (λ (info : NodeInfo). (info.node, info.place)) (map (info_of escape) ns) ≡ map node_at ns
infos_kept escape [] = refl
infos_kept escape (n ∷ ns) = ap (λ xs. node_at n ∷ xs) (infos_kept escape ns)

pub assembled_kept : (whole : List Item)
    → map (λ info. (info.node, info.place)) (assembled whole) ≡ placed whole
assembled_kept whole = infos_kept (node_count whole - 1) (nodes_from whole whole) ∙ kept whole whole

-- ---- the last node

last_of_more : (ns : List BlockNode) (escape : ℕ) (n : BlockNode)
    → slice_get (map (info_of escape) (ns ++ n ∷ []))
    (length (map (info_of escape) (ns ++ n ∷ [])) - 1) ≡ Some (info_of escape n)
last_of_more ns escape n =
    let infos = map-append (info_of escape) ns (n ∷ []) in
    let count = length-append (map (info_of escape) ns) (info_of escape n ∷ []) in
    let at : length (map (info_of escape) ns ++ info_of escape n ∷ []) - 1
    ≡ length (map (info_of escape) ns) = omega (arith, count) in
    rw (infos, at) (end (map (info_of escape) ns))
  where
    end : (xs : List NodeInfo) → slice_get (xs ++ info_of escape n ∷ []) (length xs)
        ≡ Some (info_of escape n)
    end [] = refl
    end (x ∷ xs) = end xs

pub assembled_ends : (whole : List Item) → EndsWithEscape whole → LastIsEscape (assembled whole)
unfolding nodes_from goes_on
assembled_ends whole h =
    let (ns, is, count) = nodes_both whole h.front
    (item.Node Escape h.other h.handler h.place ∷ []) in
    let last : BlockNode = record {
      node = Escape;
      next = target.Out;
      other = edge whole h.other;
      handler = if may_throw Escape then edge whole h.handler else target.Out;
      place = h.place;
      above = None;
    } in
    let nodes : nodes_from whole whole ≡ ns ++ last ∷ [] = ap (nodes_from whole) h.split ∙ is in
    let escape = node_count whole - 1 in
    subst (λ xs. LastIsEscape (map (info_of escape) xs)) (sym nodes)
    (record {
      last = info_of escape last;
      last_is = last_of_more ns escape last;
      escape = refl;
    })
