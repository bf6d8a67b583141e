-- The edges of a block's nodes lead to nodes that it has, and those of a function's nodes to nodes
-- of the function.
use Rattle.std.proofs.Common.{◌≡◌, ℕ, ◌+◌, ◌<◌, ◌≤◌, ◌-◌, ◌==◌, Bool, true, false, cond, List, [], ◌∷◌, ◌++◌, length, map, zero, suc, Option, Some, None, slice_get, sym, subst, arith}
use Rattle.std.specs.List.{AllByRecursion}
use Rattle.std.specs.Option.{option_or, option_map_or}
use Rattle.ja_graph.specs.Node.{may_throw}
use Rattle.ja_graph.specs.declared.node.Node.TheVariants.{Escape}
use Rattle.ja_graph.specs.declared.node.NodeInfo.{NodeInfo}
use Rattle.ja_lower_listing.specs.declared.item.BlockNode.{BlockNode}
use Rattle.ja_lower_listing.specs.declared.item.Spot.{Spot}
use Rattle.ja_lower_listing.specs.declared.item.Target.{Target}
use Rattle.ja_lower_listing.specs.declared.item.Target.TheVariants as target
use Rattle.ja_lower_listing.specs.declared.item.Item.{Item}
use Rattle.ja_lower_listing.specs.declared.item.Item.TheVariants as item
use Rattle.ja_lower_listing.specs.Listing.{node_count, behind, led, goes, leads, jump_of, way_on, edge, goes_on, with_edges, nodes_from, block_of, closed, info_of, assembled}
use Rattle.ja_lower_listing.specs.Laws.{EndsWithEscape, LeadsInside, EdgesLeadInside, IsWithin, EdgesAreWithin, IsWhole, CopiesAreWhole}
use Rattle.ja_lower_listing.proofs.Kept.{counted, assembled_counted}
use Rattle.ja_lower_listing.proofs.Parts.{count_both}

choice_within : (b : Bool) (x y : Target) (n : ℕ) → IsWithin n x → IsWithin n y
    → IsWithin n (cond b x y)
choice_within true x y n first second = first
choice_within false x y n first second = second

all_both : (P : BlockNode → Type 0) (xs ys : List BlockNode) → AllByRecursion P xs
    → AllByRecursion P ys → AllByRecursion P (xs ++ ys)
all_both P [] ys first second = second
all_both P (x ∷ xs) ys first second = (first.0, all_both P xs ys first.1 second)

module _ (whole : List Item) where
  abbrev Holds : Target → Type 0
  Holds t = IsWithin (node_count whole) t

  -- lines at the end of a listing, whose copies are whole
  record IsTail (items : List Item) : Type 0 where
    copies : CopiesAreWhole items
    few : node_count items ≤ node_count whole

  tail_node : (n : ℕ) → n < node_count whole → Holds (target.Node n)
  tail_node n h = h

  led_within : (first nodes : ℕ) → first + nodes ≤ node_count whole → (jump : Spot → Target)
      → ((s : Spot) → Holds (jump s)) → (next : Target) → Holds next → (t : Target)
      → IsWithin nodes t → Holds (led first jump next t)
  led_within first nodes few jump each next there (target.Node n) h = omega (arith, few, h)
  led_within first nodes few jump each next there (target.Spot s) h = each s
  led_within first nodes few jump each next there target.Behind h = there
  led_within first nodes few jump each next there target.Out h = tt

  goes_within : (jump : Spot → Target) → ((s : Spot) → Holds (jump s)) → (items : List Item)
      → IsTail items → Holds (goes whole jump items)
  unfolding goes node_count
  goes_within jump each [] tail = tt
  goes_within jump each (item.Node node other handler place ∷ items) tail = omega (arith, tail.few)
  goes_within jump each (item.Spot s ∷ items) tail =
      goes_within jump each items (record { copies = tail.copies.1; few = tail.few })
  goes_within jump each (item.Jump s ∷ items) tail = each s
  goes_within jump each (item.Copy block ∷ items) tail =
      led_within (node_count whole - (length block.nodes + node_count items)) (length block.nodes)
      (omega (arith, tail.few)) jump each (goes whole jump items)
      (goes_within jump each items (record {
        copies = tail.copies.1;
        few = omega (arith, tail.few);
      })) block.entry tail.copies.0.entry

  abbrev OfTail : Option (List Item) → Type 0
  OfTail None = Unit {0}
  OfTail (Some items) = IsTail items

  tail_at : (o : Option (List Item)) (b : Bool) (items : List Item) → OfTail o → IsTail items
      → OfTail (option_or o (cond b (Some items) None))
  tail_at None true items later here = here
  tail_at None false items later here = tt
  tail_at (Some rest) b items later here = later

  tail_behind : (s : Spot) (items : List Item) → IsTail items → OfTail (behind s items)
  unfolding behind node_count
  tail_behind s [] tail = tt
  tail_behind s (item.Node node other handler place ∷ items) tail =
      tail_behind s items (record { copies = tail.copies.1; few = omega (arith, tail.few) })
  tail_behind s (item.Spot t ∷ items) tail =
      let rest : IsTail items = record { copies = tail.copies.1; few = tail.few } in
      tail_at (behind s items) (t.0 == s.0) items (tail_behind s items rest) rest
  tail_behind s (item.Jump t ∷ items) tail =
      tail_behind s items (record { copies = tail.copies.1; few = tail.few })
  tail_behind s (item.Copy block ∷ items) tail =
      tail_behind s items (record { copies = tail.copies.1; few = omega (arith, tail.few) })

  module _ (all : CopiesAreWhole whole) where
    whole_tail : IsTail whole
    whole_tail = record { copies = all; few = omega arith }

    behind_within : (jump : Spot → Target) → ((s : Spot) → Holds (jump s))
        → (s : Spot) (o : Option (List Item)) → OfTail o
        → Holds (option_map_or (goes whole jump) o (target.Spot s))
    behind_within jump each s None h = tt
    behind_within jump each s (Some rest) h = goes_within jump each rest h

    leads_within : (n : ℕ) (s : Spot) → Holds (leads whole n s)
    unfolding leads
    leads_within zero s = tt
    leads_within (suc n) s =
        behind_within (leads whole n) (leads_within n) s (behind s whole)
        (tail_behind s whole whole_tail)

    jump_within : (s : Spot) → Holds (jump_of whole s)
    jump_within s = leads_within (suc (length whole)) s

    way_within : (items : List Item) → IsTail items → Holds (way_on whole items)
    way_within items tail = goes_within (jump_of whole) jump_within items tail

    edge_within : (spot : Option Spot) → Holds (edge whole spot)
    edge_within None = tt
    edge_within (Some s) = jump_within s

    copy_within : (first nodes : ℕ) → first + nodes ≤ node_count whole → (next : Target)
        → Holds next → (ns : List BlockNode) → AllByRecursion (EdgesAreWithin nodes) ns
        → AllByRecursion (EdgesAreWithin (node_count whole))
        (map (with_edges (led first (jump_of whole) next)) ns)
    copy_within first nodes few next there [] h = tt
    copy_within first nodes few next there (n ∷ ns) h =
        let at : (t : Target) → IsWithin nodes t
        → Holds (led first (jump_of whole) next t) = led_within first nodes few (jump_of whole)
        jump_within next there in (
          (at n.next h.0.0, at n.other h.0.1, at n.handler h.0.2),
          copy_within first nodes few next there ns h.1,
        )

    nodes_within : (items : List Item) → IsTail items
        → AllByRecursion (EdgesAreWithin (node_count whole)) (nodes_from whole items)
    unfolding nodes_from node_count
    nodes_within [] tail = tt
    nodes_within (item.Node node other handler place ∷ items) tail =
        let rest : IsTail items = record {
          copies = tail.copies.1;
          few = omega (arith, tail.few);
        } in (
          (
            choice_within (goes_on node) (way_on whole items) target.Out _ (way_within items rest) tt,
            edge_within other,
            choice_within (may_throw node) (edge whole handler) target.Out _
                (edge_within handler) tt,
          ),
          nodes_within items rest,
        )
    nodes_within (item.Spot s ∷ items) tail =
        nodes_within items (record { copies = tail.copies.1; few = tail.few })
    nodes_within (item.Jump s ∷ items) tail =
        nodes_within items (record { copies = tail.copies.1; few = tail.few })
    nodes_within (item.Copy block ∷ items) tail =
        let rest : IsTail items = record {
          copies = tail.copies.1;
          few = omega (arith, tail.few);
        } in
        let first : ℕ = node_count whole - (length block.nodes + node_count items) in
        all_both _ (map (with_edges (led first (jump_of whole) (way_on whole items))) block.nodes)
        (nodes_from whole items)
        (copy_within first (length block.nodes) (omega (arith, tail.few)) (way_on whole items)
        (way_within items rest) block.nodes tail.copies.0.nodes)
        (nodes_within items rest)

pub block_whole : (items : List Item) → CopiesAreWhole items → IsWhole (block_of items)
block_whole items all =
    let tail = whole_tail items all in
    record {
      entry =
          subst (λ n. IsWithin n (way_on items items)) (sym (counted items items))
          (way_within items all items tail);
      nodes =
          subst (λ n. AllByRecursion (EdgesAreWithin n) (nodes_from items items))
          (sym (counted items items)) (nodes_within items all items tail);
    }

-- ---- the graph of a function

module _ (nodes : ℕ) (some : 0 < nodes) where
  closed_inside : (t : Target) → IsWithin nodes t → (closed (nodes - 1) t).0 < nodes
  closed_inside (target.Node n) h = h
  closed_inside (target.Spot s) h = omega (arith, some)
  closed_inside target.Behind h = omega (arith, some)
  closed_inside target.Out h = omega (arith, some)

  infos_inside : (ns : List BlockNode) → AllByRecursion (EdgesAreWithin nodes) ns
      → (k : ℕ) (info : NodeInfo) → slice_get (map (info_of (nodes - 1)) ns) k ≡ Some info
      → LeadsInside nodes info
  infos_inside [] h k info e = cc
  infos_inside (n ∷ ns) h zero info e =
      first (info_of (nodes - 1) n) info e (record {
        next = closed_inside n.next h.0.0;
        other = closed_inside n.other h.0.1;
        handler = closed_inside n.handler h.0.2;
      })
    where
      first : (x y : NodeInfo) → Some x ≡ Some y → LeadsInside nodes x → LeadsInside nodes y
      first x y is made = let same : x ≡ y = cc in subst (λ z. LeadsInside nodes z) same made
  infos_inside (n ∷ ns) h (suc k) info e = infos_inside ns h.1 k info e

-- items with a node at the end have one
pub some_node : (whole : List Item) → EndsWithEscape whole → 0 < node_count whole
unfolding node_count
some_node whole h =
    rw h.split (omega (arith, count_both h.front (item.Node Escape h.other h.handler h.place ∷ [])))

pub assembled_inside : (whole : List Item) → EndsWithEscape whole → CopiesAreWhole whole
    → EdgesLeadInside (assembled whole)
assembled_inside whole h all n info e =
    subst (λ m. LeadsInside m info) (sym (assembled_counted whole))
    (infos_inside (node_count whole) (some_node whole h) (nodes_from whole whole)
    (nodes_within whole all whole (whole_tail whole all)) n info e)
