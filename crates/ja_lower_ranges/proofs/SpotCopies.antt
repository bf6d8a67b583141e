-- A block leads to spots around it alone, and so do its copies.
use Rattle.std.proofs.Common.{◌≡◌, ◌<◌, ◌≤◌, ◌+◌, ◌-◌, ◌==◌, ℕ, zero, suc, nat_le, Bool, true, false, cond, List, [], ◌∷◌, length, map, Option, Some, None, refl, ap, arith}
use Rattle.std.specs.List.{AllByRecursion}
use Rattle.std.specs.Option.{option_or, option_map_or}
use Rattle.std.proofs.lemmas.Bool.{leb-true, leb-false}
use Rattle.ja_base.specs.declared.ids.Reg.{Reg}
use Rattle.ja_base.proofs.Lists.{all_append}
use Rattle.ja_graph.specs.Node.{may_throw}
use Rattle.ja_lower_listing.specs.declared.item.BlockNode.{BlockNode}
use Rattle.ja_lower_listing.specs.declared.item.Spot.{Spot}
use Rattle.ja_lower_listing.specs.declared.item.Target.{Target}
use Rattle.ja_lower_listing.specs.declared.item.Target.TheVariants as target
use Rattle.ja_lower_listing.specs.declared.item.Item.{Item}
use Rattle.ja_lower_listing.specs.declared.item.Item.TheVariants as item
use Rattle.ja_lower_listing.specs.Listing.{behind, led, goes, leads, jump_of, way_on, edge, goes_on, with_edges, nodes_from, block_of}
use Rattle.ja_lower_draft.specs.Copies.{Template, moved_node, with_block}
use Rattle.ja_lower_draft.specs.Lines.{Listing, Scene}
use Rattle.ja_lower_draft.proofs.CopyLemmas.{with_or_without}
use Rattle.ja_lower_ranges.specs.Spots.{times, OfSpot, OfTarget, OfTargets, OfBlock, OfEdges}
use Rattle.ja_lower_ranges.proofs.SpotCounts.{one_if, free_from, free_below, IsBelow, block_map}
use Rattle.ja_lower_ranges.proofs.SpotLines.{KeptAt, copy}

-- ---- where the edges of a block lead

choice : (P : Spot → Type 0) (b : Bool) (s t : Target) → OfTarget P s → OfTarget P t
    → OfTarget P (cond b s t)
choice P true s t first second = first
choice P false s t first second = second

-- where each line leads to spots of a kind, the block leads to spots of that kind that don't stand
-- in the lines
module _ (P : Spot → Type 0) (whole : List Item) where
  abbrev Around : Spot → Type 0
  Around s = P s × (behind s whole ≡ None)

  abbrev Leads : (Spot → Target) → Type 0
  Leads jump = (s : Spot) → P s → OfTarget Around (jump s)

  abbrev EachLeads : List Item → Type 0
  EachLeads items = AllByRecursion (OfEdges P) items

  led_around : (first : ℕ) (jump : Spot → Target) → Leads jump → (next : Target)
      → OfTarget Around next → (t : Target) → OfTarget P t → OfTarget Around (led first jump next t)
  led_around first jump each next there (target.Node n) h = tt
  led_around first jump each next there (target.Spot s) h = each s h
  led_around first jump each next there target.Behind h = there
  led_around first jump each next there target.Out h = tt

  goes_around : (jump : Spot → Target) → Leads jump → (items : List Item) → EachLeads items
      → OfTarget Around (goes whole jump items)
  unfolding goes
  goes_around jump each [] h = tt
  goes_around jump each (item.Node node other handler place ∷ items) h = tt
  goes_around jump each (item.Spot s ∷ items) h = goes_around jump each items h.1
  goes_around jump each (item.Jump s ∷ items) h = each s h.0
  goes_around jump each (item.Copy block ∷ items) h =
      led_around _ jump each (goes whole jump items) (goes_around jump each items h.1) block.entry
      h.0.0

  -- the lines behind a spot are lines of the listing
  abbrev IfLeads : Option (List Item) → Type 0
  IfLeads None = Unit {0}
  IfLeads (Some items) = EachLeads items

  behind_at : (o : Option (List Item)) (b : Bool) (items : List Item) → IfLeads o → EachLeads items
      → IfLeads (option_or o (cond b (Some items) None))
  behind_at None true items later here = here
  behind_at None false items later here = tt
  behind_at (Some rest) b items later here = later

  behind_leads : (s : Spot) (items : List Item) → EachLeads items → IfLeads (behind s items)
  unfolding behind
  behind_leads s [] h = tt
  behind_leads s (item.Node node other handler place ∷ items) h = behind_leads s items h.1
  behind_leads s (item.Spot t ∷ items) h =
      behind_at (behind s items) (t.0 == s.0) items (behind_leads s items h.1) h.1
  behind_leads s (item.Jump t ∷ items) h = behind_leads s items h.1
  behind_leads s (item.Copy block ∷ items) h = behind_leads s items h.1

  module _ (all : EachLeads whole) where
    spot_around : (jump : Spot → Target) → Leads jump → (s : Spot) (o : Option (List Item))
        → behind s whole ≡ o → IfLeads o → P s
        → OfTarget Around (option_map_or (goes whole jump) o (target.Spot s))
    spot_around jump each s None e h p = (p, e)
    spot_around jump each s (Some rest) e h p = goes_around jump each rest h

    leads_around : (n : ℕ) → Leads (leads whole n)
    unfolding leads
    leads_around zero s p = tt
    leads_around (suc n) s p =
        spot_around (leads whole n) (leads_around n) s (behind s whole) refl
        (behind_leads s whole all) p

    way_around : (items : List Item) → EachLeads items → OfTarget Around (way_on whole items)
    way_around items h = goes_around (jump_of whole) (leads_around (suc (length whole))) items h

    edge_around : (spot : Option Spot) → OfSpot P spot → OfTarget Around (edge whole spot)
    edge_around None h = tt
    edge_around (Some s) h = leads_around (suc (length whole)) s h

    copy_around : (first : ℕ) (next : Target) → OfTarget Around next → (ns : List BlockNode)
        → AllByRecursion (OfTargets P) ns → AllByRecursion (OfTargets Around)
        (map (with_edges (led first (jump_of whole) next)) ns)
    copy_around first next there [] h = tt
    copy_around first next there (n ∷ ns) h =
        let at : (t : Target) → OfTarget P t → OfTarget Around
        (led first (jump_of whole) next t) = led_around first (jump_of whole)
        (leads_around (suc (length whole))) next there in (
          (at n.next h.0.0, at n.other h.0.1, at n.handler h.0.2),
          copy_around first next there ns h.1,
        )

    nodes_around : (items : List Item) → EachLeads items
        → AllByRecursion (OfTargets Around) (nodes_from whole items)
    unfolding nodes_from
    nodes_around [] h = tt
    nodes_around (item.Node node other handler place ∷ items) h = (
      (
        choice Around (goes_on node) (way_on whole items) target.Out (way_around items h.1) tt,
        edge_around other h.0.0,
        choice Around (may_throw node) (edge whole handler) target.Out
            (edge_around handler h.0.1) tt,
      ),
      nodes_around items h.1,
    )
    nodes_around (item.Spot s ∷ items) h = nodes_around items h.1
    nodes_around (item.Jump s ∷ items) h = nodes_around items h.1
    nodes_around (item.Copy block ∷ items) h =
        all_append (OfTargets Around) _ (nodes_from whole items)
        (copy_around _ (way_on whole items) (way_around items h.1) block.nodes h.0.1)
        (nodes_around items h.1)

    block_around : OfBlock Around (block_of whole)
    block_around = (way_around whole all, nodes_around whole all)

-- ---- a spot behind which are no lines doesn't stand

no_line : (o : Option (List Item)) (b : Bool) (items : List Item)
    → option_or o (cond b (Some items) None) ≡ None → (o ≡ None) × (b ≡ false)
no_line None true items e = cc
no_line None false items e = (refl, refl)
no_line (Some rest) b items e = cc

never : (s : Spot) (items : List Item) → behind s items ≡ None → times s.0 items ≡ 0
unfolding behind times
never s [] e = refl
never s (item.Node node other handler place ∷ items) e = never s items e
never s (item.Spot t ∷ items) e =
    let none = no_line (behind s items) (t.0 == s.0) items e in
    omega (arith, ap one_if none.1, never s items none.0)
never s (item.Jump t ∷ items) e = never s items e
never s (item.Copy block ∷ items) e = never s items e

-- ---- blocks

-- a block leads to spots below a number
abbrev pub IsBlock : ℕ → Template → Type 0
IsBlock n t = OfBlock (IsBelow n) t.block

pub block_later : (n m : ℕ) (t : Template) → n ≤ m → IsBlock n t → IsBlock m t
block_later n m t more h = block_map (λ s low. omega (arith, more, low)) t.block h

-- one that is listed from nothing on
pub listed_block : {scene : Scene} {ks : List Spot} (temporary n : ℕ) (listed : Listing)
    → KeptAt scene ks [] (record { items = []; temporary = temporary; spot = n }) listed
    → IsBlock n (record { block = block_of listed.items; temporary = temporary })
unfolding times
listed_block temporary n listed k =
    block_map (λ s around. below s around.0 (never s listed.items around.1)) (block_of listed.items)
    (block_around (IsBelow listed.spot) listed.items (k.led tt))
  where
    below : (s : Spot) → s.0 < listed.spot → times s.0 listed.items ≡ 0 → s.0 < n
    below s taken none = either (nat_le n s.0) refl
      where
        either : (b : Bool) → nat_le n s.0 ≡ b → s.0 < n
        either true e =
            absurd (omega (
              arith,
              k.stand s.0,
              none,
              free_below listed.spot s.0 taken,
              free_from n s.0 (leb-true n s.0 e),
            ))
        either false e = leb-false n s.0 e

-- ---- a copy behind a listing

moved_around : (n first : ℕ) (above : Reg) (by : ℕ) (ns : List BlockNode)
    → AllByRecursion (OfTargets (IsBelow n)) ns
    → AllByRecursion (OfTargets (IsBelow n)) (map (moved_node first above by) ns)
moved_around n first above by [] h = tt
moved_around n first above by (x ∷ ns) h = (h.0, moved_around n first above by ns h.1)

pub kept_with_block : {scene : Scene} {ks ps : List Spot} {o : Listing} (l : Listing) (t : Template)
    (above : Reg) → IsBlock l.spot t → KeptAt scene ks ps o l
    → KeptAt scene ks ps o (with_block t above l)
kept_with_block {scene} {ks} {ps} {o} l t above h k =
    with_or_without t above l (KeptAt scene ks ps o) k (copy _ (
      h.0,
      moved_around l.spot t.temporary above (above.0 + 1 - t.temporary) t.block.nodes
          h.1,
    ) k)
