-- A copy of a block is in range, and so is what a jump lists on its way.
use Rattle.std.proofs.Common.{◌≡◌, ◌+◌, ◌-◌, ℕ, Bool, true, false, nat_le, if◌then◌else◌, List, [], ◌∷◌, length, map, Option, Some, None, inr, refl, sym, subst, arith}
use Rattle.std.specs.List.{AllByRecursion}
use Rattle.std.specs.Option.{option_map, option_to_list}
use Rattle.std.proofs.lemmas.Bool.{leb-true}
use Rattle.std.proofs.lemmas.List.{length-map}
use Rattle.ja_base.specs.declared.ids.Place.{Place}
use Rattle.ja_base.specs.declared.ids.Reg.{Reg}
use Rattle.ja_base.proofs.Lists.{all_append}
use Rattle.ja_graph.specs.declared.node.Args.TheVariants as args
use Rattle.ja_graph.specs.declared.node.Node.{Node}
use Rattle.ja_graph.specs.declared.node.Node.TheVariants as node
use Rattle.ja_graph.specs.declared.node.NodeInfo.{NodeInfo}
use Rattle.ja_graph.specs.Node.{register_set, name_in, function_in, makings}
use Rattle.ja_graph.specs.Renaming.{renamed}
use Rattle.ja_graph.proofs.RenamingLemmas.{sets_renamed}
use Rattle.ja_lower_listing.specs.declared.item.Block.{Block}
use Rattle.ja_lower_listing.specs.declared.item.BlockNode.{BlockNode}
use Rattle.ja_lower_listing.specs.declared.item.Spot.{Spot}
use Rattle.ja_lower_listing.specs.declared.item.Target.{Target}
use Rattle.ja_lower_listing.specs.declared.item.Item.{Item}
use Rattle.ja_lower_listing.specs.declared.item.Item.TheVariants as item
use Rattle.ja_lower_listing.specs.Laws.{IsWithin, EdgesAreWithin, IsWhole, CopiesAreWhole}
use Rattle.ja_lower_listing.specs.Listing.{with_edges, nodes_from, block_of, info_of, assembled}
use Rattle.ja_lower_listing.proofs.Inside.{block_whole}
use Rattle.ja_lower_draft.specs.Lines.{Listing, Scene}
use Rattle.ja_lower_draft.specs.Copies.{Template, moved_register, moving, moves_with, moved_node, moved_block, with_block}
use Rattle.ja_lower_draft.proofs.CopyLemmas.{with_or_without}
use Rattle.ja_lower_statements.specs.Ways.{Way, of_loop, of_switch, of_label, of_catch, of_finally, Leaving, with_scope, copied_above, leave, restored, arrive, arrive_or, jump_to, leave_all}
use Rattle.ja_lower_ranges.specs.InRange.{Limits, IsTemporary, IsDestination, IsOfTexts, IsOfTextsWithoutFunctions, IsInRange, OfNode, AllInRange}
use Rattle.ja_lower_ranges.proofs.LineRanges.{sound_with_item, sound_with_jump, sound_move_to_scope}
use Rattle.ja_lower_ranges.proofs.Sound.{IsSound, IsSoundBlock, AreSoundLines, IsSoundWay}

-- ---- a moved node

-- what a moved node keeps: its name, its function, that it is one of texts, its sites, and that it
-- is one of texts without functions
abbrev Keeps : ℕ → ℕ → Node → Type 0
Keeps first by n =
    (name_in (renamed (moving first by) n) ≡ name_in n)
    × (function_in (renamed (moving first by) n) ≡ function_in n)
    × (IsOfTexts n → IsOfTexts (renamed (moving first by) n))
    × (makings (renamed (moving first by) n) ≡ makings n)
    × (IsOfTextsWithoutFunctions n → IsOfTextsWithoutFunctions (renamed (moving first by) n))

keeps : (first by : ℕ) (n : Node) → Keeps first by n
unfolding renamed name_in function_in makings
keeps first by (node.Const dst prim) = (refl, refl, λ h. h, refl, λ h. h)
keeps first by (node.Move dst src) = (refl, refl, λ h. h, refl, λ h. h)
keeps first by (node.FindName dst name) = (refl, refl, λ h. h, refl, λ h. h)
keeps first by (node.ReadRef dst base name error) = (refl, refl, λ h. h, refl, λ h. h)
keeps first by (node.ReadSoft dst base name) = (refl, refl, λ h. h, refl, λ h. h)
keeps first by (node.WriteRef base name src) = (refl, refl, λ h. h, refl, λ h. h)
keeps first by (node.DeleteRef dst base name) = (refl, refl, λ h. h, refl, λ h. h)
keeps first by (node.ToObject dst src sites error) = (refl, refl, λ h. h, refl, λ h. h)
keeps first by (node.NeedObject src error) = (refl, refl, λ h. h, refl, λ h. h)
keeps first by (node.ReadProp dst object key) = (refl, refl, λ h. h, refl, λ h. h)
keeps first by (node.WriteProp object key src error) = (refl, refl, λ h. h, refl, λ h. h)
keeps first by (node.DeleteProp dst object key) = (refl, refl, λ h. h, refl, λ h. h)
keeps first by (node.HasProp dst object key) = (refl, refl, λ h. h, refl, λ h. h)
keeps first by (node.InstanceOf dst left right not_function not_object) =
    (refl, refl, λ h. h, refl, λ h. h)
keeps first by (node.NewObject dst site kind) = (refl, refl, λ h. h, refl, λ h. h)
keeps first by (node.MakeFunction dst function site proto_site) = (refl, refl, λ h. h, refl, λ h. h)
keeps first by (node.Enter site None) = (refl, refl, λ h. h, refl, λ h. h)
keeps first by (node.Enter site (Some arguments)) = (refl, refl, λ h. h, refl, λ h. h)
keeps first by (node.Declare name) = (refl, refl, λ h. h, refl, λ h. h)
keeps first by (node.Bind name src read_only) = (refl, refl, λ h. h, refl, λ h. h)
keeps first by (node.PushScope site) = (refl, refl, λ h. h, refl, λ h. h)
keeps first by (node.Convert dst src hint other) = (refl, refl, λ h. h, refl, λ h. h)
keeps first by (node.Unary dst op src) = (refl, refl, λ h. h, refl, λ h. h)
keeps first by (node.Binary dst op a b) = (refl, refl, λ h. h, refl, λ h. h)
keeps first by (node.Branch src) = (refl, refl, λ h. h, refl, λ h. h)
keeps first by (node.Call dst callee receiver (args.Registers list) error) =
    (refl, refl, λ h. h, refl, λ h. h)
keeps first by (node.Call dst callee receiver (args.Elements array) error) =
    (refl, refl, λ h. h, refl, λ h. h)
keeps first by (node.Call dst callee receiver args.Tail error) = (refl, refl, λ h. h, refl, λ h. h)
keeps first by (node.New dst callee args site error) = (refl, refl, λ h. h, refl, λ h. h)
keeps first by (node.Names list object) = (refl, refl, λ h. h, refl, λ h. h)
keeps first by (node.Pick list dst object) = (refl, refl, λ h. h, refl, λ h. h)
keeps first by (node.Throw src) = (refl, refl, λ h. h, refl, λ h. h)
keeps first by (node.Return src) = (refl, refl, λ h. h, refl, λ h. h)
keeps first by node.Escape = (refl, refl, λ h. h, refl, λ h. h)
keeps first by (node.Intrinsic dst which args) = (refl, refl, λ h. h, refl, λ h. h)
keeps first by (node.Device dst which) = (refl, refl, λ h. h, refl, λ h. h)
keeps first by (node.Stop kind) = (refl, refl, λ h. h, refl, λ h. h)

module _ (limits : Limits) (first by : ℕ) (temporary : IsTemporary limits first) where
  moved_if : (r : Reg) (b : Bool) → nat_le first r.0 ≡ b → IsDestination limits r
      → IsDestination limits (if b then record { 0 = r.0 + by } else r)
  moved_if r true e h = let low = leb-true first r.0 e in inr (inr (omega arith))
  moved_if r false e h = h

  moved_sets : (o : Option Reg) → AllByRecursion (IsDestination limits) (option_to_list o)
      → AllByRecursion (IsDestination limits)
      (option_to_list (option_map (moved_register first by) o))
  moved_sets None h = h
  moved_sets (Some r) h = (moved_if r (nat_le first r.0) refl h.0, h.1)

  -- temporaries move up, and other registers stay
  pub moved_in_range : (n : Node) → IsInRange limits n
      → IsInRange limits (renamed (moving first by) n)
  moved_in_range n h =
      let k = keeps first by n in
      record {
        sets = rw (sets_renamed (moving first by) n) (moved_sets (register_set n) h.sets);
        name = rw k.0 h.name;
        function = rw k.1 h.function;
        of_texts = λ texts. k.2 (h.of_texts texts);
        without_functions = λ none. k.4 (h.without_functions none);
        sites = rw k.3 h.sites;
      }

-- ---- a copy

module _ (limits : Limits) where
  -- a copy of a block is in range where the block is
  moved_nodes_in_range : (first : ℕ) (above : Reg) (by : ℕ) → IsTemporary limits first
      → (ns : List BlockNode) → AllByRecursion (λ (n : BlockNode). IsInRange limits n.node) ns
      → AllByRecursion (λ (n : BlockNode). IsInRange limits n.node)
      (map (moved_node first above by) ns)
  moved_nodes_in_range first above by t [] h = h
  moved_nodes_in_range first above by t (n ∷ ns) h = (
    moved_in_range limits first (if moves_with first n.above then by else 0) t n.node h.0,
    moved_nodes_in_range first above by t ns h.1,
  )

  moved_edges_within : (first : ℕ) (above : Reg) (by nodes : ℕ) (ns : List BlockNode)
      → AllByRecursion (EdgesAreWithin nodes) ns
      → AllByRecursion (EdgesAreWithin nodes) (map (moved_node first above by) ns)
  moved_edges_within first above by nodes [] h = h
  moved_edges_within first above by nodes (n ∷ ns) h =
      (h.0, moved_edges_within first above by nodes ns h.1)

  moved_whole : (first : ℕ) (above : Reg) (by : ℕ) (block : Block) → IsWhole block
      → IsWhole (moved_block first above by block)
  moved_whole first above by block h =
      let count = length-map block.nodes (moved_node first above by) in
      record {
        entry = subst (λ n. IsWithin n block.entry) (sym count) h.entry;
        nodes =
            subst (λ n. AllByRecursion (EdgesAreWithin n)
            (map (moved_node first above by) block.nodes)) (sym count)
            (moved_edges_within first above by (length block.nodes) block.nodes h.nodes);
      }

  pub sound_with_block : (t : Template) → IsTemporary limits t.temporary
      → (above : Reg) (l : Listing) → IsSoundBlock limits t.block → IsSound limits l
      → IsSound limits (with_block t above l)
  sound_with_block t temporary above l h s =
      let by = above.0 + 1 - t.temporary in
      with_or_without t above l (IsSound limits) s
      (sound_with_item (item.Copy (moved_block t.temporary above by t.block)) (
        moved_nodes_in_range t.temporary above by temporary t.block.nodes h.0,
        moved_whole t.temporary above by t.block h.1,
      ) s)

-- ---- the nodes that lines come to

-- what holds of each node of lines holds of each node that they come to
module _ (P : Node → Type 0) where
  abbrev OfEach : List BlockNode → Type 0
  OfEach ns = AllByRecursion (λ (n : BlockNode). P n.node) ns

  edged_keep : (f : Target → Target) (ns : List BlockNode) → OfEach ns
      → OfEach (map (with_edges f) ns)
  edged_keep f [] h = h
  edged_keep f (n ∷ ns) h = (h.0, edged_keep f ns h.1)

  pub nodes_keep : (whole items : List Item) → AllByRecursion (OfNode P) items
      → OfEach (nodes_from whole items)
  unfolding nodes_from
  nodes_keep whole [] h = tt
  nodes_keep whole (item.Node node other handler place ∷ items) h =
      (h.0, nodes_keep whole items h.1)
  nodes_keep whole (item.Spot s ∷ items) h = nodes_keep whole items h.1
  nodes_keep whole (item.Jump s ∷ items) h = nodes_keep whole items h.1
  nodes_keep whole (item.Copy block ∷ items) h =
      all_append (λ (n : BlockNode). P n.node) _ (nodes_from whole items)
      (edged_keep _ block.nodes h.0) (nodes_keep whole items h.1)

  infos_keep : (escape : ℕ) (ns : List BlockNode) → OfEach ns
      → AllByRecursion (λ (info : NodeInfo). P info.node) (map (info_of escape) ns)
  infos_keep escape [] h = h
  infos_keep escape (n ∷ ns) h = (h.0, infos_keep escape ns h.1)

  pub assembled_keeps : (whole : List Item) → AllByRecursion (OfNode P) whole
      → AllByRecursion (λ (info : NodeInfo). P info.node) (assembled whole)
  assembled_keeps whole h = infos_keep _ (nodes_from whole whole) (nodes_keep whole whole h)

-- ---- the block that lines come to

module _ (limits : Limits) where
  -- what lines are
  pub lines_in_range : (items : List Item) → AreSoundLines limits items → AllInRange limits items
  lines_in_range [] h = tt
  lines_in_range (item.Node node other handler place ∷ items) h = (h.0, lines_in_range items h.1)
  lines_in_range (item.Spot s ∷ items) h = (tt, lines_in_range items h.1)
  lines_in_range (item.Jump s ∷ items) h = (tt, lines_in_range items h.1)
  lines_in_range (item.Copy block ∷ items) h = (h.0.0, lines_in_range items h.1)

  pub copies_whole : (items : List Item) → AreSoundLines limits items → CopiesAreWhole items
  copies_whole [] h = tt
  copies_whole (item.Node node other handler place ∷ items) h = (tt, copies_whole items h.1)
  copies_whole (item.Spot s ∷ items) h = (tt, copies_whole items h.1)
  copies_whole (item.Jump s ∷ items) h = (tt, copies_whole items h.1)
  copies_whole (item.Copy block ∷ items) h = (h.0.1, copies_whole items h.1)

  pub block_sound : (items : List Item) → AreSoundLines limits items
      → IsSoundBlock limits (block_of items)
  block_sound items h = (
    nodes_keep (IsInRange limits) items items (lines_in_range items h),
    block_whole items (copies_whole items h),
  )

-- ---- the ways out

module _ (limits : Limits) (scene : Scene) (place : Place) where
  sound_with_scope : (kept : Option Reg) (saved : Reg) (l : Listing) → IsSound limits l
      → IsSound limits (with_scope scene place kept saved l)
  sound_with_scope None saved l s = s
  sound_with_scope (Some kept) saved l s = sound_move_to_scope scene place saved s

  sound_leave : (value : Option Reg) (w : Way) (v : Leaving) → IsSoundWay limits w
      → IsSound limits v.listing → IsSound limits (leave scene place value w v).listing
  sound_leave value (of_loop labels end turn) v h s = s
  sound_leave value (of_switch end) v h s = s
  sound_leave value (of_label label end) v h s = s
  sound_leave value (of_catch saved) v h s = s
  sound_leave value (of_finally saved t) v h s =
      sound_with_block limits t h.1 (copied_above value saved)
      (with_scope scene place v.kept saved v.listing) h.0
      (sound_with_scope v.kept saved v.listing s)

  sound_restored : (kept : Option Reg) (l : Listing) → IsSound limits l
      → IsSound limits (restored scene place kept l)
  sound_restored None l s = s
  sound_restored (Some kept) l s = sound_move_to_scope scene place kept s

  sound_arrive : (v : Leaving) (target : Spot) → IsSound limits v.listing
      → IsSound limits (arrive scene place v target)
  sound_arrive v target s = sound_with_jump target (sound_restored v.kept v.listing s)

  sound_arrive_or : (target : Option Spot) (v : Leaving) (on : Listing) → IsSound limits v.listing
      → IsSound limits on → IsSound limits (arrive_or target (arrive scene place v) on)
  sound_arrive_or None v on s t = t
  sound_arrive_or (Some spot) v on s t = sound_arrive v spot s

  pub sound_jump_to : (target : Way → Option Spot) (ws : List Way) (v : Leaving)
      → AllByRecursion (IsSoundWay limits) ws → IsSound limits v.listing
      → IsSound limits (jump_to scene place target ws v)
  unfolding jump_to
  sound_jump_to target [] v h s = s
  sound_jump_to target (w ∷ ws) v h s =
      sound_arrive_or (target w) v (jump_to scene place target ws (leave scene place None w v)) s
      (sound_jump_to target ws (leave scene place None w v) h.1 (sound_leave None w v h.0 s))

  pub sound_leave_all : (value : Reg) (ws : List Way) (v : Leaving)
      → AllByRecursion (IsSoundWay limits) ws → IsSound limits v.listing
      → IsSound limits (leave_all scene place value ws v)
  unfolding leave_all
  sound_leave_all value [] v h s = s
  sound_leave_all value (w ∷ ws) v h s =
      sound_leave_all value ws (leave scene place (Some value) w v) h.1
      (sound_leave (Some value) w v h.0 s)
