-- Lines come to the same with and without copies of blocks that do nothing.
use Rattle.std.proofs.Common.{◌≡◌, ◌+◌, ◌-◌, ◌≤◌, ◌==◌, ◌&&◌, not, cond, if◌then◌else◌, ℕ, zero, suc, Bool, true, false, true≢false, List, [], ◌∷◌, ◌++◌, length, map, Option, Some, None, refl, ap, sym, ◌∙◌, append_assoc, arith}
use Rattle.std.specs.List.{filter}
use Rattle.std.specs.Option.{option_map, option_or, option_map_or}
use Rattle.std.proofs.lemmas.List.{length-map}
use Rattle.std.proofs.lemmas.List.Elements.{filter-append}
use Rattle.std.proofs.Math.Dec.{eqb-suc-zero}
use Rattle.std.proofs.Math.Path.{fun_ext}
use Rattle.ja_base.specs.declared.ids.Place.{Place}
use Rattle.ja_base.specs.declared.ids.Reg.{Reg}
use Rattle.ja_graph.specs.declared.node.Node.{Node}
use Rattle.ja_graph.specs.Node.{may_throw}
use Rattle.ja_lower_listing.specs.declared.item.Block.{Block}
use Rattle.ja_lower_listing.specs.declared.item.BlockNode.{BlockNode}
use Rattle.ja_lower_listing.specs.declared.item.Spot.{Spot}
use Rattle.ja_lower_listing.specs.declared.item.Target.{Target}
use Rattle.ja_lower_listing.specs.declared.item.Target.TheVariants as target
use Rattle.ja_lower_listing.specs.declared.item.Item.{Item}
use Rattle.ja_lower_listing.specs.declared.item.Item.TheVariants as item
use Rattle.ja_lower_listing.specs.Listing.{node_count, behind, led, goes, leads, jump_of, way_on, edge, goes_on, with_edges, nodes_from, block_of, info_of, assembled}
use Rattle.ja_lower_listing.proofs.Jumps.{settled}
use Rattle.ja_lower_draft.specs.Copies.{Template, is_behind, does_nothing, with_block}
use Rattle.ja_lower_draft.specs.Laws.{in_copy, block_in_copy}
use Rattle.ja_lower_draft.specs.Lines.{Listing}
use Rattle.ja_lower_draft.proofs.CopyLemmas.{copy_alike, none_listed}

-- ---- a block that does nothing

abbrev nothing : Block
nothing = record { entry = target.Behind; nodes = [] }

no_nodes : (ns : List BlockNode) → (length ns == 0) ≡ true → ns ≡ []
no_nodes [] e = refl
no_nodes (n ∷ ns) e = absurd (true≢false (sym e ∙ eqb-suc-zero (length ns)))

is_nothing : (block : Block) → does_nothing block ≡ true → block ≡ nothing
is_nothing block e = at block.entry block.nodes e
  where
    at : (t : Target) (ns : List BlockNode) → (is_behind t && (length ns == 0)) ≡ true
        → record { entry = t; nodes = ns } ≡ nothing
    at target.Behind ns e =
        ap (λ (ns : List BlockNode). record { entry = target.Behind; nodes = ns }) (no_nodes ns e)
    at (target.Node n) ns e = absurd (cc)
    at (target.Spot s) ns e = absurd (cc)
    at target.Out ns e = absurd (cc)

-- ---- lines without such copies

abbrev does_something : Item → Bool
does_something (item.Copy block) = not (does_nothing block)
does_something other = true

abbrev others : List Item → List Item
others items = filter does_something items

count_others : (items : List Item) → node_count (others items) ≡ node_count items
unfolding node_count
count_others [] = refl
count_others (item.Node node other handler place ∷ items) = ap suc (count_others items)
count_others (item.Spot s ∷ items) = count_others items
count_others (item.Jump s ∷ items) = count_others items
count_others (item.Copy block ∷ items) = either (does_nothing block) refl (count_others items)
  where
    either : (b : Bool) → does_nothing block ≡ b → node_count (others items) ≡ node_count items
        → node_count (cond (not b) (item.Copy block ∷ others items) (others items))
        ≡ length block.nodes + node_count items
    either true e h =
        omega (arith, h, ap (λ (x : Block). length x.nodes) (is_nothing block e))
    either false e h = ap (λ n. length block.nodes + n) h

fewer : (items : List Item) → length (others items) ≤ length items
fewer [] = omega arith
fewer (x ∷ xs) = either (does_something x) (fewer xs)
  where
    either : (b : Bool) → length (others xs) ≤ length xs
        → length (cond b (x ∷ others xs) (others xs)) ≤ suc (length xs)
    either true h = omega (arith, h)
    either false h = omega (arith, h)

-- ---- where a run goes on

module _ (whole : List Item) (jump : Spot → Target) where
  goes_alike : (items : List Item) → goes whole jump items
      ≡ goes (others whole) jump (others items)
  unfolding goes
  goes_alike [] = refl
  goes_alike (item.Node node other handler place ∷ items) =
      ap (λ n. target.Node n) (omega (arith, count_others whole, count_others items))
  goes_alike (item.Spot s ∷ items) = goes_alike items
  goes_alike (item.Jump s ∷ items) = refl
  goes_alike (item.Copy block ∷ items) = either (does_nothing block) refl (goes_alike items)
    where
      either : (b : Bool) → does_nothing block ≡ b
          → goes whole jump items ≡ goes (others whole) jump (others items)
          → led (node_count whole - (length block.nodes + node_count items)) jump
          (goes whole jump items) block.entry
          ≡ goes (others whole) jump (cond (not b) (item.Copy block ∷ others items) (others items))
      either true e h =
          ap (λ (x : Block). led (node_count whole - (length x.nodes + node_count items)) jump
          (goes whole jump items) x.entry) (is_nothing block e) ∙ h
      either false e h =
          let first : node_count whole - (length block.nodes + node_count items)
          ≡ node_count (others whole) - (length block.nodes + node_count (others items)) =
          omega (arith, count_others whole, count_others items) in
          ap (λ t. led (node_count whole - (length block.nodes + node_count items)) jump t
          block.entry) h
          ∙ ap (λ n. led n jump (goes (others whole) jump (others items)) block.entry) first

behind_alike : (s : Spot) (items : List Item)
    → behind s (others items) ≡ option_map others (behind s items)
unfolding behind
behind_alike s [] = refl
behind_alike s (item.Node node other handler place ∷ items) = behind_alike s items
behind_alike s (item.Spot t ∷ items) =
    ap (λ o. option_or o (cond (t.0 == s.0) (Some (others items)) None)) (behind_alike s items)
    ∙ at (behind s items) (t.0 == s.0)
  where
    at : (o : Option (List Item)) (b : Bool)
        → option_or (option_map others o) (cond b (Some (others items)) None)
        ≡ option_map others (option_or o (cond b (Some items) None))
    at (Some xs) b = refl
    at None true = refl
    at None false = refl
behind_alike s (item.Jump t ∷ items) = behind_alike s items
behind_alike s (item.Copy block ∷ items) =
    either (does_nothing block) (behind_alike s items)
  where
    either : (b : Bool) → behind s (others items) ≡ option_map others (behind s items)
        → behind s (cond (not b) (item.Copy block ∷ others items) (others items))
        ≡ option_map others (behind s items)
    either true h = h
    either false h = h

leads_alike : (whole : List Item) (n : ℕ) (s : Spot)
    → leads whole n s ≡ leads (others whole) n s
unfolding leads
leads_alike whole zero s = refl
leads_alike whole (suc n) s =
    at (behind s whole) (leads_alike whole n)
    ∙ ap (λ o. option_map_or (goes (others whole) (leads (others whole) n)) o (target.Spot s))
    (sym (behind_alike s whole))
  where
    at : (o : Option (List Item)) → ((t : Spot) → leads whole n t ≡ leads (others whole) n t)
        → option_map_or (goes whole (leads whole n)) o (target.Spot s)
        ≡ option_map_or (goes (others whole) (leads (others whole) n)) (option_map others o)
        (target.Spot s)
    at None h = refl
    at (Some items) h =
        goes_alike whole (leads whole n) items
        ∙ ap (λ (f : Spot → Target). goes (others whole) f (others items)) (fun_ext h)

-- more jumps than a listing has lines lead no further
no_further : (whole : List Item) (k : ℕ) (s : Spot)
    → leads whole (k + suc (length whole)) s ≡ jump_of whole s
unfolding leads
no_further whole zero s =
    let none : 0 + suc (length whole) ≡ suc (length whole) = omega arith in
    ap (λ n. leads whole n s) none
no_further whole (suc k) s =
    let next : suc k + suc (length whole) ≡ suc (k + suc (length whole)) = omega arith in
    ap (λ n. leads whole n s) next
    ∙ (ap (λ (f : Spot → Target). option_map_or (goes whole f) (behind s whole) (target.Spot s))
    (fun_ext (no_further whole k)) ∙ sym (settled whole s))

module _ (whole : List Item) where
  jump_alike : (s : Spot) → jump_of whole s ≡ jump_of (others whole) s
  jump_alike s =
      let enough : suc (length whole)
      ≡ (length whole - length (others whole)) + suc (length (others whole)) =
      omega (arith, fewer whole) in
      leads_alike whole (suc (length whole)) s
      ∙ (ap (λ n. leads (others whole) n s) enough
      ∙ no_further (others whole) (length whole - length (others whole)) s)

  jumps_alike : jump_of whole ≡ jump_of (others whole)
  jumps_alike = fun_ext jump_alike

  way_alike : (items : List Item) → way_on whole items ≡ way_on (others whole) (others items)
  way_alike items =
      goes_alike whole (jump_of whole) items
      ∙ ap (λ (f : Spot → Target). goes (others whole) f (others items)) jumps_alike

  edge_alike : (o : Option Spot) → edge whole o ≡ edge (others whole) o
  edge_alike None = refl
  edge_alike (Some s) = jump_alike s

  -- ---- the nodes

  abbrev a_node : Node → Place → Target → Target → Target → BlockNode
  a_node node place way other handler = record {
    node = node;
    next = if goes_on node then way else target.Out;
    other = other;
    handler = if may_throw node then handler else target.Out;
    place = place;
    above = None;
  }

  abbrev copied : Block → ℕ → (Spot → Target) → Target → List BlockNode
  copied block first jump way = map (with_edges (led first jump way)) block.nodes

  nodes_alike : (items : List Item)
      → nodes_from whole items ≡ nodes_from (others whole) (others items)
  unfolding nodes_from
  nodes_alike [] = refl
  nodes_alike (item.Node node other handler place ∷ items) =
      ap (λ t. a_node node place t (edge whole other) (edge whole handler)
      ∷ nodes_from whole items) (way_alike items)
      ∙ (ap (λ t. a_node node place (way_on (others whole) (others items)) t (edge whole handler)
      ∷ nodes_from whole items) (edge_alike other)
      ∙ (ap (λ t. a_node node place (way_on (others whole) (others items))
      (edge (others whole) other) t ∷ nodes_from whole items) (edge_alike handler)
      ∙ ap (λ ns. a_node node place (way_on (others whole) (others items))
      (edge (others whole) other) (edge (others whole) handler) ∷ ns) (nodes_alike items)))
  nodes_alike (item.Spot s ∷ items) = nodes_alike items
  nodes_alike (item.Jump s ∷ items) = nodes_alike items
  nodes_alike (item.Copy block ∷ items) = either (does_nothing block) refl (nodes_alike items)
    where
      either : (b : Bool) → does_nothing block ≡ b
          → nodes_from whole items ≡ nodes_from (others whole) (others items)
          → copied block (node_count whole - (length block.nodes + node_count items))
          (jump_of whole) (way_on whole items) ++ nodes_from whole items
          ≡ nodes_from (others whole)
          (cond (not b) (item.Copy block ∷ others items) (others items))
      either true e h =
          ap (λ (x : Block). copied x (node_count whole - (length x.nodes + node_count items))
          (jump_of whole) (way_on whole items) ++ nodes_from whole items) (is_nothing block e) ∙ h
      either false e h =
          let first : node_count whole - (length block.nodes + node_count items)
          ≡ node_count (others whole) - (length block.nodes + node_count (others items)) =
          omega (arith, count_others whole, count_others items) in
          ap (λ n. copied block n (jump_of whole) (way_on whole items) ++ nodes_from whole items)
          first
          ∙ (ap (λ (f : Spot → Target). copied block
          (node_count (others whole) - (length block.nodes + node_count (others items))) f
          (way_on whole items) ++ nodes_from whole items) jumps_alike
          ∙ (ap (λ t. copied block
          (node_count (others whole) - (length block.nodes + node_count (others items)))
          (jump_of (others whole)) t ++ nodes_from whole items) (way_alike items)
          ∙ ap (λ ns. copied block
          (node_count (others whole) - (length block.nodes + node_count (others items)))
          (jump_of (others whole)) (way_on (others whole) (others items)) ++ ns) h))

  block_alike : block_of whole ≡ block_of (others whole)
  block_alike =
      ap (λ (t : Target). record { entry = t; nodes = nodes_from whole whole }) (way_alike whole)
      ∙ ap (λ (ns : List BlockNode). record
      { entry = way_on (others whole) (others whole); nodes = ns }) (nodes_alike whole)

  graph_alike : assembled whole ≡ assembled (others whole)
  graph_alike =
      ap (λ n. map (info_of (n - 1)) (nodes_from whole whole)) (sym (count_others whole))
      ∙ ap (λ ns. map (info_of (node_count (others whole) - 1)) ns) (nodes_alike whole)

-- ---- a block behind a listing, with and without its copy

module _ (t : Template) (above : Reg) (l : Listing) (more : List Item) where
  abbrev block : Block
  block = block_in_copy t.temporary above t.block

  nothing_in_copy : does_nothing t.block ≡ does_nothing block
  nothing_in_copy =
      ap (λ n. is_behind t.block.entry && (n == 0))
      (sym (length-map t.block.nodes (in_copy t.temporary above)))

  others_alike : others ((with_block t above l).items ++ more)
      ≡ others (l.items ++ item.Copy block ∷ more)
  others_alike = either (does_nothing t.block) refl
    where
      either : (b : Bool) → does_nothing t.block ≡ b
          → others ((with_block t above l).items ++ more)
          ≡ others (l.items ++ item.Copy block ∷ more)
      either true e =
          ap (λ (x : Listing). others (x.items ++ more)) (none_listed t above l e)
          ∙ (filter-append does_something l.items more
          ∙ (ap (λ b. others l.items ++ cond (not b) (item.Copy block ∷ others more) (others more))
          (sym (sym nothing_in_copy ∙ e))
          ∙ sym (filter-append does_something l.items (item.Copy block ∷ more))))
      either false e =
          ap (λ items. others (items ++ more)) (copy_alike t above l e)
          ∙ ap others (append_assoc l.items (item.Copy block ∷ []) more)

  pub block_as_copied : block_of ((with_block t above l).items ++ more)
      ≡ block_of (l.items ++ item.Copy block ∷ more)
  block_as_copied =
      block_alike ((with_block t above l).items ++ more)
      ∙ (ap block_of others_alike ∙ sym (block_alike (l.items ++ item.Copy block ∷ more)))

  pub graph_as_copied : assembled ((with_block t above l).items ++ more)
      ≡ assembled (l.items ++ item.Copy block ∷ more)
  graph_as_copied =
      graph_alike ((with_block t above l).items ++ more)
      ∙ (ap assembled others_alike ∙ sym (graph_alike (l.items ++ item.Copy block ∷ more)))
