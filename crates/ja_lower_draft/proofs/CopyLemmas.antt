-- The nodes of a copy.
use Rattle.std.proofs.Common.{◌≡◌, ◌<◌, ◌+◌, ◌-◌, ◌==◌, ℕ, zero, suc, nat_le, Bool, true, false, ◌&&◌, if◌then◌else◌, List, [], ◌∷◌, ◌++◌, length, map, Some, refl, ap, ◌∙◌, arith}
use Rattle.std.proofs.Math.Dec.{eqb-suc-zero}
use Rattle.std.proofs.Math.Path.{fun_ext}
use Rattle.ja_base.specs.declared.ids.Reg.{Reg}
use Rattle.ja_graph.specs.declared.node.Node.{Node}
use Rattle.ja_graph.specs.Renaming.{renamed}
use Rattle.ja_graph.proofs.RenamingLemmas.{identity_keeps}
use Rattle.ja_lower_listing.specs.declared.item.Block.{Block}
use Rattle.ja_lower_listing.specs.declared.item.BlockNode.{BlockNode}
use Rattle.ja_lower_listing.specs.declared.item.Item.TheVariants as item
use Rattle.ja_lower_draft.specs.Copies.{Template, moved_register, moving, moves_with, moved_node, with_copy_of, is_behind, does_nothing, with_block}
use Rattle.ja_lower_draft.specs.Laws.{moved_up, in_copy, block_in_copy}
use Rattle.ja_lower_draft.specs.Lines.{Listing}

-- ---- a node whose registers are moved by nothing stays

not_moved : (first : ℕ) (r : Reg) → moved_register first 0 r ≡ r
not_moved first r = either (nat_le first r.0)
  where
    either : (b : Bool) → (if b then record { 0 = r.0 + 0 } else r) ≡ r
    either true = ap (λ (n : ℕ). record { 0 = n }) (omega arith)
    either false = refl

node_stays : (first : ℕ) (n : Node) → renamed (moving first 0) n ≡ n
node_stays first n =
    ap (λ (f : Reg → Reg). renamed (record {
      register = f;
      name = λ x. x;
      function = λ x. x;
      site = λ x. x;
    }) n) (fun_ext (not_moved first)) ∙ identity_keeps n

-- ---- the nodes of a copy

module _ (first : ℕ) (above : Reg) where
  abbrev by : ℕ
  by = above.0 + 1 - first

  -- with or without temporaries of the block
  node_moved : (n : BlockNode) (b : Bool) → record n {
    node = renamed (moving first (if b then by else 0)) n.node;
    above = if b then Some above
        else n.above;
  } ≡ (if b then record n { node = moved_up first by n.node; above = Some above }
      else n)
  node_moved n true = refl
  node_moved n false = ap (λ (m : Node). record n { node = m }) (node_stays first n.node)

  nodes_moved : (ns : List BlockNode) → map (moved_node first above by) ns
      ≡ map (in_copy first above) ns
  nodes_moved [] = refl
  nodes_moved (n ∷ ns) =
      ap (λ m. m ∷ map (moved_node first above by) ns) (node_moved n (moves_with first n.above))
      ∙ ap (λ ms. in_copy first above n ∷ ms) (nodes_moved ns)

-- ---- what is listed of a block

module _ (t : Template) (above : Reg) (l : Listing) where
  -- what holds of a listing and of one with the copy holds of one with the block
  pub with_or_without : (P : Listing → Type 0) → P l → P (with_copy_of t above l)
      → P (with_block t above l)
  unfolding with_block
  with_or_without P without copied = either (does_nothing t.block)
    where
      either : (b : Bool) → P (if b then l else with_copy_of t above l)
      either true = without
      either false = copied

  pub none_listed : does_nothing t.block ≡ true → with_block t above l ≡ l
  unfolding with_block
  none_listed e = ap (λ b. if b then l else with_copy_of t above l) e

  pub copy_alike : does_nothing t.block ≡ false → (with_block t above l).items
      ≡ l.items ++ item.Copy (block_in_copy t.temporary above t.block) ∷ []
  unfolding with_block
  copy_alike e =
      ap (λ b. (if b then l else with_copy_of t above l).items) e
      ∙ ap (λ ns. l.items ++ item.Copy (record t.block { nodes = ns }) ∷ [])
      (nodes_moved t.temporary above t.block.nodes)

-- a block with nodes does something
pub does_something : (block : Block) → 0 < length block.nodes → does_nothing block ≡ false
does_something block some = at (is_behind block.entry) (length block.nodes) some
  where
    at : (b : Bool) (n : ℕ) → 0 < n → (b && (n == 0)) ≡ false
    at b zero h = absurd (omega (arith, h))
    at true (suc n) h = eqb-suc-zero n
    at false (suc n) h = refl
