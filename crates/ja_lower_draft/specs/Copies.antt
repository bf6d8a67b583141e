-- Copies of the block of a `finally` (ES3 12.14).
use Rattle.std.specs.Prelude.{ℕ, ◌+◌, ◌-◌, ◌==◌, Bool, true, false, ◌&&◌, if◌then◌else◌, nat_le, length, map, Option, Some, None}
use Rattle.ja_base.specs.declared.ids.Reg.{Reg}
use Rattle.ja_graph.specs.Renaming.{Renaming, renamed}
use Rattle.ja_lower_listing.specs.declared.item.Block.{Block}
use Rattle.ja_lower_listing.specs.declared.item.BlockNode.{BlockNode}
use Rattle.ja_lower_listing.specs.declared.item.Item.TheVariants as item
use Rattle.ja_lower_listing.specs.declared.item.Target.{Target}
use Rattle.ja_lower_listing.specs.declared.item.Target.TheVariants as target
use Rattle.ja_lower_draft.specs.Lines.{Listing, with_item}

-- The block of a `finally`, and where its temporaries begin: it is copied on each way out.
pub record Template : Type 0 where
  pub block : Block
  pub temporary : ℕ

-- the temporaries of the block are moved up; the registers below them are those of what is around
-- it
abbrev pub moved_register : ℕ → ℕ → Reg → Reg
moved_register first by r = if nat_le first r.0 then record { 0 = r.0 + by } else r

abbrev pub moving : ℕ → ℕ → Renaming
moving first by =
    record { register = moved_register first by; name = λ n. n; function = λ f. f; site = λ s. s }

-- A block whose temporaries begin at a register may have copies of other blocks in it. One that
-- stands above a temporary of the block moves as that does; one that a jump took above the register
-- of a `try` around the block stays where it is.
abbrev pub moves_with : ℕ → Option Reg → Bool
moves_with first None = true
moves_with first (Some inner) = nat_le first inner.0

-- a node of a copy above a register, whose temporaries are moved up by so many
abbrev pub moved_node : ℕ → Reg → ℕ → BlockNode → BlockNode
moved_node first above by n =
    let moves = moves_with first n.above in
    record n {
      node = renamed (moving first (if moves then by else 0)) n.node;
      above = if moves
          then Some above else n.above;
    }

abbrev pub moved_block : ℕ → Reg → ℕ → Block → Block
moved_block first above by b = record b { nodes = map (moved_node first above by) b.nodes }

-- a copy behind a listing, whose temporaries begin behind a register
abbrev pub with_copy_of : Template → Reg → Listing → Listing
with_copy_of t above l =
    with_item l (item.Copy (moved_block t.temporary above (above.0 + 1 - t.temporary) t.block))

-- a block that does nothing: it has no nodes, and what comes to it goes on behind it
abbrev pub is_behind : Target → Bool
is_behind target.Behind = true
is_behind other = false

abbrev pub does_nothing : Block → Bool
does_nothing block = is_behind block.entry && (length block.nodes == 0)

-- A block is copied, unless it does nothing.
unfoldable pub with_block : Template → Reg → Listing → Listing
with_block t above l = if does_nothing t.block then l else with_copy_of t above l
