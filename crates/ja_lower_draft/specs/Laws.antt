-- What a copy of a block is: its nodes, with temporaries of their own.
use Rattle.std.specs.Prelude.{ℕ, ◌+◌, ◌-◌, Bool, true, if◌then◌else◌, nat_le, map, Option, Some, None}
use Rattle.ja_base.specs.declared.ids.Reg.{Reg}
use Rattle.ja_graph.specs.declared.node.Node.{Node}
use Rattle.ja_graph.specs.Renaming.{renamed}
use Rattle.ja_lower_listing.specs.declared.item.Block.{Block}
use Rattle.ja_lower_listing.specs.declared.item.BlockNode.{BlockNode}

-- a node whose registers from a first one on are moved up by so many
abbrev pub moved_up : ℕ → ℕ → Node → Node
moved_up first by node =
    renamed (record {
      register = λ r. if nat_le first r.0 then record { 0 = r.0 + by } else r;
      name = λ n. n;
      function = λ f. f;
      site = λ s. s;
    }) node

-- whether a node of a block whose temporaries begin at a register has some of these: it stands in
-- no copy, or in one above such a temporary
abbrev pub has_temporaries : ℕ → Option Reg → Bool
has_temporaries temporary None = true
has_temporaries temporary (Some inner) = nat_le temporary inner.0

-- A node of a block in a copy above a register: the temporaries of the block are moved up, the
-- first one to behind the register. Its edges and its place are as they were, and so is all of a
-- node without such temporaries.
abbrev pub in_copy : ℕ → Reg → BlockNode → BlockNode
in_copy temporary above n =
    if has_temporaries temporary n.above
    then record n { node = moved_up temporary (above.0 + 1 - temporary) n.node; above = Some above }
    else n

-- a block in a copy: it is entered where it was
abbrev pub block_in_copy : ℕ → Reg → Block → Block
block_in_copy temporary above block =
    record block { nodes = map (in_copy temporary above) block.nodes }
