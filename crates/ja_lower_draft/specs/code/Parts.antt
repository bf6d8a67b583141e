-- The parts of a listing, and the lines for which they stand.
use Rattle.std.specs.Prelude.{ℕ, min, List, map}
use Rattle.ja_lower_listing.specs.declared.item.Block.{Block}
use Rattle.ja_lower_listing.specs.declared.item.Item.{Item}
use Rattle.ja_lower_listing.specs.declared.item.Item.TheVariants as item
use Rattle.ja_lower_listing.specs.Listing.{block_of, node_count}
use Rattle.ja_lower_draft.specs.declared.moves.Moves.{Moves}
use Rattle.ja_lower_draft.specs.declared.part.Part.{Part}
use Rattle.ja_lower_draft.specs.declared.part.Part.TheOpen.{Part-F}
use Rattle.ja_lower_draft.specs.declared.part.Part.TheFolds.{fold-Part}
use Rattle.ja_lower_draft.specs.Copies.{moved_block}

-- a copy of a block
abbrev pub moved_by : Moves → Block → Block
moved_by m block = moved_block m.temporary m.above m.by block

-- the line of one part, with the line of each part of its block in place of it
abbrev pub part_level : Part-F Item → Item
part_level (Part-F.Node node other handler place) = item.Node node other handler place
part_level (Part-F.Spot s) = item.Spot s
part_level (Part-F.Jump s) = item.Jump s
part_level (Part-F.Written block moves) = item.Copy (moved_by moves block.value)
part_level (Part-F.Copy parts moves) = item.Copy (moved_by moves (block_of parts.value))

-- the line of a part, and those of several
unfoldable pub line_of : Part → Item
line_of = fold-Part Item part_level

abbrev pub lines_of : List Part → List Item
lines_of parts = map line_of parts

-- how many nodes lines have, as a number of 32 bits: the last one stands for all above it
abbrev pub nodes_counted : List Item → ℕ
nodes_counted items = min (node_count items) 4294967295
