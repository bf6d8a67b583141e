-- The block that the copies of a template share.
use Rattle.std.specs.Prelude.{◌≡◌, ℕ, ◌<◌, min, length}
use Rattle.ja_lower_listing.specs.declared.item.Block.{Block}
use Rattle.ja_lower_listing.specs.Listing.{block_of}
use Rattle.ja_lower_draft.specs.declared.template.Source.{Source}
use Rattle.ja_lower_draft.specs.declared.template.Source.TheVariants as source
use Rattle.ja_lower_draft.specs.code.Parts.{lines_of}

abbrev pub source_block : Source → Block
source_block (source.Written block) = block.value
source_block (source.Parts parts) = block_of (lines_of parts.value)
source_block (source.TooLong listed) = block_of listed.lines

-- whether a block is as long as a source says that it is: it is written out, or it has nodes
abbrev pub IsAsLong : Source → ℕ → Type 0
IsAsLong (source.Written block) nodes = Unit {0}
IsAsLong (source.Parts parts) nodes = 0 < nodes
IsAsLong (source.TooLong listed) nodes = 65536 < nodes

-- how many nodes a block has, as a number of 32 bits: the last one stands for all above it
pub record IsSource (s : Source) (nodes : ℕ) : Type 0 where
  pub counted : nodes ≡ min (length (source_block s).nodes) 4294967295
  pub long : IsAsLong s nodes
