-- How the lines of a listing come about.
use Rattle.std.specs.Prelude.{List, [], ◌∷◌, ◌++◌}
use Rattle.ja_lower_listing.specs.declared.item.Item.{Item}
use Rattle.ja_lower_listing.specs.declared.item.Item.TheVariants as item
use Rattle.ja_lower_listing.specs.Listing.{block_of}
use Rattle.ja_lower_draft.specs.declared.listed.Growth.{Growth}
use Rattle.ja_lower_draft.specs.declared.listed.Growth.TheVariants as growth
use Rattle.ja_lower_draft.specs.code.Parts.{line_of, moved_by}

abbrev pub grown_lines : Growth → List Item
grown_lines growth.Nothing = []
grown_lines (growth.With listed part) = listed.now.lines ++ line_of part.now ∷ []
grown_lines (growth.WithCopy listed block moves) =
    listed.now.lines ++ item.Copy (moved_by moves (block_of block.now.lines)) ∷ []
grown_lines (growth.Both listed behind) = listed.now.lines ++ behind.now.lines
