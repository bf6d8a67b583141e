-- What is kept of the lines of a listing.
use Rattle.std.specs.Prelude.{◌≡◌, ℕ, ◌≤◌, Bool, List, ◌++◌, Option, unwrap_or}
use Rattle.ja_lower_listing.specs.declared.item.Item.{Item}
use Rattle.ja_lower_listing.specs.Listing.{begins_with_node}
use Rattle.ja_lower_draft.specs.declared.part.Part.{Part}
use Rattle.ja_lower_draft.specs.code.Parts as parts

-- How many nodes lines have, whether the first one that is no spot is a node, if there is one, and,
-- unless there are more nodes than in any graph, the part of each line.
pub record IsKept (items : List Item) (nodes : ℕ) (first : Option Bool) (kept : List Part) : Type
    0 where
  pub counted : nodes ≡ parts.nodes_counted items
  pub begins : (more : List Item) → begins_with_node (items ++ more)
      ≡ unwrap_or first (begins_with_node more)
  pub parts : nodes ≤ 65536 → parts.lines_of kept ≡ items
