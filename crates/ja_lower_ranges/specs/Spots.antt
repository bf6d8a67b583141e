-- The spots of a listing: where they stand, and which lines lead to them.
use Rattle.std.specs.Prelude.{◌≡◌, ◌≤◌, ◌+◌, ◌==◌, ℕ, if◌then◌else◌, List, [], ◌∷◌, Option, Some, None}
use Rattle.std.specs.List.{AllByRecursion}
use Rattle.ja_lower_listing.specs.declared.item.Block.{Block}
use Rattle.ja_lower_listing.specs.declared.item.BlockNode.{BlockNode}
use Rattle.ja_lower_listing.specs.declared.item.Spot.{Spot}
use Rattle.ja_lower_listing.specs.declared.item.Target.{Target}
use Rattle.ja_lower_listing.specs.declared.item.Target.TheVariants as target
use Rattle.ja_lower_listing.specs.declared.item.Item.{Item}
use Rattle.ja_lower_listing.specs.declared.item.Item.TheVariants as item

-- 1 for the same number, 0 for another one
abbrev pub same : ℕ → ℕ → ℕ
same n i = if n == i then 1 else 0

-- how often the spot of a number stands in lines
unfoldable pub times : ℕ → List Item → ℕ
times i [] = 0
times i (item.Node node other handler place ∷ items) = times i items
times i (item.Spot s ∷ items) = same s.0 i + times i items
times i (item.Jump s ∷ items) = times i items
times i (item.Copy block ∷ items) = times i items

-- what holds of a spot, if there is one
abbrev pub OfSpot : (Spot → Type 0) → Option Spot → Type 0
OfSpot P None = Unit {0}
OfSpot P (Some s) = P s

-- what holds of the spots around a block to which it leads
abbrev pub OfTarget : (Spot → Type 0) → Target → Type 0
OfTarget P (target.Spot s) = P s
OfTarget P other = Unit {0}

abbrev pub OfTargets : (Spot → Type 0) → BlockNode → Type 0
OfTargets P n = OfTarget P n.next × OfTarget P n.other × OfTarget P n.handler

abbrev pub OfBlock : (Spot → Type 0) → Block → Type 0
OfBlock P block = OfTarget P block.entry × AllByRecursion (OfTargets P) block.nodes

-- what holds of each spot to which a line leads, by an edge of its node, by its jump, or by its
-- copy of a block
abbrev pub OfEdges : (Spot → Type 0) → Item → Type 0
OfEdges P (item.Node node other handler place) = OfSpot P other × OfSpot P handler
OfEdges P (item.Spot s) = Unit {0}
OfEdges P (item.Jump s) = P s
OfEdges P (item.Copy block) = OfBlock P block

-- Each spot to which a line leads stands in the listing, and only once. No spot stands twice.
pub record HasItsSpots (whole : List Item) : Type 0 where
  pub stand : AllByRecursion (OfEdges (λ s. times s.0 whole ≡ 1)) whole
  pub once : (s : Spot) → times s.0 whole ≤ 1
