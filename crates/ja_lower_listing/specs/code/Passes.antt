-- What the pass over a listing keeps, and how its ways are followed.
use Rattle.std.specs.Prelude.{◌≡◌, ◌+◌, ◌-◌, ◌==◌, ℕ, zero, suc, Option, Some, None, unwrap_or, if◌then◌else◌, List, [], ◌∷◌, ◌++◌, length}
use Rattle.std.specs.Option.{option_or, option_map_or}
use Rattle.ja_lower_listing.specs.declared.item.Spot.{Spot}
use Rattle.ja_lower_listing.specs.declared.item.Target.{Target}
use Rattle.ja_lower_listing.specs.declared.item.Target.TheVariants as target
use Rattle.ja_lower_listing.specs.declared.item.Item.{Item}
use Rattle.ja_lower_listing.specs.declared.item.Item.TheVariants as item
use Rattle.ja_lower_listing.specs.declared.passes.Backward.{Backward}
use Rattle.ja_lower_listing.specs.declared.edges.Edges.{Edges}
use Rattle.ja_lower_listing.specs.Listing.{node_count, behind, led}
use Rattle.ja_lower_listing.specs.code.Spots.{target_of}

-- what a pass from the end of a listing knows of the lines that it has passed: where a run goes on
-- from their beginning, and from each spot among them
pub record Seen : Type 0 where
  pub here : Target
  pub at : ℕ → Option Target

-- where a jump leads, as far as it is known
abbrev pub known : Seen → Spot → Target
known seen s = unwrap_or (seen.at s.0) (target.Spot s)

unfoldable pub seen : List Item → List Item → Seen
seen whole [] = record { here = target.Behind; at = λ q. None }
seen whole (item.Node node other handler place ∷ items) =
    record {
      here = target.Node (node_count whole - suc (node_count items));
      at = (seen whole items).at;
    }
seen whole (item.Spot s ∷ items) =
    let passed = seen whole items in
    record {
      here = passed.here;
      at = λ q. option_or (passed.at q)
          (if s.0 == q then Some passed.here else None);
    }
seen whole (item.Jump s ∷ items) =
    let passed = seen whole items in record { here = known passed s; at = passed.at }
seen whole (item.Copy block ∷ items) =
    let passed = seen whole items in
    record {
      here = led (node_count whole - (length block.nodes + node_count items)) (known passed)
          passed.here block.entry;
      at = passed.at;
    }

-- where a run goes on behind each node and each copy at the end of a listing, the last one first
unfoldable pub ways_on : List Item → List Item → List Target
ways_on whole [] = []
ways_on whole (item.Node node other handler place ∷ items) =
    ways_on whole items ++ (seen whole items).here ∷ []
ways_on whole (item.Spot s ∷ items) = ways_on whole items
ways_on whole (item.Jump s ∷ items) = ways_on whole items
ways_on whole (item.Copy block ∷ items) = ways_on whole items ++ (seen whole items).here ∷ []

-- a spot is followed once, and several times
abbrev pub further : List Item → Target → Target
further whole (target.Spot s) = known (seen whole whole) s
further whole other = other

unfoldable pub after : List Item → ℕ → Target → Target
after whole zero t = t
after whole (suc turns) t = after whole turns (further whole t)

-- a spot that stands in the listing leads further: more jumps than the turns that were taken go
-- round
abbrev pub landed : List Item → Target → Target
landed whole (target.Spot s) =
    option_map_or (λ t. target.Out) ((seen whole whole).at s.0) (target.Spot s)
landed whole other = other

abbrev pub followed : List Item → Target → Target
followed whole t = landed whole (after whole (suc (length whole)) t)

-- items stand at the end of a listing, so that what is behind a spot in them is behind it in the
-- listing
abbrev pub IsEnd : List Item → List Item → Type 0
IsEnd whole items =
    (s : Spot) (rest : List Item) → behind s items ≡ Some rest → behind s whole ≡ Some rest

-- what a pass from the end of a listing has of the items that it has passed
pub record HasPassed (pass : Backward) (whole items : List Item) : Type 0 where
  pub before : pass.before + node_count items ≡ node_count whole
  pub here : pass.here ≡ (seen whole items).here
  pub at : (q : ℕ) → target_of pass.at q ≡ (seen whole items).at q
  pub ways : pass.ways.items ≡ ways_on whole items

-- where the edges of a listing lead
pub record AreEdges (edges : Edges) (whole : List Item) : Type 0 where
  pub turns : edges.turns ≡ suc (length whole)
  pub at : (q : ℕ) → target_of edges.at q ≡ (seen whole whole).at q
