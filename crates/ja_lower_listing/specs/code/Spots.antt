-- Where a run goes on from spots, as the pass over a listing keeps it.
use Rattle.std.specs.Prelude.{ℕ, Option}
use Rattle.std.specs.Ordering.{nat_cmp}
use Rattle.std.specs.BTreeMap.{get}
use Rattle.ja_lower_listing.specs.declared.item.Target.{Target}
use Rattle.ja_lower_listing.specs.declared.spots.Spots.{Spots}

-- where a run goes on from a spot, if that is known
abbrev pub target_of : Spots → ℕ → Option Target
target_of spots q = get nat_cmp spots.known q
