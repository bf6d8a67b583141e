use Rattle.std.proofs.Common.{ℕ, ◌+◌, ◌≤◌, drop, length, reverse, take}
use Rattle.ja_search.specs.code.Search.{IsMet}
use Rattle.ja_search.proofs.FoundPlaces.{IsNotAt, end_of}
use Rattle.ja_search.proofs.search.last_in.Given as goal

abbrev pub invariant-places : goal.invariant-places
invariant-places l =
    let end = end_of l.mark l.units l.fn.from in
    record {
      within : l.place ≤ end;
      met : IsMet (reverse l.mark) (reverse (drop l.place (take end l.units))) l.met;
      none : (p : ℕ) → l.place ≤ p → p + length l.mark ≤ end → IsNotAt l.mark l.units p;
    }

abbrev pub decreases-places : goal.decreases-places
decreases-places l = l.place
