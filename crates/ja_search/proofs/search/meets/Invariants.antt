use Rattle.std.proofs.Common.{ℕ, List, ◌≤◌}
use Rattle.ja_search.specs.code.Search.{IsMet}
use Rattle.ja_search.proofs.Searching.{IsCandidate}
use Rattle.ja_search.proofs.search.meets.Given as goal

abbrev pub invariant-counts : goal.invariant-counts
invariant-counts l = record {
  within : l.count ≤ l.met;
  candidate : (read : List ℕ) → IsMet l.mark read l.met → IsCandidate l.mark read l.unit l.count;
}

abbrev pub decreases-counts : goal.decreases-counts
decreases-counts l = l.count
