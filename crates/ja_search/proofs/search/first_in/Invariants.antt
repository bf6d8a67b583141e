use Rattle.std.proofs.Common.{ℕ, ◌+◌, ◌≤◌, drop, length, take}
use Rattle.ja_search.specs.code.Search.{IsMet}
use Rattle.ja_search.proofs.FoundPlaces.{IsNotAt}
use Rattle.ja_search.proofs.search.first_in.Given as goal

abbrev pub invariant-units : goal.invariant-units
invariant-units l = record {
  met : IsMet l.mark (take l.i (drop l.fn.from l.fn.units)) l.met;
  none : (p : ℕ) → p + length l.mark ≤ l.i → IsNotAt l.mark (drop l.fn.from l.fn.units) p;
}
