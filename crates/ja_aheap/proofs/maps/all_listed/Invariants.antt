use Rattle.std.proofs.Common.{true}
use Rattle.ja_aheap.specs.code.Maps.{GivesAt}
use Rattle.ja_aheap.proofs.MapLemmas.{AtEach, Passing}
use Rattle.ja_aheap.proofs.maps.all_listed.Given as goal

abbrev pub invariant-loop-number : goal.invariant-loop-number
invariant-loop-number g l = record {
  passing : Passing l.map.entries l.number-iterator;
  each : AtEach (λ q v. GivesAt g.F.Fn l.test q v true) l.number-iterator
      → AtEach (λ q v. GivesAt g.F.Fn l.test q v true) l.map.entries;
}
