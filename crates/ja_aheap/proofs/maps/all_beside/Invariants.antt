use Rattle.std.proofs.Common.{true}
use Rattle.ja_aheap.specs.code.Maps.{GivesOfBoth}
use Rattle.ja_aheap.proofs.MapLemmas.{PassingBoth}
use Rattle.ja_aheap.proofs.maps.all_beside.Given as goal

abbrev pub invariant-loop-number : goal.invariant-loop-number
invariant-loop-number g l =
    PassingBoth (λ v w. GivesOfBoth g.F.Fn l.test v w true) l.map.entries l.others.entries
    l.number-iterator l.beside
