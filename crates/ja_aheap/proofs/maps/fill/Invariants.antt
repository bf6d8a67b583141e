use Rattle.std.specs.declared.result.Result.TheVariants.{Ok}
use Rattle.ja_aheap.specs.code.Maps.{GivesAt}
use Rattle.ja_aheap.proofs.MapLemmas.{Filling}
use Rattle.ja_aheap.proofs.maps.fill.Given as goal

abbrev pub invariant-loop-number : goal.invariant-loop-number
invariant-loop-number g l =
    Filling (λ q v w. GivesAt g.F.Fn l.make q v (Ok w)) l.initial.into l.into l.from.entries
    l.number-iterator
