use Rattle.std.proofs.Common.{◌≡◌, take}
use Rattle.ja_abstract.specs.Reading.{both}
use Rattle.ja_aheap.specs.Objects.{demands_in}
use Rattle.ja_astate.specs.code.Pairs.{demands_for}
use Rattle.ja_astate.proofs.readings.demand_each.Given as goal

abbrev pub invariant-loop-label : goal.invariant-loop-label
invariant-loop-label l =
    demands_in l.demands
    ≡ both (demands_in l.initial.demands) (demands_for l.key (take l.label-index l.labels))
