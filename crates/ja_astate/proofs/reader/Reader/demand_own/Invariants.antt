use Rattle.std.proofs.Common.{◌≡◌, take}
use Rattle.ja_abstract.specs.Reading.{both, demands_of_own}
use Rattle.ja_aheap.specs.Objects.{demands_in}
use Rattle.ja_astate.specs.Looks.{view_of}
use Rattle.ja_astate.proofs.reader.Reader.demand_own.Given as goal

abbrev pub invariant-loop-key : goal.invariant-loop-key
invariant-loop-key l =
    demands_in l.demands ≡ both (demands_in l.initial.demands)
    (demands_of_own (view_of l.self) l.label (take l.key-index l.keys))
