use Rattle.std.proofs.Common.{◌≡◌, take}
use Rattle.ja_aheap.specs.Objects.{demands_in}
use Rattle.ja_astate.specs.Looks.{view_of}
use Rattle.ja_flow.specs.code.Pairs.{demands_at_pairs}
use Rattle.ja_flow.proofs.filling.demand_pairs.Given as goal

abbrev pub invariant-loop-pair : goal.invariant-loop-pair
invariant-loop-pair l =
    demands_in l.demands
    ≡ demands_at_pairs (view_of l.reader).state (take l.pair-index l.pairs)
