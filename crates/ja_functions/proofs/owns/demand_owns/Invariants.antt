use Rattle.std.proofs.Common.{◌≡◌, take}
use Rattle.ja_base.specs.declared.ids.Label.{Label}
use Rattle.ja_abstract.specs.Reading.{demands_of_own}
use Rattle.ja_aheap.specs.Objects.{demands_in}
use Rattle.ja_astate.specs.Looks.{view_of}
use Rattle.ja_astate.specs.code.Pairs.{demands_over}
use Rattle.ja_functions.proofs.owns.demand_owns.Given as goal

abbrev pub invariant-loop-label : goal.invariant-loop-label
invariant-loop-label l =
    demands_in l.demands ≡ demands_over (take l.label-index l.members)
    (λ (m : Label). demands_of_own (view_of l.reader) m l.keys)
