use Rattle.std.proofs.Common.{◌≡◌, take}
use Rattle.ja_base.specs.declared.ids.Label.{Label}
use Rattle.ja_abstract.specs.Reading.{demands_of_own}
use Rattle.ja_aheap.specs.Objects.{demands_in}
use Rattle.ja_transfer.specs.Outcomes.{at_view}
use Rattle.ja_transfer.specs.code.Members.{demands_over}
use Rattle.ja_transfer.proofs.stepper.Stepper.demand_target.Given as goal

abbrev pub invariant-loop-label : goal.invariant-loop-label
invariant-loop-label l =
    demands_in l.demands ≡ demands_over (take l.label-index l.label-items)
    (λ (x : Label). demands_of_own (at_view l.self) x l.keys)
