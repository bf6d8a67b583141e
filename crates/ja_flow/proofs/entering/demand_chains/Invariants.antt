use Rattle.std.proofs.Common.{◌≡◌, take}
use Rattle.ja_abstract.specs.Made.{scope_key}
use Rattle.ja_abstract.specs.Reading.{both}
use Rattle.ja_abstract.specs.Resolved.{demands_of}
use Rattle.ja_aheap.specs.Objects.{demands_in}
use Rattle.ja_astate.specs.Looks.{view_of}
use Rattle.ja_astate.specs.code.Pairs.{demands_over}
use Rattle.ja_flow.proofs.entering.demand_chains.Given as goal

abbrev pub invariant-loop-label : goal.invariant-loop-label
invariant-loop-label l =
    demands_in l.demands ≡ both (demands_in l.initial.demands)
    (demands_over (take l.label-index l.members)
    (λ m. demands_of (view_of l.reader).state m scope_key))
