use Rattle.std.proofs.Common.{◌≡◌, take}
use Rattle.ja_base.specs.declared.ids.Label.{Label}
use Rattle.ja_abstract.specs.Made.{value_key}
use Rattle.ja_abstract.specs.Resolved.{demands_of}
use Rattle.ja_aheap.specs.Objects.{demands_in}
use Rattle.ja_astate.specs.Looks.{view_of}
use Rattle.ja_astate.specs.code.Pairs.{demands_over}
use Rattle.ja_functions.proofs.internals.demand_held.Given as goal

abbrev pub invariant-loop-label : goal.invariant-loop-label
invariant-loop-label l =
    demands_in l.demands ≡ demands_over (take l.label-index l.members)
    (λ (m : Label). demands_of (view_of l.reader).state m value_key)
