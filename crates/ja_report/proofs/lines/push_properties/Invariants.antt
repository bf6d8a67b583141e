use Rattle.std.proofs.Common.{◌-◌, ◌≤◌}
use Rattle.ja_astate.specs.State.{state_of}
use Rattle.ja_report.specs.code.Output.{Adds}
use Rattle.ja_report.proofs.ObjectLemmas.{label_front}
use Rattle.ja_report.proofs.lines.push_properties.Given as goal

abbrev pub decreases-sites : goal.decreases-sites
decreases-sites l = l.sites - l.site

abbrev pub invariant-sites : goal.invariant-sites
invariant-sites l =
    (l.site ≤ l.sites)
    × Adds l.program (label_front l.program (state_of l.state).property l.site) l.initial.out l.out
