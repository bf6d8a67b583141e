use Rattle.std.proofs.Common.{◌≡◌}
use Rattle.ja_report.proofs.SiteLemmas.{first_sites}
use Rattle.ja_report.proofs.sections.named_sites.Given as goal

abbrev pub invariant-loop-number : goal.invariant-loop-number
invariant-loop-number l = l.sites.items ≡ first_sites l.program l.named l.number
