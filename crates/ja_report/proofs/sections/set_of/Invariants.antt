use Rattle.std.proofs.Common.{take}
use Rattle.ja_report.proofs.SiteLemmas.{Has}
use Rattle.ja_report.proofs.sections.set_of.Given as goal

abbrev pub invariant-loop-number : goal.invariant-loop-number
invariant-loop-number l = Has l.set (take l.number-index l.numbers)
