use Rattle.std.proofs.Common.{arith}
use Rattle.ja_report.proofs.SiteLemmas.{sites_all}
use Rattle.ja_report.proofs.sections.named_sites.Goals as goal

pub returns : goal.returns
returns c =
    sites_all c.args.program.now c.args.named.now c.loop-number.number _ c.loop-number.invariant
    (omega arith)
