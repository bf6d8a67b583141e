use Rattle.std.proofs.Common.{rules, arith}
use Rattle.std.proofs.lemmas.Grind.{common_steps}
use Rattle.ja_report.proofs.PartLemmas.{closed_none, closed_some}
use Rattle.ja_report.proofs.values.close_parts.Goals as goal

pub returns-in_ok-extend_from_slice : goal.returns-in_ok-extend_from_slice
returns-in_ok-extend_from_slice c base parts size was =
    closed_none base _ c.args.text.now.items parts was (grind (arith, common_steps)) (search rules)

pub returns-else-len-start : goal.returns-else-len-start
returns-else-len-start c base parts size was =
    closed_some base _ c.args.text.now.items parts was (λ same. grind (arith, common_steps))
    (grind (arith, common_steps))
