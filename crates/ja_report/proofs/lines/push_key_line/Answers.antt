use Rattle.ja_report.proofs.ObjectLemmas.{property_unkept}
use Rattle.ja_report.proofs.lines.push_key_line.Goals as goal

pub returns-in_default : goal.returns-in_default
returns-in_default c = property_unkept _ _ _ _ _ c.in_default.ensures
