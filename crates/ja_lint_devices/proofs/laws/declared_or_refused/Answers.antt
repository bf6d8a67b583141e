-- By what refuses them.
use Rattle.ja_lint_devices.proofs.Examples.{one_or_other}
use Rattle.ja_lint_devices.proofs.laws.declared_or_refused.Goals as goal

pub returns : goal.returns
returns c = λ values all why are. one_or_other values all why are
