-- By where each fault stands.
use Rattle.ja_lint_devices.proofs.Once.{refused_once}
use Rattle.ja_lint_devices.proofs.laws.refused_once.Goals as goal

pub returns : goal.returns
returns c = λ values a b p q x y. refused_once values a b p q x y
