-- Computed.
use Rattle.ja_lint_devices.proofs.Examples.{both, usual}
use Rattle.ja_lint_devices.proofs.laws.examples_of_values.Goals as goal

pub returns-clause-both : goal.returns-clause-both
returns-clause-both c = both

pub returns-clause-usual : goal.returns-clause-usual
returns-clause-usual c = usual
