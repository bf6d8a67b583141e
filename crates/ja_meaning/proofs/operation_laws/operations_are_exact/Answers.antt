-- By the numbers of the operations: a constant is one atom, and has no label.
use Rattle.ja_meaning.proofs.Operations.{are_exact}
use Rattle.ja_meaning.proofs.operation_laws.operations_are_exact.Goals as goal

pub returns : goal.returns
returns c = are_exact
