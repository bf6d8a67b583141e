-- A constant is one atom, and has no label, as proved in ExactOperators.
use Rattle.ja_meaning.proofs.operator_laws.operators_are_exact.Goals as goal
use Rattle.ja_meaning.proofs.ExactOperators.{unary_exact, binary_exact}

pub returns-clause-unary : goal.returns-clause-unary
returns-clause-unary c = unary_exact

pub returns-clause-binary : goal.returns-clause-binary
returns-clause-binary c = binary_exact
