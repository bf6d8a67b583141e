-- By the atoms of values and by their labels, as proved in Operators.
use Rattle.ja_meaning.proofs.operator_laws.operators_cover.Goals as goal
use Rattle.ja_meaning.proofs.OperatorCases.{unary_covered, binary_covered, unary_stops, binary_stops}

pub returns-clause-unary : goal.returns-clause-unary
returns-clause-unary c = unary_covered

pub returns-clause-binary : goal.returns-clause-binary
returns-clause-binary c = binary_covered

pub returns-clause-unary_stops : goal.returns-clause-unary_stops
returns-clause-unary_stops c = unary_stops

pub returns-clause-binary_stops : goal.returns-clause-binary_stops
returns-clause-binary_stops c = binary_stops
