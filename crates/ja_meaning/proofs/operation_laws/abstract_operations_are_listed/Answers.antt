-- By the numbers of the operations.
use Rattle.std.proofs.Common.{refl}
use Rattle.ja_meaning.proofs.Operations.{take_values}
use Rattle.ja_meaning.proofs.operation_laws.abstract_operations_are_listed.Goals as goal

pub returns-clause-all : goal.returns-clause-all
returns-clause-all c = refl

pub returns-clause-take : goal.returns-clause-take
returns-clause-take c = take_values
