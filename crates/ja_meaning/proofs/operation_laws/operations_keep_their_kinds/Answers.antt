-- By the numbers of the operations, as proved in Operations.
use Rattle.ja_meaning.proofs.Operations.{results_are_of_kinds, give_no_other_kind}
use Rattle.ja_meaning.proofs.operation_laws.operations_keep_their_kinds.Goals as goal

pub returns-clause-results : goal.returns-clause-results
returns-clause-results c = results_are_of_kinds

pub returns-clause-given : goal.returns-clause-given
returns-clause-given c = give_no_other_kind
