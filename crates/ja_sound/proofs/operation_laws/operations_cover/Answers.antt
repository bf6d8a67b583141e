-- By the numbers of the operations, as proved in OperationRows.
use Rattle.ja_sound.proofs.OperationLists.{operations_cover}
use Rattle.ja_sound.proofs.operation_laws.operations_cover.Goals as goal

pub returns : goal.returns
returns c = operations_cover
