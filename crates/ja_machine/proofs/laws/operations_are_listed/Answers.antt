use Rattle.std.proofs.Common.{refl}
use Rattle.ja_machine.proofs.Operations.{operations_take}
use Rattle.ja_machine.proofs.laws.operations_are_listed.Goals as goal

pub returns : goal.returns
returns c = record { names = refl; counts = refl; takes = operations_take }
