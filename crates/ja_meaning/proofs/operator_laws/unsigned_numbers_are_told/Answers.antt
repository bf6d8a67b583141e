-- By the atoms of the value.
use Rattle.ja_meaning.proofs.OperatorCases.{is_unsigned}
use Rattle.ja_meaning.proofs.operator_laws.unsigned_numbers_are_told.Goals as goal

pub returns : goal.returns
returns c = is_unsigned
