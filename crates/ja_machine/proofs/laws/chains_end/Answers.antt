-- A link leads to an object of lower rank.
use Rattle.ja_machine.proofs.laws.chains_end.Goals as goal
use Rattle.ja_machine.proofs.States.{chains_end}

pub returns : goal.returns
returns c = λ p good. chains_end p good
