-- By the kind of the node: the frame stands at one, and its callers wait.
use Rattle.ja_machine.proofs.laws.never_stuck.Goals as goal
use Rattle.ja_machine.proofs.States.{never_stuck}

pub returns : goal.returns
returns c = λ p good. never_stuck p good
