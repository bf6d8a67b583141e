-- By induction on the answers, and by the kind of the node.
use Rattle.ja_machine.proofs.laws.states_are_kept.Goals as goal
use Rattle.ja_machine.proofs.States.{states_are_kept}

pub returns : goal.returns
returns c = λ p good. states_are_kept p good
