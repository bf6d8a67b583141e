-- By the kind of the node: the frame stands at one, and its callers wait.
use Rattle.ja_machine.proofs.laws.states_have_steps.Goals as goal
use Rattle.ja_machine.proofs.States.{states_have_steps}

pub returns : goal.returns
returns c = λ p good. states_have_steps p good
