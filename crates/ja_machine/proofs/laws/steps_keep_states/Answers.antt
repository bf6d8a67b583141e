-- By the kind of the node.
use Rattle.ja_machine.proofs.laws.steps_keep_states.Goals as goal
use Rattle.ja_machine.proofs.States.{opening_kept, steps_keep_states}

pub returns : goal.returns
returns c = record {
  opening = λ p good. opening_kept p good;
  steps = λ p good. steps_keep_states p good;
}
