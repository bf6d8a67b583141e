-- By the node at which the top frame stands, as proved in Throwing.
use Rattle.ja_sound.proofs.laws.faults_throw.Goals as goal
use Rattle.ja_sound.proofs.Throwing.{faults_throw}

pub returns : goal.returns
returns c = λ p good. faults_throw p good (c.states_are_kept.ensures p good)
