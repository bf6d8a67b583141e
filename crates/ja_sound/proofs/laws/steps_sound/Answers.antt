-- By the kind of the node, as proved in SoundSteps.
use Rattle.ja_sound.proofs.laws.steps_sound.Goals as goal
use Rattle.ja_sound.proofs.SoundSteps.{steps_sound}

pub returns : goal.returns
returns c = λ p good. steps_sound p good
