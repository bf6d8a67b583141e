-- By the node that calls, constructs or converts, as proved in IntoSound.
use Rattle.ja_sound.proofs.laws.entries_sound.Goals as goal
use Rattle.ja_sound.proofs.IntoSound.{into_sound}

pub returns : goal.returns
returns c = λ p good. into_sound p good (c.steps_go_along_edges.ensures p)
