-- By the node that is left and the one that entered, as proved in Left.
use Rattle.ja_sound.proofs.laws.returns_sound.Goals as goal
use Rattle.ja_sound.proofs.Left.{returns_sound}

pub returns : goal.returns
returns c = λ p good. returns_sound p good (c.steps_go_along_edges.ensures p)
