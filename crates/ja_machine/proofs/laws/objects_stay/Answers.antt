-- By the kind of the node.
use Rattle.ja_machine.proofs.laws.objects_stay.Goals as goal
use Rattle.ja_machine.proofs.Edges.{objects_stay}

pub returns : goal.returns
returns c = λ p. objects_stay p
