-- By the kind of the node.
use Rattle.ja_machine.proofs.laws.steps_go_along_edges.Goals as goal
use Rattle.ja_machine.proofs.Edges.{along_edges}

pub returns : goal.returns
returns c = λ p. along_edges p
