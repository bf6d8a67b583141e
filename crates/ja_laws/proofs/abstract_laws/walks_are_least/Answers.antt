-- Each round but the last adds a label, as proved in Walks.
use Rattle.ja_laws.proofs.abstract_laws.walks_are_least.Goals as goal
use Rattle.ja_laws.proofs.Walks.{walk_least}

pub returns : goal.returns
returns c = λ next labels start. walk_least next labels start
