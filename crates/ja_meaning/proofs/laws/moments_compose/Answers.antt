-- By masks, labels and contents, as proved in Composed.
use Rattle.ja_meaning.proofs.laws.moments_compose.Goals as goal
use Rattle.ja_abstract.specs.Composed.{composed}
use Rattle.ja_meaning.proofs.Composed.{composed_holds}
use Rattle.ja_meaning.proofs.Held.{all_of, of_all}

pub returns : goal.returns
returns c =
    λ p first second third before after known up on of_first of_second.
    of_all p first third (composed p before after)
    (composed_holds p first second third known up on before after (all_of of_first)
    (all_of of_second))
