-- By what the state at the node has of the property, as proved in RowsWarned.
use Rattle.ja_sound.proofs.laws.warned_of_rows.Goals as goal
use Rattle.ja_sound.proofs.Opening.{grows_along}
use Rattle.ja_sound.proofs.RowsWarned.{warns_of_rows}

pub returns : goal.returns
returns c =
    λ p t ws good closed warnings.
    warns_of_rows p good t closed ws warnings (c.states_are_kept.ensures p good)
    (grows_along p (c.objects_stay.ensures p))
