-- By the test that the state at the node passes, as proved in Warned.
use Rattle.ja_sound.proofs.laws.warned_of_faults.Goals as goal
use Rattle.ja_sound.proofs.Opening.{grows_along}
use Rattle.ja_sound.proofs.Warned.{warns_of_faults}

pub returns : goal.returns
returns c =
    λ p t ws good closed warnings.
    warns_of_faults p good t ws warnings (c.states_are_kept.ensures p good)
    (grows_along p (c.objects_stay.ensures p)) (c.closed_covers.ensures p t good closed)
