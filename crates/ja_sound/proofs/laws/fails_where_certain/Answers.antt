-- By the test that no state at the operation allows more than, as proved in Certain.
use Rattle.ja_sound.proofs.laws.fails_where_certain.Goals as goal
use Rattle.ja_sound.proofs.Certain.{fails_where_certain}
use Rattle.ja_sound.proofs.Opening.{grows_along}

pub returns : goal.returns
returns c =
    λ p t ws good closed warnings.
    fails_where_certain p good t closed ws warnings (c.states_are_kept.ensures p good)
    (grows_along p (c.objects_stay.ensures p)) (c.closed_covers.ensures p t good closed)
