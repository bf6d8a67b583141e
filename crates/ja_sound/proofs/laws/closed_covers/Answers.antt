-- By induction on the answers, as proved in Covering.
use Rattle.ja_sound.proofs.laws.closed_covers.Goals as goal
use Rattle.ja_sound.proofs.Covering.{covers_runs}
use Rattle.ja_sound.proofs.IntoSound.{into_sound}
use Rattle.ja_sound.proofs.Left.{returns_sound}
use Rattle.ja_sound.proofs.Opening.{grows_along, opening_good}
use Rattle.ja_sound.proofs.SoundSteps.{steps_sound}

pub returns : goal.returns
returns c =
    λ p t good closed.
    let states = c.states_are_kept.ensures p good in
    let steps = c.steps_go_along_edges.ensures p in
    covers_runs p t closed (steps_sound p good) (into_sound p good steps)
    (returns_sound p good steps) states steps (grows_along p (c.objects_stay.ensures p))
    (opening_good p good states t closed)
