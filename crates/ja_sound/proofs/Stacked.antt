-- The frames of a state of a run, each entered from the one below it.
use Rattle.std.specs.Prelude.{◌≡◌, ◌++◌, suc, List, [], ◌∷◌, length, Some}
use Rattle.ja_graph.specs.declared.program.Program.{Program}
use Rattle.ja_machine.specs.declared.machine.Frame.{Frame}
use Rattle.ja_machine.specs.declared.machine.Conf.{Conf}
use Rattle.ja_machine.specs.declared.machine.Answer.{Answer}
use Rattle.ja_machine.specs.declared.machine.Event.TheVariants as event
use Rattle.ja_machine.specs.Machine.{step, state_of}
use Rattle.ja_machine.specs.Runs.{IsSameActivation}

-- ---- the frames of a state, each entered from the one below it

-- after these answers the frame below called, and one answer more entered the frame
pub record IsAbove (p : Program) (answers : List Answer) (f g : Frame)
    (rest : List Frame) : Type 0 where
  pub later : List Answer
  pub answer : Answer
  pub earlier : List Answer
  pub answers_are : answers ≡ later ++ answer ∷ earlier
  pub born : f.born ≡ suc (length earlier)
  pub before : Conf
  pub before_is : state_of p earlier ≡ Some before
  pub before_frames : before.frames ≡ g ∷ rest
  pub after : Conf
  pub after_is : step p before answer ≡ Some (event.Next after)
  pub entered : Frame
  pub after_frames : after.frames ≡ entered ∷ g ∷ rest
  pub same : IsSameActivation entered f

abbrev pub AreStacked : Program → List Answer → List Frame → Type 0
AreStacked p answers [] = Unit {0}
AreStacked p answers (f ∷ []) = f.born ≡ 0
AreStacked p answers (f ∷ g ∷ rest) = IsAbove p answers f g rest × AreStacked p answers (g ∷ rest)
