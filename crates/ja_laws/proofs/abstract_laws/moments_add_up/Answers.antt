-- By the masks of the second moment.
use Rattle.ja_laws.proofs.abstract_laws.moments_add_up.Goals as goal
use Rattle.ja_laws.proofs.PinnedStates.{known_stays, made_before, none_is_new, none_made, some_made, unchanged}

pub returns : goal.returns
returns c = record {
  none = λ first second. none_made first second;
  made = λ first second e. some_made first second e;
  made_before = λ first second e. made_before first second e;
  known = λ p a b l k of_program. known_stays p a b l k of_program;
  unchanged = λ p a b none. unchanged p a b none;
  renames = λ p a b s r e. none_is_new p a b s r e;
}
