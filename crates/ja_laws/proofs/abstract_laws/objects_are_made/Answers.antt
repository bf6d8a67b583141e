-- By the labels of the site, and of others.
use Rattle.ja_laws.proofs.abstract_laws.objects_are_made.Goals as goal
use Rattle.ja_laws.proofs.PinnedStates.{is_empty, is_made}

pub returns : goal.returns
returns c = record {
  others = λ p a s own. is_made p a s own;
  empty = λ p a s list k of_program none. is_empty p a s list k of_program none;
}
