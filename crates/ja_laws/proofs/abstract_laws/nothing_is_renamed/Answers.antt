-- Each label is what it was.
use Rattle.ja_laws.proofs.abstract_laws.nothing_is_renamed.Goals as goal
use Rattle.ja_laws.proofs.PinnedStates.{nothing_renamed}

pub returns : goal.returns
returns c = λ q. nothing_renamed q
