-- The walk stays at its one object.
use Rattle.ja_laws.proofs.abstract_laws.known_reads.Goals as goal
use Rattle.ja_laws.proofs.PinnedStates.{read_is}

pub returns : goal.returns
returns c = λ w l k there known. read_is w l k there known
