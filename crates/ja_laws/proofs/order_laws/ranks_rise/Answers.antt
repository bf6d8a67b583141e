-- Part by part, as proved in Ranks.
use Rattle.ja_laws.proofs.order_laws.ranks_rise.Goals as goal
use Rattle.ja_abstract.proofs.Ranks.{rank_rises}

pub returns : goal.returns
returns c = rank_rises
