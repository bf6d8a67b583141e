use Rattle.ja_lower.proofs.WellFormedLemmas.{sites_are_told}
use Rattle.ja_lower.proofs.laws.sites_are_told.Goals as goal

pub returns : goal.returns
returns c = sites_are_told
