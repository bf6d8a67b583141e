use Rattle.ja_lower.proofs.WellFormedLemmas.{sites_name_functions}
use Rattle.ja_lower.proofs.laws.sites_name_functions.Goals as goal

pub returns : goal.returns
returns c = sites_name_functions
