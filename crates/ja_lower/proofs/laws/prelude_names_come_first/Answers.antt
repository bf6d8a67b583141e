use Rattle.ja_lower.proofs.WellFormedLemmas.{prelude_names_come_first}
use Rattle.ja_lower.proofs.laws.prelude_names_come_first.Goals as goal

pub returns : goal.returns
returns c = prelude_names_come_first
