-- So many visits close the table.
use Rattle.ja_top.proofs.Enough.{no_cause}
use Rattle.ja_top.proofs.laws.heights_are_never_spent.Goals as goal

pub returns : goal.returns
returns c = λ call asked text asks by has. no_cause call asked text asks by has
