-- No object has two properties of one name, and a name that an object has is left out behind it.
use Rattle.ja_machine.proofs.Distinct.{shown_distinct}
use Rattle.ja_machine.proofs.laws.names_are_distinct.Goals as goal

pub returns : goal.returns
returns c = λ p h a known. shown_distinct h known.names a
