-- The table that says everything.
use Rattle.ja_laws.proofs.Largest.{largest, largest_is_closed}
use Rattle.ja_laws.proofs.row_laws.closed_tables_exist.Goals as goal

pub returns : goal.returns
returns c = λ p. (largest, largest_is_closed p)
