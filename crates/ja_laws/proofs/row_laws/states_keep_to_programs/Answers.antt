-- The states of a table that visits build.
use Rattle.ja_rows.proofs.TablesInProgram.{built_in}
use Rattle.ja_laws.proofs.row_laws.states_keep_to_programs.Goals as goal

pub returns : goal.returns
returns c = λ p items t good built x n. built_in p good items t built x n
