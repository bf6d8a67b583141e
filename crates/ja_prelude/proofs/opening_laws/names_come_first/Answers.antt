use Rattle.ja_prelude.proofs.DistinctLemmas.{many_names, names_distinct, names_first}
use Rattle.ja_prelude.proofs.opening_laws.names_come_first.Goals as goal

pub returns-clause-distinct : goal.returns-clause-distinct
returns-clause-distinct c = names_distinct

pub returns-clause-first : goal.returns-clause-first
returns-clause-first c = names_first

pub returns-clause-many : goal.returns-clause-many
returns-clause-many c = many_names
