use Rattle.ja_lower_ranges.proofs.ScopeLaws.{finally_keeps}
use Rattle.ja_lower_ranges.proofs.scope_laws.tries_keep_their_scope.Goals as goal

pub returns-clause-finally : goal.returns-clause-finally
returns-clause-finally c = finally_keeps
