-- No call of a built-in function, and one more.
use Rattle.std.proofs.Common.{refl}
use Rattle.ja_lint_top.proofs.CallLaws.{followed}
use Rattle.ja_lint_top.proofs.call_laws.calls_are_followed.Goals as goal

pub returns-clause-itself : goal.returns-clause-itself
returns-clause-itself c = λ p t at f calls. (f, 0, calls, refl)

pub returns-clause-built_in : goal.returns-clause-built_in
returns-clause-built_in c =
    λ p t at e edge_is built_in caller. followed p t e edge_is built_in at caller
