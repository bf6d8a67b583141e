use Rattle.ja_lint_top.proofs.CallLaws.{one_each}
use Rattle.ja_lint_top.proofs.call_laws.warnings_have_messages.Goals as goal

pub returns : goal.returns
returns c = λ files p t ws ms told. one_each p t files ws ms told
