-- Lists in order of the same elements are the same.
use Rattle.ja_lint_top.proofs.CallLaws.{one_list_of_callers, one_list_of_links}
use Rattle.ja_lint_top.proofs.call_laws.calls_have_one_list.Goals as goal

pub returns-clause-callers : goal.returns-clause-callers
returns-clause-callers c = λ p t f xs ys a b. one_list_of_callers p t f xs ys a b

pub returns-clause-links : goal.returns-clause-links
returns-clause-links c = λ p t xs ys a b. one_list_of_links p t xs ys a b
