-- Computed.
use Rattle.std.proofs.Common.{refl}
use Rattle.std.specs.Fmt.{digits}
use Rattle.ja_lint_text.specs.Values.{alternatives, listed}
use Rattle.ja_lint_text.proofs.laws.examples_of_lists.Goals as goal

-- with it unfolded, `refl` computes lists
unfoldable lists : Unit {0}
unfolding alternatives listed digits
lists = tt

pub returns-clause-none : goal.returns-clause-none
unfolding lists
returns-clause-none c = refl

pub returns-clause-one : goal.returns-clause-one
unfolding lists
returns-clause-one c = refl

pub returns-clause-two : goal.returns-clause-two
unfolding lists
returns-clause-two c = refl

pub returns-clause-three : goal.returns-clause-three
unfolding lists
returns-clause-three c = refl

pub returns-clause-five : goal.returns-clause-five
unfolding lists
returns-clause-five c = refl

pub returns-clause-six : goal.returns-clause-six
unfolding lists
returns-clause-six c = refl
