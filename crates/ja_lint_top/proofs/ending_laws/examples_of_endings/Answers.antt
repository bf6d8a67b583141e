-- Computed.
use Rattle.std.proofs.Common.{refl}
use Rattle.std.specs.Fmt.{digits}
use Rattle.ja_lint_top.specs.Ending.{counted_line, counts_by, listed, promise}
use Rattle.ja_lint_top.proofs.ending_laws.examples_of_endings.Goals as goal

-- with it unfolded, `refl` computes what stands behind messages
unfoldable endings : Unit {0}
unfolding counted_line counts_by digits listed promise
endings = tt

pub returns-clause-one : goal.returns-clause-one
unfolding endings
returns-clause-one c = refl

pub returns-clause-several : goal.returns-clause-several
unfolding endings
returns-clause-several c = refl

pub returns-clause-lines : goal.returns-clause-lines
unfolding endings
returns-clause-lines c = refl

pub returns-clause-page : goal.returns-clause-page
unfolding endings
returns-clause-page c = refl

pub returns-clause-none : goal.returns-clause-none
unfolding endings
returns-clause-none c = refl

pub returns-clause-clean : goal.returns-clause-clean
unfolding endings
returns-clause-clean c = refl
