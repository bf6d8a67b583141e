-- The visits are those of the budget.
use Rattle.std.proofs.Common.{subst}
use Rattle.ja_solve.specs.Solving.{WasSpent}
use Rattle.ja_top.proofs.analysis.spent_of.Goals as goal

pub returns : goal.returns
returns c = (
  c.args.visits.now,
  c.requires.program,
  subst (λ n. WasSpent c.args.program.now n c.args.visits.now) c.requires.budget c.requires.spent,
  cc (c.in_ok-text.ensures, c.as_slice.ensures),
)
