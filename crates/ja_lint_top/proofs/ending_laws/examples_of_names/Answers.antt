-- Computed.
use Rattle.std.proofs.Common.{refl}
use Rattle.ja_lint_top.specs.Refusals.{unseen}
use Rattle.ja_lint_top.proofs.ending_laws.examples_of_names.Goals as goal

pub returns-clause-none : goal.returns-clause-none
unfolding unseen
returns-clause-none c = refl

pub returns-clause-twice : goal.returns-clause-twice
unfolding unseen
returns-clause-twice c = refl

pub returns-clause-stdin : goal.returns-clause-stdin
returns-clause-stdin c = refl

pub returns-clause-unnamed : goal.returns-clause-unnamed
returns-clause-unnamed c = refl
