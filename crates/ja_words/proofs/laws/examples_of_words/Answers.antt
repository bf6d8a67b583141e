-- Computed, and what a number is written as.
use Rattle.ja_words.proofs.Examples.{alone, apart, attached, height, height_attached, height_of_steps}
use Rattle.ja_words.proofs.Examples.{leading_zero, seven_steps}
use Rattle.ja_words.proofs.Examples.{zero_of_steps}
use Rattle.ja_words.proofs.laws.examples_of_words.Goals as goal

pub returns-clause-attached : goal.returns-clause-attached
returns-clause-attached c = attached

pub returns-clause-apart : goal.returns-clause-apart
returns-clause-apart c = apart

pub returns-clause-alone : goal.returns-clause-alone
returns-clause-alone c = alone

pub returns-clause-height : goal.returns-clause-height
returns-clause-height c = height

pub returns-clause-height_attached : goal.returns-clause-height_attached
returns-clause-height_attached c = height_attached

pub returns-clause-height_of_steps : goal.returns-clause-height_of_steps
returns-clause-height_of_steps c = λ command line. height_of_steps command line

pub returns-clause-steps : goal.returns-clause-steps
returns-clause-steps c = seven_steps

pub returns-clause-leading_zero : goal.returns-clause-leading_zero
returns-clause-leading_zero c = λ command line. leading_zero command line

pub returns-clause-zero : goal.returns-clause-zero
returns-clause-zero c = λ command line. zero_of_steps command line
