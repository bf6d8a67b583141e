-- Computed, and what a number is written as.
use Rattle.ja_words.proofs.Examples.{greatest, leading_zero_of_number, past_number, three}
use Rattle.ja_words.proofs.Examples.{zero_of_number}
use Rattle.ja_words.proofs.laws.examples_of_numbers.Goals as goal

pub returns-clause-apart : goal.returns-clause-apart
returns-clause-apart c = three

pub returns-clause-attached : goal.returns-clause-attached
returns-clause-attached c = greatest

pub returns-clause-zero : goal.returns-clause-zero
returns-clause-zero c = λ command line. zero_of_number command line

pub returns-clause-past : goal.returns-clause-past
returns-clause-past c = λ command line. past_number command line

pub returns-clause-leading_zero : goal.returns-clause-leading_zero
returns-clause-leading_zero c = λ command line. leading_zero_of_number command line
