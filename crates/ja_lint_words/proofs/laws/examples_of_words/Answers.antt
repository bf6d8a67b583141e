-- Computed, part by part, and by what clap refuses.
use Rattle.ja_lint_words.proofs.Examples as example
use Rattle.ja_lint_words.proofs.laws.examples_of_words.Goals as goal

pub returns-clause-mixed : goal.returns-clause-mixed
returns-clause-mixed c = example.mixed

pub returns-clause-no_words : goal.returns-clause-no_words
returns-clause-no_words c = example.no_words

pub returns-clause-apart : goal.returns-clause-apart
returns-clause-apart c = example.format_apart

pub returns-clause-attached : goal.returns-clause-attached
returns-clause-attached c = example.format_attached

pub returns-clause-of_no_bytes : goal.returns-clause-of_no_bytes
returns-clause-of_no_bytes c = example.format_of_no_bytes

pub returns-clause-flag_twice : goal.returns-clause-flag_twice
returns-clause-flag_twice c = λ a line. example.flag_twice a line

pub returns-clause-format_twice : goal.returns-clause-format_twice
returns-clause-format_twice c = λ a line. example.format_twice a line

pub returns-clause-flag_with_value : goal.returns-clause-flag_with_value
returns-clause-flag_with_value c = λ a line. example.flag_with_value a line

pub returns-clause-other : goal.returns-clause-other
returns-clause-other c = λ a line. example.other a line

pub returns-clause-short : goal.returns-clause-short
returns-clause-short c = λ a line. example.short a line

pub returns-clause-no_value : goal.returns-clause-no_value
returns-clause-no_value c = λ a line. example.format_alone a line
