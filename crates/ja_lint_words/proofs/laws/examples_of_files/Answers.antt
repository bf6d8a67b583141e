-- Computed, part by part, and by what clap refuses.
use Rattle.ja_lint_words.proofs.Examples as example
use Rattle.ja_lint_words.proofs.laws.examples_of_files.Goals as goal

pub returns-clause-hyphen : goal.returns-clause-hyphen
returns-clause-hyphen c = example.file_hyphen

pub returns-clause-of_no_bytes : goal.returns-clause-of_no_bytes
returns-clause-of_no_bytes c = example.file_of_no_bytes

pub returns-clause-dashes : goal.returns-clause-dashes
returns-clause-dashes c = example.dashes

pub returns-clause-behind_dashes : goal.returns-clause-behind_dashes
returns-clause-behind_dashes c = example.file_behind

pub returns-clause-dashes_twice : goal.returns-clause-dashes_twice
returns-clause-dashes_twice c = example.dashes_twice
