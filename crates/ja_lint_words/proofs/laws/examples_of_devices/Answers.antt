-- Computed, part by part, and by what clap refuses.
use Rattle.ja_lint_words.proofs.Examples as example
use Rattle.ja_lint_words.proofs.laws.examples_of_devices.Goals as goal

pub returns-clause-hyphen : goal.returns-clause-hyphen
returns-clause-hyphen c = example.device_hyphen

pub returns-clause-attached : goal.returns-clause-attached
returns-clause-attached c = example.device_attached

pub returns-clause-no_value : goal.returns-clause-no_value
returns-clause-no_value c = λ a line. example.device_alone a line

pub returns-clause-option : goal.returns-clause-option
returns-clause-option c = λ a line. example.device_option a line

pub returns-clause-dashes : goal.returns-clause-dashes
returns-clause-dashes c = λ a line. example.device_dashes a line

pub returns-clause-behind_dashes : goal.returns-clause-behind_dashes
returns-clause-behind_dashes c = λ a line. example.device_behind_dashes a line
