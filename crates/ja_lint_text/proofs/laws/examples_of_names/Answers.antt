-- Computed.
use Rattle.std.proofs.Common.{refl}
use Rattle.ja_texts.specs.Texts.{plain}
use Rattle.ja_lint_text.specs.Values.{name_words}
use Rattle.ja_lint_text.proofs.laws.examples_of_names.Goals as goal

pub returns-clause-built_in : goal.returns-clause-built_in
unfolding name_words plain
returns-clause-built_in c = refl

pub returns-clause-conversion : goal.returns-clause-conversion
unfolding name_words plain
returns-clause-conversion c = refl
