-- Computed, but for the sites.
use Rattle.std.proofs.Common.{refl, ◌∙◌}
use Rattle.std.specs.Fmt.{digits}
use Rattle.ja_report.specs.Texts.{primitive_parts}
use Rattle.ja_texts.specs.Texts.{quoted, units_text}
use Rattle.ja_lint_text.specs.Values.{alternatives, listed, shown}
use Rattle.ja_lint_text.proofs.Examples.{without_objects}
use Rattle.ja_lint_text.proofs.laws.examples_of_values.Goals as goal

-- with it unfolded, `refl` computes the words of values
unfoldable values : Unit {0}
unfolding alternatives listed digits primitive_parts shown quoted units_text
values = tt

pub returns-clause-undefined : goal.returns-clause-undefined
unfolding values
returns-clause-undefined c = λ p fs ls. without_objects p fs ls _ refl ∙ refl

pub returns-clause-mixed : goal.returns-clause-mixed
unfolding values
returns-clause-mixed c = λ p fs ls. without_objects p fs ls _ refl ∙ refl

pub returns-clause-number : goal.returns-clause-number
unfolding values
returns-clause-number c = λ p fs ls. without_objects p fs ls _ refl ∙ refl

pub returns-clause-numbers : goal.returns-clause-numbers
unfolding values
returns-clause-numbers c = λ p fs ls. without_objects p fs ls _ refl ∙ refl

pub returns-clause-text : goal.returns-clause-text
unfolding values
returns-clause-text c = λ p fs ls. without_objects p fs ls _ refl ∙ refl

pub returns-clause-long : goal.returns-clause-long
unfolding values
returns-clause-long c = λ p fs ls. without_objects p fs ls _ refl ∙ refl

pub returns-clause-texts : goal.returns-clause-texts
unfolding values
returns-clause-texts c = λ p fs ls. without_objects p fs ls _ refl ∙ refl

pub returns-clause-unknown : goal.returns-clause-unknown
unfolding values
returns-clause-unknown c = λ p fs ls. without_objects p fs ls _ refl ∙ refl

pub returns-clause-nothing : goal.returns-clause-nothing
unfolding values
returns-clause-nothing c = λ p fs ls. without_objects p fs ls _ refl ∙ refl
