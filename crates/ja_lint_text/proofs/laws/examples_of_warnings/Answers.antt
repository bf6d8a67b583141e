-- Computed, but for the values.
use Rattle.std.proofs.Common.{ap, ap₂, append-nil, refl, ◌∙◌}
use Rattle.std.specs.Prelude.{true, false, [], ◌++◌, Some, None}
use Rattle.std.specs.Fmt.{digits}
use lib.Chars.{codes}
use Rattle.ja_abstract.specs.AbstractValue.{no_flags}
use Rattle.ja_rows.specs.declared.table.WarningKind.TheVariants.{NotAFunction, NoObject}
use Rattle.ja_report.specs.Texts.{primitive_parts}
use Rattle.ja_texts.specs.Texts.{plain}
use Rattle.ja_lint_text.specs.Values.{alternatives, listed}
use Rattle.ja_lint_text.specs.Words.{certainty_words, kind_words, warning_words, within_words}
use Rattle.ja_lint_text.proofs.Examples.{without_objects}
use Rattle.ja_lint_text.proofs.laws.examples_of_warnings.Goals as goal

-- with it unfolded, `refl` computes the words of warnings
unfoldable warnings : Unit {0}
unfolding warning_words alternatives digits listed primitive_parts plain
warnings = tt

pub returns-clause-unbound : goal.returns-clause-unbound
unfolding warnings
returns-clause-unbound c = λ p fs ls at v. refl

pub returns-clause-unnamed : goal.returns-clause-unnamed
unfolding warnings
returns-clause-unnamed c = λ p fs ls at v. refl

pub returns-clause-row : goal.returns-clause-row
unfolding warnings
returns-clause-row c = λ p fs ls at v. refl

pub returns-clause-some_row : goal.returns-clause-some_row
unfolding warnings
returns-clause-some_row c = λ p fs ls at v f. refl

pub returns-clause-property : goal.returns-clause-property
unfolding warnings
returns-clause-property c = λ p fs ls at.
    ap (λ value. kind_words NoObject false true (Some (codes "toString")) no_flags value
    ++ certainty_words NoObject true ++ within_words p None ++ [])
    (without_objects p fs ls _ refl) ∙ refl

pub returns-clause-some_property : goal.returns-clause-some_property
unfolding warnings
returns-clause-some_property c = λ p fs ls at.
    ap (λ value. kind_words NoObject false true None no_flags value
    ++ certainty_words NoObject true ++ within_words p None ++ [])
    (without_objects p fs ls _ refl) ∙ refl

pub returns-clause-call : goal.returns-clause-call
unfolding warnings
returns-clause-call c = λ p fs ls at calls.
    ap₂ (λ new value. kind_words NotAFunction new true (Some (codes "f")) no_flags value
    ++ certainty_words NotAFunction true ++ within_words p None ++ [])
    calls (without_objects p fs ls _ refl) ∙ refl

pub returns-clause-construction : goal.returns-clause-construction
unfolding warnings
returns-clause-construction c = λ p fs ls at constructs.
    ap₂ (λ new value. kind_words NotAFunction new true (Some (codes "f")) no_flags value
    ++ certainty_words NotAFunction true ++ within_words p None ++ [])
    constructs (without_objects p fs ls _ refl) ∙ refl

pub returns-clause-possible_property : goal.returns-clause-possible_property
unfolding warnings
returns-clause-possible_property c = λ p fs ls at.
    ap (λ value. kind_words NoObject false false (Some (codes "name"))
    (record no_flags { null = true; is_true = true }) value
    ++ certainty_words NoObject false ++ within_words p None ++ [])
    (without_objects p fs ls _ refl) ∙ refl

pub returns-clause-nullish : goal.returns-clause-nullish
returns-clause-nullish c = refl

pub returns-clause-both : goal.returns-clause-both
returns-clause-both c = refl

pub returns-clause-some_call : goal.returns-clause-some_call
unfolding warnings
returns-clause-some_call c = λ p fs ls at calls.
    ap₂ (λ new value. kind_words NotAFunction new false None no_flags value
    ++ certainty_words NotAFunction false ++ within_words p None ++ [])
    calls (without_objects p fs ls _ refl) ∙ refl

pub returns-clause-within : goal.returns-clause-within
unfolding warnings
returns-clause-within c = λ p fs ls at f.
    ap (λ value. kind_words NoObject false false None
    (record no_flags { undefined = true }) value
    ++ certainty_words NoObject false ++ within_words p (Some f) ++ [])
    (without_objects p fs ls _ refl) ∙ append-nil _
