-- Computed.
use Rattle.std.proofs.Common.{refl}
use Rattle.std.specs.Fmt.{digits}
use Rattle.ja_texts.specs.Texts.{plain}
use Rattle.ja_lint_devices.specs.Texts.{refused_text, shown, word_text}
use Rattle.ja_lint_devices.proofs.laws.examples_of_texts.Goals as goal

pub returns-clause-no_kind : goal.returns-clause-no_kind
unfolding refused_text word_text shown plain
returns-clause-no_kind c = refl

pub returns-clause-unknown : goal.returns-clause-unknown
unfolding refused_text word_text shown plain
returns-clause-unknown c = refl

pub returns-clause-repeated : goal.returns-clause-repeated
unfolding refused_text word_text shown plain
returns-clause-repeated c = refl

pub returns-clause-many : goal.returns-clause-many
unfolding refused_text digits
returns-clause-many c = refl

pub returns-clause-control : goal.returns-clause-control
unfolding refused_text shown plain
returns-clause-control c = refl

pub returns-clause-twice : goal.returns-clause-twice
unfolding refused_text shown plain
returns-clause-twice c = refl
