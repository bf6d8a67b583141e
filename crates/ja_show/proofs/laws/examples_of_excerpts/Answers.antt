-- Computed.
use Rattle.std.proofs.Common.{refl}
use Rattle.unicode_width.proofs.Computing.{unicode_width}
use Rattle.ja_show.specs.Lines.{blanks, caret_line, excerpt, shown, shown_line}
use Rattle.ja_show.proofs.laws.examples_of_excerpts.Goals as goal

-- with it unfolded, `refl` computes an excerpt
unfoldable excerpts : Unit {0}
unfolding excerpt shown_line caret_line shown blanks unicode_width
excerpts = tt

pub returns-clause-wide : goal.returns-clause-wide
unfolding excerpts
returns-clause-wide c = refl

pub returns-clause-hidden : goal.returns-clause-hidden
unfolding excerpts
returns-clause-hidden c = refl

pub returns-clause-long : goal.returns-clause-long
unfolding excerpts
returns-clause-long c = refl
