use Rattle.std.proofs.Common.{refl}
use Rattle.std.specs.Prelude.{true, false, ◌&&◌, ◌||◌}
use Rattle.ja_abstract.specs.AbstractState.{new, old}
use Rattle.ja_abstract.specs.AbstractValue.{join, of_label}
use Rattle.ja_lint_text.proofs.Examples.{of_one_site, one_site}
use Rattle.ja_lint_text.proofs.laws.sites_are_told_once.Goals as goal

pub returns-clause-new : goal.returns-clause-new
returns-clause-new c = λ p fs ls s within.
    of_one_site p fs ls s (of_label (new s)).label
    (one_site (λ b. (b && true) || (b && false)) refl refl s p within)

pub returns-clause-both : goal.returns-clause-both
returns-clause-both c = λ p fs ls s within.
    of_one_site p fs ls s (join (of_label (new s)) (of_label (old s))).label
    (one_site (λ b. ((b && true) || (b && false)) || ((b && false) || (b && true))) refl refl s p
    within)
