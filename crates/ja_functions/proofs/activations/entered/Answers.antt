use Rattle.std.proofs.Common.{◌∙◌}
use Rattle.ja_abstract.specs.AbstractState.{with_register}
use Rattle.ja_machine.specs.Frames.{scope}
use Rattle.ja_functions.proofs.activations.entered.Goals as goal

pub returns-clause-state : goal.returns-clause-state
returns-clause-state c =
    c.set_register.ensures.state
    ∙ (λ n. with_register (c.in_ok-state.ensures.state n) scope (c.in_ok-scope.ensures n))
