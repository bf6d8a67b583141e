use Rattle.std.proofs.Common.{◌∙◌, ap, ap₂}
use Rattle.ja_abstract.specs.AbstractState.{AbstractState, with_register}
use Rattle.ja_abstract.specs.AbstractValue.{AbstractValue}
use Rattle.ja_abstract.specs.Made.{Own, with_object}
use Rattle.ja_astate.specs.State.{state_of}
use Rattle.ja_machine.specs.Frames.{thrown}
use Rattle.ja_transfer.proofs.stepper.Stepper.with_error.Goals as goal

pub returns-clause-state : goal.returns-clause-state
returns-clause-state c =
    let r = c.args.self.now.reader in
    let made = c.in_ok-state.ensures.state r.program.now r.heap_is
    ∙ ap (λ (own : Own). with_object r.program.now (state_of r.state.now) c.args.error (λ b. own))
    c.in_ok-made.ensures in
    c.set_register.ensures.state
    ∙ ap₂ (λ (a : AbstractState) (v : AbstractValue). with_register a thrown v) made
    c.in_ok-thrown.ensures
