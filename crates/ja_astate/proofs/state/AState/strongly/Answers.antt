use Rattle.std.proofs.Common.{ap}
use Rattle.ja_astate.proofs.StateLemmas.{state_with}
use Rattle.ja_astate.proofs.state.AState.strongly.Goals as goal

pub returns-clause-state : goal.returns-clause-state
returns-clause-state c =
    ap (state_with c.args.self.now.registers.items) c.in_ok-strongly.ensures.written
