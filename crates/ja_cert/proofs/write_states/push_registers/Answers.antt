use Rattle.std.proofs.Common.{sym, append-nil, arith}
use Rattle.ja_astate.specs.State.{state_of}
use Rattle.ja_cert.proofs.StateLemmas.{registers_all, registers_more}
use Rattle.ja_cert.proofs.write_states.push_registers.Goals as goal

pub loop-number-init : goal.loop-number-init
loop-number-init c = sym (append-nil _)

pub loop-number-preserved : goal.loop-number-preserved
loop-number-preserved c =
    registers_more _ _ (state_of c.args.state.now).register _ _ _ _ _ c.loop-number.invariant
    c.register-value.ensures c.in_ok-push_register.ensures

pub returns : goal.returns
returns c = registers_all _ _ c.args.state.now _ _ _ c.loop-number.invariant (omega arith)
