use Rattle.std.proofs.Common.{◌∙◌, ◌<◌, ap, sym, List, vec_len, arith}
use Rattle.ja_base.proofs.Lists.{empty_by_length}
use Rattle.ja_astate.specs.State.{state_of}
use Rattle.ja_cert_parts.specs.declared.listed.RegisterAt.{RegisterAt}
use Rattle.ja_cert_read.specs.code.Building.{with_registers}
use Rattle.ja_cert_read.proofs.Setting.{but_last, one_shape, registers_turn}
use Rattle.ja_cert_read.proofs.states.set_registers.Goals as goal

pub set_register-requires : goal.set_register-requires
set_register-requires c =
    let own = but_last (λ (y : RegisterAt). y.register < vec_len c.args.state.now.registers)
    c.loop-listed.registers.items c.pop.new.self.items c.in-Some.listed c.in-Some.ensures.items
    c.loop-listed.invariant.within in
    omega (arith, own.1, c.loop-listed.invariant.shape.registers)

pub loop-listed-preserved : goal.loop-listed-preserved
loop-listed-preserved c = record {
  state =
      registers_turn c.loop-listed.registers.items c.pop.new.self.items c.in-Some.listed
      (state_of c.loop-listed.state) (state_of c.set_register.new.self) c.in-Some.ensures.items
      c.set_register.ensures.state ∙ c.loop-listed.invariant.state;
  shape = one_shape _ _ _ c.loop-listed.invariant.shape c.set_register.ensures.shape;
  within =
      (but_last (λ (y : RegisterAt). y.register < vec_len c.args.state.now.registers)
      c.loop-listed.registers.items c.pop.new.self.items c.in-Some.listed c.in-Some.ensures.items
      c.loop-listed.invariant.within).0;
}

pub returns-clause-state : goal.returns-clause-state
returns-clause-state c =
    ap (λ (xs : List RegisterAt). with_registers xs (state_of c.loop-listed.state))
    (sym (empty_by_length c.loop-listed.registers.items
    (omega (arith, c.in_default.ensures.cases.0))))
    ∙ c.loop-listed.invariant.state
