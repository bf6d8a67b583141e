use Rattle.std.proofs.Common.{◌≡◌, ◌<◌, vec_len}
use Rattle.std.specs.List.{AllByRecursion}
use Rattle.ja_astate.specs.State.{state_of, HaveOneShape}
use Rattle.ja_cert_parts.specs.declared.listed.RegisterAt.{RegisterAt}
use Rattle.ja_cert_read.specs.code.Building.{with_registers}
use Rattle.ja_cert_read.proofs.states.set_registers.Given as goal

abbrev pub invariant-loop-listed : goal.invariant-loop-listed
invariant-loop-listed l = record {
  state : with_registers l.registers.items (state_of l.state)
      ≡ with_registers l.initial.registers.items (state_of l.initial.state);
  shape : HaveOneShape l.initial.state l.state;
  within : AllByRecursion (λ (x : RegisterAt). x.register < vec_len l.initial.state.registers)
      l.registers.items;
}

abbrev pub decreases-loop-listed : goal.decreases-loop-listed
decreases-loop-listed l = vec_len l.registers
