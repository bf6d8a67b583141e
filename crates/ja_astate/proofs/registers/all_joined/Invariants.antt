use Rattle.std.proofs.Common.{◌≡◌, ◌<◌, ℕ, length}
use Rattle.ja_abstract.specs.AbstractValue.{join}
use Rattle.ja_astate.specs.State.{register_in}
use Rattle.ja_astate.proofs.registers.all_joined.Given as goal

abbrev pub invariant-loop-register : goal.invariant-loop-register
invariant-loop-register l = record {
  joined : (r : ℕ) → r < l.register → register_in l.all.items r
      ≡ join (register_in l.values r) (register_in l.others r);
  len : length l.all.items ≡ l.register;
}
