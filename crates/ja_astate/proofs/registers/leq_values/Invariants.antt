use Rattle.std.proofs.Common.{◌<◌, ℕ}
use Rattle.ja_abstract.specs.Order.{LeqValue}
use Rattle.ja_astate.specs.State.{register_in}
use Rattle.ja_astate.proofs.registers.leq_values.Given as goal

abbrev pub invariant-loop-register : goal.invariant-loop-register
invariant-loop-register l =
    (r : ℕ) → r < l.register → LeqValue (register_in l.values r) (register_in l.others r)
