use Rattle.std.proofs.Common.{◌≡◌, ℕ, length}
use Rattle.ja_abstract.specs.AbstractValue.{undefined_value}
use Rattle.ja_astate.specs.State.{register_in}
use Rattle.ja_cert_read.proofs.starts.undefined_values.Given as goal

abbrev pub invariant-loop-register : goal.invariant-loop-register
invariant-loop-register l = record {
  values : (r : ℕ) → register_in l.values.items r ≡ undefined_value;
  len : length l.values.items ≡ l._register;
}
