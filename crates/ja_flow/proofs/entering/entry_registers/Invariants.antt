use Rattle.std.proofs.Common.{◌≡◌, map}
use Rattle.std.specs.Prelude.{vec_len}
use Rattle.std.specs.List.{range_with_len}
use Rattle.ja_abstract.specs.AbstractValue.{of_label}
use Rattle.ja_rows.specs.Calls as spec
use Rattle.ja_value.specs.Value.{value_of}
use Rattle.ja_flow.specs.code.Given.{AreArguments}
use Rattle.ja_flow.proofs.entering.entry_registers.Given as goal

abbrev pub invariant-loop-register : goal.invariant-loop-register
invariant-loop-register l =
    record {
      count : vec_len l.values ≡ l.register;
      values : (g : spec.Arguments) → AreArguments (vec_len l.given.parameters) g l.given
          → map value_of l.values.items ≡ map (spec.entry_of (vec_len l.given.parameters)
          (of_label l.receiver) (value_of l.called.chain) (value_of l.called.callee) g).register
          (range_with_len 0 l.register);
    }
