use Rattle.std.proofs.Common.{◌≡◌, map}
use Rattle.std.specs.List.{range_with_len}
use Rattle.ja_value.specs.Value.{value_of}
use Rattle.ja_astate.specs.code.Opening.{opening_register}
use Rattle.ja_astate.proofs.opening.opening_registers.Given as goal

abbrev pub invariant-loop-register : goal.invariant-loop-register
invariant-loop-register l =
    map value_of l.values.items ≡ map opening_register (range_with_len 0 l.register)
