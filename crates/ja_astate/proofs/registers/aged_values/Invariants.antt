use Rattle.std.proofs.Common.{◌≡◌, map, take}
use Rattle.ja_abstract.specs.AbstractState.{aged}
use Rattle.ja_value.specs.declared.value.AValue.{AValue}
use Rattle.ja_value.specs.Value.{value_of}
use Rattle.ja_astate.proofs.registers.aged_values.Given as goal

abbrev pub invariant-loop-value : goal.invariant-loop-value
invariant-loop-value l =
    map value_of l.aged.items ≡ map (λ (x : AValue). aged l.site (value_of x))
    (take l.value-index l.values)
