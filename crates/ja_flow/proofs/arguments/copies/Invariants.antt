use Rattle.std.proofs.Common.{◌≡◌, map}
use Rattle.std.specs.List.{range_with_len}
use Rattle.ja_value.specs.Value.{value_of}
use Rattle.ja_flow.proofs.arguments.copies.Given as goal

abbrev pub invariant-loop : goal.invariant-loop
invariant-loop l =
    map value_of l.values.items ≡ map (λ j. value_of l.value) (range_with_len 0 l.counter)
