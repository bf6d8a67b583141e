use Rattle.std.proofs.Common.{◌≡◌, ◌++◌, drop}
use Rattle.std.specs.Option.{option_map}
use Rattle.ja_machine.specs.Intrinsics.{primitives_in}
use Rattle.ja_operations.proofs.intrinsics.primitives_in.Given as goal

abbrev pub invariant-loop-value : goal.invariant-loop-value
invariant-loop-value l =
    option_map (λ qs. l.list.items ++ qs) (primitives_in (drop l.value-index l.values))
    ≡ primitives_in l.values
