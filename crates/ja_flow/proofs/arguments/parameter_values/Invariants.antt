use Rattle.std.proofs.Common.{◌≡◌, map}
use Rattle.std.specs.List.{range_with_len}
use Rattle.ja_rows.specs.Calls.{listed}
use Rattle.ja_astate.specs.Looks.{view_of}
use Rattle.ja_value.specs.Value.{value_of}
use Rattle.ja_flow.proofs.arguments.parameter_values.Given as goal

abbrev pub invariant-loop-number : goal.invariant-loop-number
invariant-loop-number l =
    map value_of l.values.items ≡ map (listed (view_of l.reader) l.parameters l.list).parameter
    (range_with_len 0 l.number)
