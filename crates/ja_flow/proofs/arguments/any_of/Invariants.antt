use Rattle.std.proofs.Common.{◌≡◌, take}
use Rattle.ja_abstract.specs.Resolved.{join_values}
use Rattle.ja_rows.specs.Calls.{values_of}
use Rattle.ja_astate.specs.Looks.{view_of}
use Rattle.ja_value.specs.Value.{value_of}
use Rattle.ja_flow.proofs.arguments.any_of.Given as goal

abbrev pub invariant-loop-register : goal.invariant-loop-register
invariant-loop-register l =
    value_of l.sum
    ≡ join_values (values_of (view_of l.reader) (take l.register-index l.list))
