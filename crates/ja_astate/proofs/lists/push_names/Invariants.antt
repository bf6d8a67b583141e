use Rattle.std.proofs.Common.{◌≡◌, ◌++◌}
use Rattle.ja_value.specs.Value.{value_of}
use Rattle.ja_astate.specs.code.Lists.{names_below}
use Rattle.ja_astate.proofs.lists.push_names.Given as goal

abbrev pub invariant-loop-number : goal.invariant-loop-number
invariant-loop-number l =
    l.keys.items ≡ l.initial.keys.items ++ names_below l.program (value_of l.value) l.number
