-- The steps of the contexts so far are listed.
use Rattle.std.proofs.Common.{◌≡◌, ◌++◌, take}
use Rattle.std.specs.List.{flat_map}
use Rattle.ja_check.specs.code.Checking.{steps_in}
use Rattle.ja_check.proofs.table_items.push_steps.Given as goal

abbrev pub invariant-loop-own : goal.invariant-loop-own
invariant-loop-own l = l.items.items ≡ l.fn.items.items
    ++ flat_map (steps_in l.program) (take l.own-index l.table.contexts.items)
