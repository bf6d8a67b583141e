-- The steps of the nodes so far are listed.
use Rattle.std.proofs.Common.{◌≡◌, ◌++◌}
use Rattle.std.specs.List.{flat_map, range_with_len}
use Rattle.ja_table.specs.Tables.{states_in}
use Rattle.ja_check.specs.Check.{step_at}
use Rattle.ja_check.proofs.table_items.push_steps_of.Given as goal

abbrev pub invariant-loop-node : goal.invariant-loop-node
invariant-loop-node l = l.items.items ≡ l.fn.items.items
    ++ flat_map (step_at l.own.context (states_in l.own.nodes.items)) (range_with_len 0 l.node)
