-- The backs of the edges so far are listed.
use Rattle.std.proofs.Common.{◌≡◌, ◌++◌, map, take}
use Rattle.ja_rows.specs.declared.table.Item.TheVariants.{Back}
use Rattle.ja_table.specs.declared.table.CallEdge.{CallEdge}
use Rattle.ja_check.proofs.table_items.push_backs.Given as goal

abbrev pub invariant-loop-kept : goal.invariant-loop-kept
invariant-loop-kept l = l.items.items ≡ l.fn.items.items
    ++ map (λ (d : CallEdge). Back d.edge) (take l.kept-index l.edges)
