-- The fills of the edges so far are listed.
use Rattle.std.proofs.Common.{◌≡◌, ◌++◌, map, take}
use Rattle.ja_rows.specs.declared.table.Item.TheVariants.{Fill}
use Rattle.ja_table.specs.declared.table.CallEdge.{CallEdge}
use Rattle.ja_check.proofs.table_items.push_fills.Given as goal

abbrev pub invariant-loop-kept : goal.invariant-loop-kept
invariant-loop-kept l = l.items.items ≡ l.fn.items.items
    ++ map (λ (d : CallEdge). Fill d.edge) (take l.kept-index l.edges)
