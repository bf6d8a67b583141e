-- The visits so far build the table as it stands.
use Rattle.std.proofs.Common.{take}
use Rattle.ja_rows.specs.Table.{Builds}
use Rattle.ja_table.specs.Tables.{table_of, Fits}
use Rattle.ja_check.proofs.following.follow.Given as goal

abbrev pub invariant-loop-item : goal.invariant-loop-item
invariant-loop-item l = record {
  built : Builds l.analysis.program.now (table_of l.fn.table) (take l.item-index l.visits)
      (table_of l.table);
  fits : Fits l.analysis.program.now l.table;
}
