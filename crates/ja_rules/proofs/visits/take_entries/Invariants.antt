-- The table grew by the entries so far, and the others still fit it.
use Rattle.std.proofs.Common.{◌≡◌}
use Rattle.std.specs.List.{fold, AllByRecursion}
use Rattle.std.specs.Vec.Iter.{into_iter_items}
use Rattle.ja_table.specs.Tables.{table_of, Fits}
use Rattle.ja_rules.specs.code.Stepping.{with_entered, FitsEntered}
use Rattle.ja_height.proofs.Grows.{IsGrown}
use Rattle.ja_rules.proofs.visits.take_entries.Given as goal

abbrev pub invariant-loop-entry : goal.invariant-loop-entry
invariant-loop-entry l = record {
  fits : Fits l.program l.table;
  taken : fold with_entered (table_of l.table) (into_iter_items l.entry-iterator)
      ≡ fold with_entered (table_of l.fn.table) l.fn.entries.items;
  grown : IsGrown (table_of l.fn.table) (table_of l.table) l.changed;
  rest : AllByRecursion (FitsEntered l.program (table_of l.table))
      (into_iter_items l.entry-iterator);
}
