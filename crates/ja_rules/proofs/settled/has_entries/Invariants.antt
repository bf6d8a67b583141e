-- The table has what each edge so far gives.
use Rattle.std.proofs.Common.{◌≡◌, take}
use Rattle.std.specs.Prelude.{◌↔◌, IsTrue}
use Rattle.std.specs.List.{fold}
use Rattle.ja_table.specs.Tables.{table_of}
use Rattle.ja_rules.specs.code.Stepping.{with_entered}
use Rattle.ja_rules.proofs.settled.has_entries.Given as goal

abbrev pub invariant-loop-entry : goal.invariant-loop-entry
invariant-loop-entry l =
    IsTrue l.all
    ↔ (fold with_entered (table_of l.table) (take l.entry-index l.entries) ≡ table_of l.table)
