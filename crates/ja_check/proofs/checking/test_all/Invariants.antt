-- The items so far are settled.
use Rattle.std.proofs.Common.{take}
use Rattle.std.specs.Prelude.{All}
use Rattle.ja_table.specs.Tables.{table_of}
use Rattle.ja_rules.specs.code.Settled.{IsSettled}
use Rattle.ja_check.proofs.checking.test_all.Given as goal

abbrev pub invariant-loop-item : goal.invariant-loop-item
invariant-loop-item l =
    All (IsSettled l.analysis.program.now (table_of l.table)) (take l.item-index l.items)
