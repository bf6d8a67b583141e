-- The edges before this one have added their callers.
use Rattle.std.proofs.Common.{take}
use Rattle.ja_table.specs.Tables.{table_of}
use Rattle.ja_lint_top.specs.code.Calls.{Grows}
use Rattle.ja_lint_top.proofs.callers.add_callers.Given as goal

abbrev pub invariant-loop-call : goal.invariant-loop-call
invariant-loop-call l =
    Grows l.program (table_of l.table) (take l.call-index l.table.edges.items) l.initial.marks
    l.marks l.grows
