-- Those that are marked lead to the function, and fewer are left with each round.
use Rattle.std.proofs.Common.{not, count_by}
use Rattle.ja_table.specs.Tables.{table_of}
use Rattle.ja_lint_top.proofs.Leading.{AreFound}
use Rattle.ja_lint_top.proofs.callers.leading_to.Given as goal

abbrev pub invariant-loop : goal.invariant-loop
invariant-loop l = AreFound l.program (table_of l.table) l.fn.function l.marks.items

abbrev pub decreases-loop : goal.decreases-loop
decreases-loop l = count_by not l.marks.items
