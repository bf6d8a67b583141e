use Rattle.std.proofs.Common.{sym, subst}
use Rattle.ja_table.specs.Tables.{table_of}
use Rattle.ja_lint_top.specs.Calls.{AreLinks}
use Rattle.ja_lint_top.proofs.Linked.{are_links}
use Rattle.ja_lint_top.proofs.links.links.Goals as goal

pub returns : goal.returns
returns c =
    subst (AreLinks c.args.program.now (table_of c.args.table.now)) (sym c.in_ok-links.ensures)
    (are_links c.args.program.now c.args.table.now c.in_ok-ends.ends c.in_ok-ends.ensures)
