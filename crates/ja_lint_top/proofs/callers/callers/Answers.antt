use Rattle.std.proofs.Common.{sym, subst, ◌∙◌}
use Rattle.ja_table.specs.Tables.{table_of}
use Rattle.ja_lint_top.specs.Calls.{AreCallers}
use Rattle.ja_lint_top.specs.code.Calls.{AreLeading}
use Rattle.ja_lint_top.proofs.Called.{are_callers}
use Rattle.ja_lint_top.proofs.callers.callers.Goals as goal

pub returns : goal.returns
returns c =
    let p = c.args.program.now in
    let t = c.args.table.now in
    let f = c.args.function in
    subst (AreCallers p (table_of t) f) (sym (c.from_vec.ensures ∙ c.in_ok-places.ensures))
    (are_callers p t c.requires f c.deref.result.now
    (subst (AreLeading p (table_of t) f) (sym c.deref.ensures.value) c.in_ok-marks.ensures)
    c.in_ok-spots.spots c.in_ok-spots.ensures)
