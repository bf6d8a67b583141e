use Rattle.std.proofs.Common.{◌≡◌, length, sym, subst, ap, arith}
use Rattle.ja_table.specs.Tables.{table_of}
use Rattle.ja_lint_top.specs.code.Calls.{AreLeading}
use Rattle.ja_lint_top.proofs.Leading.{are_leading, found_alone, found_more, written_back, AreFound}
use Rattle.ja_lint_top.proofs.callers.leading_to.Goals as goal

pub loop-init : goal.loop-init
loop-init c =
    let p = c.args.program.now in
    let t = table_of c.args.table.now in
    let f = c.args.function in
    subst (AreFound p t f) (sym c.in_ok-marks.ensures) (found_alone p t f)

pub returns : goal.returns
returns c =
    let p = c.args.program.now in
    let t = c.args.table.now in
    let f = c.args.function in
    let old = c.deref_mut.result.now in
    let new = c.add_callers.new.marks in
    let step = c.add_callers.ensures in
    let size : c.loop.marks.len ≡ length new =
    omega (arith, c.loop.marks.ok.0, step.size, ap length c.deref_mut.ensures.value) in
    let was : AreFound p (table_of t) f old =
    subst (AreFound p (table_of t) f) (sym c.deref_mut.ensures.value) c.loop.invariant in
    subst (AreLeading p (table_of t) f) (sym (written_back new c.loop.marks.items _ size))
    (are_leading p t f new c.requires (found_more p (table_of t) f t.edges.items old new _ was step)
    (step.done c.loop-test.false))
