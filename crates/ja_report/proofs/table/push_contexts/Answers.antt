use Rattle.std.proofs.Common.{◌∙◌, ap, subst}
use Rattle.std.specs.List.{flat_map}
use Rattle.ja_table.specs.declared.table.ContextTable.{ContextTable}
use Rattle.ja_report.specs.code.Output.{Adds}
use Rattle.ja_report.proofs.ContextLemmas.{own_lines, lines_listed}
use Rattle.ja_report.proofs.OutputLemmas.{adds_none, adds_more, adds_all, adds_same}
use Rattle.ja_report.proofs.table.push_contexts.Goals as goal

pub loop-own-init : goal.loop-own-init
loop-own-init c = adds_none _ _

pub loop-own-preserved : goal.loop-own-preserved
unfolding own_lines
loop-own-preserved c =
    let p = c.args.program.now in
    let own = c.own-item.result in
    let Added : ContextTable → Type 0 =
    λ x. Adds p (own_lines p x) c.loop-own.out c.push_own.new.out in
    adds_more p (own_lines p) _ _ _ c.deref-own-items.result.now _ own c.loop-own.invariant
    c.loop-own-test.true (subst Added c.own-item.is c.in_ok-push_own.ensures)

pub returns : goal.returns
returns c =
    let p = c.args.program.now in
    adds_same p _ _ _ _ (ap (flat_map (own_lines p)) c.deref-own-items.ensures.value
    ∙ lines_listed p c.args.table.now c.requires.fits)
    (adds_all p (own_lines p) _ _ _ _ c.loop-own.invariant c.loop-own-test.false)
