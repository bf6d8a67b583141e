use Rattle.std.proofs.Common.{◌+◌, ℕ, List, length, Option, None, Some, drop, sym, ap, ◌∙◌, subst, arith}
use Rattle.ja_graph.specs.declared.node.NodeInfo.{NodeInfo}
use Rattle.ja_graph.specs.declared.program.Function.{Function}
use Rattle.ja_graph.specs.code.Parts.{EndsAt}
use Rattle.ja_graph.specs.WellFormed.{makings_of, makings_from}
use Rattle.ja_graph.proofs.NumberedLemmas.{functions_left, part_more, part_never}
use Rattle.ja_graph.proofs.well_formed_sites.after_functions.Goals as goal

pub returns-in_err-next : goal.returns-in_err-next
returns-in_err-next c =
    let p = c.args.program.now in
    let fns = p.functions in
    let i = c.loop-f.f in
    let fn = c.index-functions-f.result in
    let split = functions_left p i fns fn (omega (arith, ap length c.as_slice-functions.ensures))
    (cc) in
    let nodes_are = c.as_slice.ensures ∙ ap (λ (g : Function). g.nodes)
    (sym c.index-functions-f.is) in
    let ends = subst (λ (ns : List NodeInfo). EndsAt p c.loop-f.next (makings_of i ns) None)
    nodes_are c.in_err-next.ensures in
    subst (λ (o : Option ℕ). EndsAt p (length p.opening) (makings_from 0 fns) o)
    (sym c.from_residual.ensures) (
    part_never p (length p.opening) c.loop-f.next (makings_from 0 fns) (makings_from i (drop i fns))
    (makings_of i fn.nodes) (makings_from (i + 1) (drop (i + 1) fns)) split ends
    c.loop-f.invariant
    )

pub loop-f-preserved : goal.loop-f-preserved
loop-f-preserved c =
    let p = c.args.program.now in
    let fns = p.functions in
    let i = c.loop-f.f in
    let fn = c.index-functions-f.result in
    let split = functions_left p i fns fn (omega (arith, ap length c.as_slice-functions.ensures))
    (cc) in
    let nodes_are = c.as_slice.ensures ∙ ap (λ (g : Function). g.nodes)
    (sym c.index-functions-f.is) in
    let ends = subst (λ (ns : List NodeInfo).
    EndsAt p c.loop-f.next (makings_of i ns) (Some c.in_ok-next.next)) nodes_are
    c.in_ok-next.ensures in
    part_more p (length p.opening) c.loop-f.next c.in_ok-next.next (makings_from 0 fns)
    (makings_from i (drop i fns)) (makings_of i fn.nodes)
    (makings_from (i + 1) (drop (i + 1) fns)) split ends c.loop-f.invariant
