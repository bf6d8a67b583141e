use Rattle.std.proofs.Common.{◌+◌, ℕ, Option, map, drop, sym, subst, arith}
use Rattle.ja_graph.specs.Node.{makings}
use Rattle.ja_graph.specs.code.Parts.{EndsAt}
use Rattle.ja_graph.specs.WellFormed.{owned, makings_of}
use Rattle.ja_graph.proofs.NumberedLemmas.{nodes_left, part_more, part_never}
use Rattle.ja_graph.proofs.well_formed_sites.after_nodes.Goals as goal

pub returns-in_err-next : goal.returns-in_err-next
returns-in_err-next c =
    let p = c.args.program.now in
    let owner = c.args.owner in
    let nodes = c.args.nodes.now in
    let i = c.loop-info.info-index in
    let split = nodes_left p owner i nodes c.info-item.result (omega arith) c.info-item.is in
    subst (λ (o : Option ℕ). EndsAt p c.args.number (makings_of owner nodes) o)
    (sym c.from_residual.ensures) (
    part_never p c.args.number c.loop-info.next (makings_of owner nodes)
    (makings_of owner (drop i nodes)) (map (owned owner) (makings c.info-item.result.node))
    (makings_of owner (drop (i + 1) nodes)) split c.in_err-next.ensures c.loop-info.invariant
    )

pub loop-info-preserved : goal.loop-info-preserved
loop-info-preserved c =
    let p = c.args.program.now in
    let owner = c.args.owner in
    let nodes = c.args.nodes.now in
    let i = c.loop-info.info-index in
    let split = nodes_left p owner i nodes c.info-item.result (omega arith) c.info-item.is in
    part_more p c.args.number c.loop-info.next c.in_ok-next.next (makings_of owner nodes)
    (makings_of owner (drop i nodes)) (map (owned owner) (makings c.info-item.result.node))
    (makings_of owner (drop (i + 1) nodes)) split c.in_ok-next.ensures c.loop-info.invariant
