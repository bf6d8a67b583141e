use Rattle.std.proofs.Common.{◌+◌, ℕ, [], ◌∷◌, List, Option, None, map, drop, sym, ◌∙◌, ap, subst, arith}
use Rattle.ja_graph.specs.Node.{makings}
use Rattle.ja_graph.specs.code.Parts.{EndsAt}
use Rattle.ja_graph.specs.WellFormed.{OwnedMaking, owned}
use Rattle.ja_graph.proofs.NumberedLemmas.{makings_left, part_more, part_never}
use Rattle.ja_graph.proofs.well_formed_sites.after_node.Goals as goal

pub returns-in_err-next : goal.returns-in_err-next
returns-in_err-next c =
    let p = c.args.program.now in
    let owner = c.args.owner in
    let made = c.as_slice-making-items.result.now in
    let i = c.loop-making.making-index in
    let m = c.making-item.result in
    let split = makings_left p owner i made m (omega arith) c.making-item.is in
    let all = ap (map (owned owner)) (c.as_slice-making-items.ensures
    ∙ c.makings-makings.ensures) in
    let never = part_never p c.args.number c.loop-making.next (map (owned owner) made)
    (map (owned owner) (drop i made)) (owned owner m ∷ [])
    (map (owned owner) (drop (i + 1) made)) split c.in_err-next.ensures
    c.loop-making.invariant in
    subst (λ (o : Option ℕ). EndsAt p c.args.number (map (owned owner) (makings c.args.node.now)) o)
    (sym c.from_residual.ensures) (
    subst (λ (ms : List OwnedMaking). EndsAt p c.args.number ms None) all never
    )

pub loop-making-preserved : goal.loop-making-preserved
loop-making-preserved c =
    let p = c.args.program.now in
    let owner = c.args.owner in
    let made = c.as_slice-making-items.result.now in
    let i = c.loop-making.making-index in
    let m = c.making-item.result in
    let split = makings_left p owner i made m (omega arith) c.making-item.is in
    part_more p c.args.number c.loop-making.next c.in_ok-next.next (map (owned owner) made)
    (map (owned owner) (drop i made)) (owned owner m ∷ [])
    (map (owned owner) (drop (i + 1) made)) split c.in_ok-next.ensures c.loop-making.invariant
