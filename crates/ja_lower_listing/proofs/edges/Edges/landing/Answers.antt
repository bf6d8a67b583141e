use Rattle.std.proofs.Common.{◌≡◌, ◌+◌, ◌-◌, suc, ap, sym, ◌∙◌, arith}
use Rattle.ja_lower_listing.specs.code.Passes.{after, landed}
use Rattle.ja_lower_listing.proofs.Followed.{one_turn}
use Rattle.ja_lower_listing.proofs.edges.Edges.landing.Goals as goal

pub loop-turn-preserved : goal.loop-turn-preserved
loop-turn-preserved c whole edges =
    let left = c.args.self.now.turns - (c.loop-turn._turn + 1) in
    let one : c.args.self.now.turns - c.loop-turn._turn ≡ suc left = omega arith in
    ap (λ o. landed whole (after whole left o)) (c.further-target.ensures whole edges)
    ∙ (ap (landed whole) (sym (one_turn whole (c.args.self.now.turns - c.loop-turn._turn) left
    c.loop-turn.target one)) ∙ c.loop-turn.invariant whole edges)
