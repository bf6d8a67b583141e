use Rattle.std.proofs.Common.{◌≡◌, ◌-◌, ◌++◌, take, drop, ◌∙◌, ap, arith}
use Rattle.ja_prim.proofs.Placing.{take_both, drop_both, cut_is}
use Rattle.ja_prim.proofs.values.cut.Goals as goal

pub returns : goal.returns
returns c =
    let w = c.args.whole.now in
    let p = c.args.places.now in
    let n = c.args.count in
    let first = c.min-first.result in
    let front : c.split_at.result.0.now ++ c.split_at-2.result.0.now ≡ take n (w ++ p) =
    ap (λ x. x ++ c.split_at-2.result.0.now) c.split_at.ensures.front
    ∙ ap (λ x. take first w ++ x) c.split_at-2.ensures.front
    ∙ take_both n first (n - first) w p c.min-first.ensures (omega arith) in
    let back : c.split_at.result.1.now ++ c.split_at-2.result.1.now ≡ drop n (w ++ p) =
    ap (λ x. x ++ c.split_at-2.result.1.now) c.split_at.ensures.back
    ∙ ap (λ x. drop first w ++ x) c.split_at-2.ensures.back
    ∙ drop_both n first (n - first) w p c.min-first.ensures (omega arith) in
    c.judge.ensures
    ∙ cut_is c.args.negative (c.split_at.result.0.now ++ c.split_at-2.result.0.now)
    (c.split_at.result.1.now ++ c.split_at-2.result.1.now) (w ++ p)
    c.capped_both.result c.raised-value.result c.capped_both-2.result c.args.noughts n front back
    c.capped_both.ensures c.raised-value.ensures c.capped_both-2.ensures
