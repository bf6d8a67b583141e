use Rattle.std.proofs.Common.{◌≡◌, ◌+◌, ◌-◌, length, get_or, drop, sym, subst, arith}
use Rattle.ja_lower_listing.specs.code.Passes.{HasPassed}
use Rattle.ja_lower_listing.proofs.Parts.{items_at, count_before}
use Rattle.ja_lower_listing.proofs.passes.passed.Goals as goal

pub pass-requires : goal.pass-requires
pass-requires c =
    let items = c.args.items.now in
    let k = length items - 1 - c.loop-done.done in
    count_before items _ k c.loop-done.backward.before _
    (items_at items k (length items - c.loop-done.done) c.index-items-items.result
    c.index-items-items.is (omega arith) (omega arith)) c.loop-done.invariant.before

pub loop-done-preserved : goal.loop-done-preserved
loop-done-preserved c =
    let items = c.args.items.now in
    let x = c.index-items-items.result in
    let k = length items - (c.loop-done.done + 1) in
    let m = length items - c.loop-done.done in
    let same : length items - 1 - c.loop-done.done ≡ k = omega arith in
    let at : x ≡ get_or items k x = rw same at c.index-items-items.is in
    subst (λ xs. HasPassed c.pass.new.self items xs)
    (sym (items_at items k m x at (omega arith) (omega arith)))
    (c.in_ok-pass.ensures items (drop m items) c.loop-done.invariant)
