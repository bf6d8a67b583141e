use Rattle.std.proofs.Common.{◌∙◌, arith, sym}
use Rattle.std.proofs.lemmas.Bool.{false≢true}
use Rattle.ja_table.proofs.Kept.{same_at, slice_at}
use Rattle.ja_table.proofs.Told.{told_none, told_some}
use Rattle.ja_check.specs.code.Checking.{meaning_of}
use Rattle.ja_check.proofs.Lists.{same_all, same_next}
use Rattle.ja_check.proofs.same_tables.are_same_contexts.Goals as goal

pub returns-then-not-same : goal.returns-then-not-same
returns-then-not-same c =
    let xs = c.args.own.now in
    let ys = c.args.other.now in
    let k = c.loop-place.place in
    let x = c.index-own-place.result in
    let y = c.index-other-place.result in
    told_none (λ e. false≢true (sym c.if-not-same.true ∙ c.in_ok-same.ensures.1
    (same_at meaning_of xs ys k x y e
    (slice_at xs k x (omega (arith, c.loop-place-test.true)) c.index-own-place.is)
    (slice_at ys k y (omega (arith, c.loop-place-test.true, c.if-own-other.false))
    c.index-other-place.is))))

pub loop-place-preserved : goal.loop-place-preserved
loop-place-preserved c =
    let xs = c.args.own.now in
    let ys = c.args.other.now in
    let k = c.loop-place.place in
    let x = c.index-own-place.result in
    let y = c.index-other-place.result in
    same_next meaning_of xs ys k x y c.loop-place.invariant
    (slice_at xs k x (omega (arith, c.loop-place-test.true)) c.index-own-place.is)
    (slice_at ys k y (omega (arith, c.loop-place-test.true, c.if-own-other.false))
    c.index-other-place.is) (c.in_ok-same.ensures.0 c.if-not-same.false)

pub returns : goal.returns
returns c =
    told_some (same_all meaning_of c.args.own.now c.args.other.now c.loop-place.place
    c.loop-place.invariant (omega (arith, c.if-own-other.false))
    (omega (arith, c.loop-place-test.false)))
