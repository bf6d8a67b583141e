use Rattle.std.proofs.Common.{◌≤◌, ◌<◌, length, sym, ap, ◌∙◌, arith}
use Rattle.ja_astate.proofs.InsertionLemmas.{place_passed, place_taken, place_free, place_last}
use Rattle.ja_astate.proofs.insertion.insert_key.Goals as goal

pub loop-place-preserved : goal.loop-place-preserved
loop-place-preserved c =
    let xs = c.loop-place.keys.items in
    let within : c.loop-place.place < length xs =
    omega (arith, ap length c.loop-place.invariant.same) in
    record {
      same = c.loop-place.invariant.same;
      so_far =
          place_passed c.args.key xs c.loop-place.place c.index-there.result.now within
          c.index-there.ensures _ c.loop-place.invariant.so_far
          (sym c.is_before.ensures ∙ c.if-not-is_before.false);
    }

pub returns-in_ok-insert : goal.returns-in_ok-insert
returns-in_ok-insert c =
    let xs = c.loop-place.keys.items in
    let within : c.loop-place.place < length xs =
    omega (arith, ap length c.loop-place.invariant.same) in
    c.in_ok-insert.ensures.items
    ∙ place_free c.args.key xs c.loop-place.place c.index-there.result.now within
    c.index-there.ensures _ c.loop-place.invariant.so_far
    (sym c.is_before.ensures ∙ c.if-not-is_before.true)
    (sym c.same_key.ensures ∙ c.if-not-same_key.true)

pub returns-else-not-same_key : goal.returns-else-not-same_key
returns-else-not-same_key c =
    let xs = c.loop-place.keys.items in
    let within : c.loop-place.place < length xs =
    omega (arith, ap length c.loop-place.invariant.same) in
    place_taken c.args.key xs c.loop-place.place c.index-there.result.now within
    c.index-there.ensures _ c.loop-place.invariant.so_far
    (sym c.is_before.ensures ∙ c.if-not-is_before.true)
    (sym c.same_key.ensures ∙ c.if-not-same_key.false)

pub returns : goal.returns
returns c =
    let xs = c.loop-place.keys.items in
    let behind : length xs ≤ c.loop-place.place =
    omega (arith, ap length c.loop-place.invariant.same) in
    c.in_ok-push.ensures.items
    ∙ place_last c.args.key xs c.loop-place.place behind _ c.loop-place.invariant.so_far
