use Rattle.std.proofs.Common.{◌-◌, arith, get_or, sym, ◌∙◌}
use Rattle.std.proofs.lemmas.Bool.{false≢true}
use Rattle.std.proofs.lemmas.Option.{slice_get-get_or}
use Rattle.ja_table.specs.Order.{context_of}
use Rattle.ja_table.proofs.OrderedParts.{adjacent_at, adjacent_next, none_adjacent, ordered_all}
use Rattle.ja_table.proofs.Places.{contexts_order}
use Rattle.ja_table.proofs.Told.{told_none, told_some}
use Rattle.ja_table.proofs.parts.are_contexts_ordered.Goals as goal

pub loop-place-init : goal.loop-place-init
loop-place-init c =
    record { some = omega arith; before = none_adjacent context_of contexts_order c.args.contexts.now }

pub returns-then-not-is_below : goal.returns-then-not-is_below
returns-then-not-is_below c =
    let xs = c.args.contexts.now in
    let n = c.loop-place.place in
    let a = get_or xs (n - 1) c.index-contexts-place.result in
    let b = get_or xs n c.index-contexts-place-in-loop-place.result in
    told_none (λ ordered. false≢true (c.if-not-is_below.ensures
    ∙ adjacent_at context_of contexts_order xs n a b c.loop-place.invariant.some ordered
    (slice_get-get_or xs (n - 1) c.index-contexts-place.result
    (omega (arith, c.loop-place-test.true)))
    (slice_get-get_or xs n c.index-contexts-place-in-loop-place.result
    (omega (arith, c.loop-place-test.true)))))

pub loop-place-preserved : goal.loop-place-preserved
loop-place-preserved c =
    let xs = c.args.contexts.now in
    let n = c.loop-place.place in
    let a = get_or xs (n - 1) c.index-contexts-place.result in
    let b = get_or xs n c.index-contexts-place-in-loop-place.result in
    record {
      some = omega arith;
      before = adjacent_next context_of contexts_order xs n a b c.loop-place.invariant.some
          c.loop-place.invariant.before
          (slice_get-get_or xs (n - 1) c.index-contexts-place.result
          (omega (arith, c.loop-place-test.true)))
          (slice_get-get_or xs n c.index-contexts-place-in-loop-place.result
          (omega (arith, c.loop-place-test.true))) (sym c.if-not-is_below.ensures);
    }

pub returns : goal.returns
returns c =
    told_some (ordered_all context_of contexts_order c.args.contexts.now c.loop-place.place
    c.loop-place.invariant.before (omega (arith, c.loop-place-test.false)))
