use Rattle.std.proofs.Common.{◌≡◌, ◌-◌, ◌+◌, ◌∷◌, [], length, take, drop, sym, subst, ap, arith, length-append}
use Rattle.ja_search.specs.code.Search.{IsMet, AreBorders}
use Rattle.ja_search.proofs.Searching.{border_few, borders_with, one_more_of_mark, nothing_met}
use Rattle.ja_search.proofs.search.borders_of.Goals as goal
use Rattle.ja_search.proofs.search.borders_of.Goals.{then-i-gt0, else-i-gt0}

pub meets-met-requires-clause-borders : goal.meets-met-requires-clause-borders
meets-met-requires-clause-borders c =
    subst (AreBorders c.args.mark.now) (sym c.deref.ensures.value) c.units.invariant.borders

pub units-preserved : goal.units-preserved
units-preserved c =
    let mark = c.args.mark.now in
    let i = c.units.i in
    let old = c.units.borders.items in
    let new = c.if-i-gt0.met in
    let items = c.in_ok-push.ensures.items in
    let met : IsMet mark (take i (drop 1 mark)) new = elim c.if-i-gt0.branch [
      | then-i-gt0 w ↦
          subst (IsMet mark (take i (drop 1 mark))) (sym w.met-is)
          (subst (λ l. IsMet mark l w.meets-met.result)
          (one_more_of_mark mark i w.if-i-gt0.true c.units-test.true)
          (w.meets-met.ensures.met (take (i - 1) (drop 1 mark)) c.units.invariant.met))
      | else-i-gt0 w ↦
          let none : 0 ≡ new = omega (arith, w.met-is, w.if-i-gt0.false, c.units.invariant.below) in
          let first : 0 ≡ i = omega (arith, w.if-i-gt0.false) in
          subst (IsMet mark (take i (drop 1 mark))) none
          (subst (λ n. IsMet mark (take n (drop 1 mark)) 0) first (nothing_met mark))
    ] in
    let same : i ≡ i + 1 - 1 = omega arith in
    record {
      each = omega (
        arith,
        ap length items,
        length-append old (new ∷ []),
        c.units.invariant.each,
      );
      borders = subst (AreBorders mark) (sym items)
          (borders_with mark old i new c.units.invariant.each c.units.invariant.borders met);
      below = omega (arith, border_few mark i new met);
      met = subst (λ n. IsMet mark (take n (drop 1 mark)) new) same met;
    }
