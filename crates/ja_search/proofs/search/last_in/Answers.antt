use Rattle.std.proofs.Common.{◌≡◌, ◌-◌, ◌<◌, ◌≤◌, length, sym, subst, ◌∙◌, arith, reverse}
use Rattle.ja_search.specs.code.Search.{AreBorders}
use Rattle.ja_search.proofs.FoundPlaces.{end_of, last_empty, last_found, last_nowhere, none_more_back, opened_back, read_back, some_unit_in}
use Rattle.ja_search.proofs.search.last_in.Goals as goal
use Rattle.ja_search.proofs.search.last_in.Goals.{then-units-from, else-units-from}

pub returns-then-is_empty-clause-value : goal.returns-then-is_empty-clause-value
returns-then-is_empty-clause-value c =
    sym (last_empty c.args.mark.now c.args.units.now c.args.from c.if-is_empty.ensures)

pub places-init : goal.places-init
places-init c =
    let mark = c.args.mark.now in
    let units = c.args.units.now in
    let some : 0 < length mark = some_unit_in (length mark) c.if-is_empty.ensures in
    let at : c.if-units-from.place ≡ end_of mark units c.args.from =
    elim c.if-units-from.branch [
      | then-units-from w ↦ omega (arith, w.place-is, w.if-units-from.true, c.requires)
      | else-units-from w ↦ omega (arith, w.place-is, w.if-units-from.false, c.requires)
    ] in
    record {
      within = omega (arith, at);
      met = opened_back mark units c.args.from c.requires c.if-units-from.place at;
      none = λ p le inside. absurd (omega (arith, at, le, inside, some));
    }

pub meets-met-requires-clause-borders : goal.meets-met-requires-clause-borders
meets-met-requires-clause-borders c =
    subst (λ m. AreBorders m c.deref-in-places-2.result.now)
    (c.deref.ensures.value ∙ sym c.deref-in-places.ensures.value)
    (subst (AreBorders c.deref.result.now) (sym c.deref-in-places-2.ensures.value)
    c.in_ok-borders.ensures.borders)

pub returns-then-met-mark-clause-value : goal.returns-then-met-mark-clause-value
returns-then-met-mark-clause-value c =
    let mark = c.args.mark.now in
    let units = c.args.units.now in
    let end = end_of mark units c.args.from in
    let backward : c.deref-in-places.result.now ≡ reverse mark =
    c.deref-in-places.ensures.value ∙ c.in_ok-backward.ensures in
    let within : c.places.place - 1 ≤ end = omega (arith, c.places.invariant.within) in
    let some : 0 < c.places.place = c.places-test.true in
    sym (last_found mark units c.args.from c.requires (c.places.place - 1) c.meets-met.result within
    (read_back c.deref-in-places.result.now mark units end c.places.place c.places.met
    c.meets-met.result backward (omega arith) some c.places.invariant.within
    c.places.invariant.met c.meets-met.ensures.met)
    c.if-met-mark.true
    (λ r over inside. c.places.invariant.none r (omega (arith, over, some)) inside))

pub places-preserved : goal.places-preserved
places-preserved c =
    let mark = c.args.mark.now in
    let units = c.args.units.now in
    let end = end_of mark units c.args.from in
    let backward : c.deref-in-places.result.now ≡ reverse mark =
    c.deref-in-places.ensures.value ∙ c.in_ok-backward.ensures in
    let some : 0 < c.places.place = c.places-test.true in
    let met = read_back c.deref-in-places.result.now mark units end c.places.place c.places.met
    c.meets-met.result backward (omega arith) some c.places.invariant.within
    c.places.invariant.met c.meets-met.ensures.met in
    record {
      within = omega (arith, c.places.invariant.within);
      met = met;
      none = none_more_back mark units end (c.places.place - 1) c.meets-met.result met
          c.if-met-mark.false
          (λ r over inside. c.places.invariant.none r (omega (arith, over, some)) inside);
    }

pub returns-clause-value : goal.returns-clause-value
returns-clause-value c =
    sym (last_nowhere c.args.mark.now c.args.units.now c.args.from c.requires (λ r over inside.
    c.places.invariant.none r (omega (arith, c.places-test.false)) inside))
