use Rattle.std.proofs.Common.{take, drop, length, sym, subst, ap, arith, length-take}
use Rattle.std.proofs.lemmas.List.{take_rest}
use Rattle.ja_search.specs.code.Search.{AreBorders}
use Rattle.ja_search.proofs.Searching.{met_few, nothing_met}
use Rattle.ja_search.proofs.FoundPlaces.{first_empty, first_found, first_nowhere, none_more, read_on, some_unit_in}
use Rattle.ja_search.proofs.search.first_in.Goals as goal

pub returns-then-is_empty-clause-value : goal.returns-then-is_empty-clause-value
returns-then-is_empty-clause-value c =
    sym (first_empty c.args.mark.now (drop c.args.from c.args.units.now) c.args.from
    c.if-is_empty.ensures)

pub units-init : goal.units-init
units-init c = record {
  met = nothing_met c.args.mark.now;
  none = λ p le.
      absurd (omega (arith, le, some_unit_in (length c.args.mark.now) c.if-is_empty.ensures));
}

pub meets-met-requires-clause-borders : goal.meets-met-requires-clause-borders
meets-met-requires-clause-borders c =
    subst (AreBorders c.args.mark.now) (sym c.deref.ensures.value) c.in_ok-borders.ensures.borders

pub meets-met-requires-clause-known : goal.meets-met-requires-clause-known
meets-met-requires-clause-known c =
    omega (
      arith,
      c.units.invariant.met.within,
      c.in_ok-borders.ensures.each,
      ap length c.deref.ensures.value,
    )

pub meets-met-requires-clause-within : goal.meets-met-requires-clause-within
meets-met-requires-clause-within c = c.units.invariant.met.within

pub overflow_sub-result : goal.overflow_sub-result
overflow_sub-result c =
    let read = take c.units.i (drop c.args.from c.args.units.now) in
    omega (
      arith,
      c.meets-met.ensures.known,
      met_few c.args.mark.now read c.units.met c.units.invariant.met,
      length-take c.units.i (drop c.args.from c.args.units.now),
    )

pub returns-then-met-mark-clause-value : goal.returns-then-met-mark-clause-value
returns-then-met-mark-clause-value c =
    let units = c.args.units.now in
    let from = c.args.from in
    sym (first_found c.args.mark.now (drop from units) from c.units.i c.meets-met.result
    (omega (arith, c.units-test.true, ap length (take_rest units from)))
    (read_on c.args.mark.now units from c.units.i c.units.met c.meets-met.result c.units-test.true
    c.units.invariant.met c.meets-met.ensures.met)
    c.if-met-mark.true c.units.invariant.none)

pub units-preserved : goal.units-preserved
units-preserved c =
    let units = c.args.units.now in
    let from = c.args.from in
    let met = read_on c.args.mark.now units from c.units.i c.units.met c.meets-met.result
    c.units-test.true c.units.invariant.met c.meets-met.ensures.met in
    record {
      met = met;
      none = none_more c.args.mark.now (drop from units) c.units.i c.meets-met.result met
          c.if-met-mark.false c.units.invariant.none;
    }

pub returns-clause-value : goal.returns-clause-value
returns-clause-value c =
    let units = c.args.units.now in
    let from = c.args.from in
    sym (first_nowhere c.args.mark.now (drop from units) from (λ p le.
    c.units.invariant.none p
    (omega (arith, le, c.units-test.false, ap length (take_rest units from)))))
