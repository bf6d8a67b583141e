use Rattle.std.proofs.Common.{ℕ, ◌+◌, ◌-◌, ◌/◌, false, List, ◌∷◌, length, ap, sym, ◌∙◌, arith}
use Rattle.std.specs.Fmt.{digits_onto}
use Rattle.ja_operations.proofs.DigitLemmas.{ends, goes_on, in_all, insert_first}
use Rattle.ja_operations.proofs.digits.digits.Goals as goal

pub loop-place-init : goal.loop-place-init
loop-place-init c = record {
  spelled =
      ap (λ (xs : List ℕ). digits_onto 64 c.args.radix false c.args.n xs) c.new-units.ensures.items
      ∙ in_all c.args.radix c.args.n;
  places = omega (arith, ap length c.new-units.ensures.items);
}

pub returns-then-rest-eq0-clause-digits : goal.returns-then-rest-eq0-clause-digits
returns-then-rest-eq0-clause-digits c =
    let l = c.loop-place in
    let written = c.in_ok-insert.ensures.items ∙ insert_first l.units.items c.digit.result in
    written ∙ (ap (λ (d : ℕ). d ∷ l.units.items) c.digit.ensures
    ∙ (sym (ends c.args.radix l.rest l.units.items 64 l._place c.loop-place-test.true
    c.if-rest-eq0.true) ∙ l.invariant.spelled))

pub loop-place-preserved : goal.loop-place-preserved
loop-place-preserved c =
    let l = c.loop-place in
    let written = c.in_ok-insert.ensures.items ∙ insert_first l.units.items c.digit.result in
    let digit = written ∙ ap (λ (d : ℕ). d ∷ l.units.items) c.digit.ensures in
    record {
      spelled =
          ap (λ (xs : List ℕ). digits_onto (64 - (l._place + 1)) c.args.radix false
          (l.rest / c.args.radix) xs) digit ∙ (sym
          (goes_on c.args.radix l.rest l.units.items 64 l._place c.loop-place-test.true
          c.if-rest-eq0.false) ∙ l.invariant.spelled);
      places = omega (arith, ap length written, l.invariant.places, c.loop-place-test.true);
    }
