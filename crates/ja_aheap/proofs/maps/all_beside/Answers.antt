use Rattle.std.proofs.Common.{true, refl}
use Rattle.ja_aheap.specs.code.Maps.{GivesOfBoth}
use Rattle.ja_aheap.proofs.MapLemmas.{both_turn, both_end}
use Rattle.ja_aheap.proofs.maps.all_beside.Goals as goal

pub loop-number-preserved : goal.loop-number-preserved
loop-number-preserved g c =
    both_turn (λ v w. GivesOfBoth g.F.Fn c.args.test v w true) _ _ _ _ _ _ _ _
    (c.in-Some.number, c.in-Some.value) (c.in-Some-next.other_number, c.in-Some-next.other)
    c.in-Some.is c.next.ensures.steps c.in-Some-next.is c.next-in-loop-number.ensures.steps
    c.if-number-other_number.false
    (record {
      first = c.in-Some.value;
      second = c.in-Some-next.other;
      shows_first = refl;
      shows_second = refl;
      says = record { met = c.if-not-test.ensures };
    })
    c.loop-number.invariant

pub returns : goal.returns
returns g c = λ said.
    both_end (λ v w. GivesOfBoth g.F.Fn c.args.test v w true) _ _ _ _ c.in-None.ensures.steps.0
    c.loop-number.invariant
