use Rattle.std.proofs.Common.{true, refl}
use Rattle.ja_aheap.specs.code.Maps.{GivesAt}
use Rattle.ja_aheap.proofs.MapLemmas.{each_turn, each_end, passing_turn}
use Rattle.ja_aheap.proofs.maps.all_listed.Goals as goal

pub returns-then-not-test : goal.returns-then-not-test
returns-then-not-test g c = record {
  held = λ wrong. absurd (cc);
  failed = λ said. (
    c.in-Some.number.now,
    c.in-Some.value.now,
    (passing_turn _ _ _ _ (c.in-Some.number, c.in-Some.value) c.in-Some.is c.next.ensures.steps
        c.loop-number.invariant.passing).0,
    record { shown = c.in-Some.value; shows = refl; says = record { met = c.if-not-test.ensures } },
  );
}

pub loop-number-preserved : goal.loop-number-preserved
loop-number-preserved g c =
    record {
      passing = (passing_turn _ _ _ _ (c.in-Some.number, c.in-Some.value) c.in-Some.is
          c.next.ensures.steps c.loop-number.invariant.passing).1;
      each = each_turn (λ q v. GivesAt g.F.Fn c.args.test q v true) _ _ _ _
          (c.in-Some.number, c.in-Some.value) c.in-Some.is
          c.next.ensures.steps c.loop-number.invariant.each
          (record {
            shown = c.in-Some.value;
            shows = refl;
            says = record { met = c.if-not-test.ensures };
          });
    }

pub returns : goal.returns
returns g c = record {
  held =
      λ said. each_end (λ q v. GivesAt g.F.Fn c.args.test q v true) c.args.map.now.entries _
      c.in-None.ensures.steps.0 c.loop-number.invariant.each;
  failed = λ wrong. absurd (cc);
}
