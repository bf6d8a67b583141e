use Rattle.std.proofs.Common.{refl, sym, ◌∙◌, arith}
use Rattle.std.proofs.lemmas.Grind.{common_steps}
use Rattle.std.specs.declared.result.Result.TheVariants.{Ok}
use Rattle.ja_aheap.specs.code.Maps.{GivesAt}
use Rattle.ja_aheap.proofs.MapLemmas.{filling_turn, there_already, made_there}
use Rattle.ja_aheap.proofs.maps.fill.Goals as goal

pub loop-number-preserved-in_ok-put : goal.loop-number-preserved-in_ok-put
loop-number-preserved-in_ok-put g c =
    filling_turn (λ q v w. GivesAt g.F.Fn c.args.make q v (Ok w)) _ _ _ _ _ _ _
    (c.in-Some.number, c.in-Some.value) c.in-Some.is c.next.ensures.steps c.loop-number.invariant
    (made_there _ _ _ _ c.in_ok-make.field-0
    (sym c.contains_key.ensures ∙ c.if-not-contains_key.true)
    (record { shown = c.in-Some.value; shows = refl; says = record { met = c.in_ok-make.ensures } })
    (grind (arith, common_steps, c.in_ok-put.ensures.placed c.in-Some.number.now)))
    (λ q apart. grind (arith, common_steps, c.in_ok-put.ensures.placed q))

pub loop-number-preserved : goal.loop-number-preserved
loop-number-preserved g c =
    filling_turn (λ q v w. GivesAt g.F.Fn c.args.make q v (Ok w)) _ _ _ _ _ _ _
    (c.in-Some.number, c.in-Some.value) c.in-Some.is c.next.ensures.steps c.loop-number.invariant
    (there_already _ _ _ (sym c.contains_key.ensures ∙ c.if-not-contains_key.false))
    (λ q apart. refl)
