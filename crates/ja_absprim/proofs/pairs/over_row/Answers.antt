use Rattle.ja_absprim.proofs.Onto.{onto_more, onto_end}
use Rattle.ja_absprim.proofs.pairs.over_row.Goals as goal

pub loop-b-preserved : goal.loop-b-preserved
loop-b-preserved g c =
    onto_more _ _ _ _ _ _ _ c.in-Some.ensures.steps (c.in_ok-all.ensures _ c.pair.ensures)
    c.loop-b.invariant

pub returns : goal.returns
returns g c = onto_end _ _ _ _ c.in-None.ensures.steps.0 c.loop-b.invariant
