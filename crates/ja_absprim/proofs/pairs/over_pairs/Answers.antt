use Rattle.ja_absprim.proofs.Onto.{onto_more, onto_end}
use Rattle.ja_absprim.proofs.pairs.over_pairs.Goals as goal

pub loop-a-preserved : goal.loop-a-preserved
loop-a-preserved g c =
    onto_more _ _ _ _ _ _ _ c.in-Some.ensures.steps (c.in_ok-all.ensures _ c.over_row.ensures)
    c.loop-a.invariant

pub returns : goal.returns
returns g c = onto_end _ _ _ _ c.in-None.ensures.steps.0 c.loop-a.invariant
