use Rattle.ja_absprim.proofs.Onto.{onto_more, onto_end}
use Rattle.ja_absprim.proofs.convert.over_atoms.Goals as goal

pub loop-atom-preserved : goal.loop-atom-preserved
loop-atom-preserved c =
    onto_more _ _ _ _ _ _ _ c.in-Some.ensures.steps (c.in_ok-all.ensures _ c.converted.ensures)
    c.loop-atom.invariant

pub returns : goal.returns
returns c = onto_end _ _ _ _ c.in-None.ensures.steps.0 c.loop-atom.invariant
