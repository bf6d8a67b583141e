use Rattle.ja_value.proofs.LabelLemmas.{none_left}
use Rattle.ja_value.proofs.RenamingLemmas.{renamed_all}
use Rattle.ja_value.proofs.label_set.LabelSet.renamed.Goals as goal

pub returns : goal.returns
returns c =
    renamed_all _ _ _ _ c.loop-number.invariant (none_left _ _ _
    c.as_slice-number-items.ensures.value c.loop-number-test.false)
