use Rattle.ja_value.proofs.LabelLemmas.{no_labels_is}
use Rattle.ja_value.proofs.label_set.LabelSet.is_empty.Goals as goal

pub returns : goal.returns
returns c = no_labels_is _ _ _ c.as_slice.ensures.value c.is_empty.ensures
