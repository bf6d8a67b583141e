use Rattle.ja_value.proofs.LabelLemmas.{within_labels}
use Rattle.ja_value.proofs.label_set.LabelSet.is_subset.Goals as goal

pub returns : goal.returns
returns c = within_labels _ _ _ c.is_subset.ensures
