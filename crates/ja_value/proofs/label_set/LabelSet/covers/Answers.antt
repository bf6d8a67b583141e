use Rattle.ja_value.specs.Value.{labels_in}
use Rattle.ja_value.proofs.OrderLemmas.{labels_by_join, through}
use Rattle.ja_value.proofs.label_set.LabelSet.covers.Goals as goal

pub returns : goal.returns
returns c =
    through c.is_subset.ensures
    (labels_by_join (labels_in c.args.other.now) (labels_in c.args.self.now))
