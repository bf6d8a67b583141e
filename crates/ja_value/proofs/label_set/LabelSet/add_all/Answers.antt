use Rattle.ja_value.proofs.LabelLemmas.{joined_all, labels_apart, none_left}
use Rattle.ja_value.proofs.label_set.LabelSet.add_all.Goals as goal

pub returns-clause-joined : goal.returns-clause-joined
returns-clause-joined c =
    joined_all _ _ _ _ _ c.loop-number.invariant (none_left _ _ _
    c.as_slice-number-items.ensures.value c.loop-number-test.false)

pub returns-clause-changed : goal.returns-clause-changed
returns-clause-changed c = λ told same. let h = c.loop-number.invariant.one_more told in
    labels_apart _ _ h.0 h.1.0 h.1.1 same
