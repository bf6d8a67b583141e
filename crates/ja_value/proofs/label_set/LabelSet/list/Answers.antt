use Rattle.std.proofs.Common.{ap, ℕ, ◌*◌}
use Rattle.ja_value.proofs.LabelLemmas.{listed, none_left}
use Rattle.ja_value.proofs.label_set.LabelSet.list.Goals as goal

pub returns : goal.returns
returns c =
    listed _ _ _ _ _ (ap (λ (n : ℕ). 2 * n) c.from-end.ensures)
    (none_left _ _ _ c.as_slice-number-items.ensures.value c.loop-number-test.false)
    c.as_slice-number-items.ensures.ordered c.loop-number.invariant
