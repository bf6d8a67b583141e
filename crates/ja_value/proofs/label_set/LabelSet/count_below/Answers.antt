use Rattle.std.proofs.Common.{ap, ◌≤◌, ℕ, ◌*◌, sym, subst}
use Rattle.ja_value.specs.Value.{labels_in}
use Rattle.ja_value.proofs.LabelLemmas.{counted_all, few_labels, none_left}
use Rattle.ja_value.proofs.label_set.LabelSet.count_below.Goals as goal

pub returns-clause-counted : goal.returns-clause-counted
returns-clause-counted c =
    counted_all _ _ _ c.args.sites _
    (none_left _ _ _ c.as_slice-number-items.ensures.value c.loop-number-test.false)
    c.as_slice-number-items.ensures.ordered (ap (λ (n : ℕ). 2 * n) c.from-end.ensures)
    c.loop-number.invariant.counted

pub returns-clause-within : goal.returns-clause-within
returns-clause-within c =
    subst (λ (n : ℕ). n ≤ 2 * c.args.sites) (sym (returns-clause-counted c))
    (few_labels (labels_in c.args.self.now) c.args.sites)
