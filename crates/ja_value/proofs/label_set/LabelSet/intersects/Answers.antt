use Rattle.std.proofs.Common.{ap, sym, ◌∙◌, ℕ, ◌*◌}
use Rattle.ja_value.proofs.LabelLemmas.{any_shared, none_left, none_shared, shared_at}
use Rattle.ja_value.proofs.label_set.LabelSet.intersects.Goals as goal

pub returns-then-contains : goal.returns-then-contains
returns-then-contains c =
    sym (shared_at _ _ _ c.loop-number.number-index _ c.as_slice-number-items.ensures.value
    c.loop-number-test.true c.if-number-end.true (sym c.contains.ensures ∙ c.if-contains.true))
    ∙ any_shared _ _ c.as_slice-number-items.ensures.ordered c.args.sites _ (ap (λ (n : ℕ). 2 * n)
    c.from-end.ensures)

pub returns : goal.returns
returns c =
    none_shared _ _ _ c.args.sites _
    (none_left _ _ _ c.as_slice-number-items.ensures.value c.loop-number-test.false)
    c.as_slice-number-items.ensures.ordered (ap (λ (n : ℕ). 2 * n) c.from-end.ensures)
    c.loop-number.invariant
