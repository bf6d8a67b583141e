use Rattle.std.proofs.Common.{ap, ◌∙◌, ℕ, ◌*◌, nat_lt}
use Rattle.ja_value.proofs.LabelLemmas.{any_by_first, any_of_none}
use Rattle.ja_value.proofs.label_set.LabelSet.has_below.Goals as goal

pub returns-in-Some : goal.returns-in-Some
returns-in-Some c =
    ap (λ (n : ℕ). nat_lt c.in-Some.number.now (2 * n)) c.from.ensures
    ∙ any_by_first _ _ _ c.args.sites c.as_slice.ensures.ordered c.as_slice.ensures.value
    c.in-Some.ensures.value

pub returns-in-None : goal.returns-in-None
returns-in-None c =
    any_of_none _ _ c.args.sites c.as_slice.ensures.ordered c.as_slice.ensures.value
    c.in-None.ensures.value
