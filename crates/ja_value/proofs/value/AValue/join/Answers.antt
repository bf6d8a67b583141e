use Rattle.std.proofs.Common.{◌∙◌}
use Rattle.ja_value.proofs.ValueLemmas.{parts_ext}
use Rattle.ja_value.proofs.value.AValue.join.Goals as goal

pub returns-clause-joined : goal.returns-clause-joined
returns-clause-joined c =
    parts_ext _ _ _ _ _ _ _ _ c.widen_flags-flags.ensures.joined
    c.widen_number-number.ensures.joined (c.replace_text-text.ensures.replaced
    ∙ c.in_ok-text.ensures.joined) c.in_ok-labels.ensures.joined
