use Rattle.std.proofs.Common.{ap, ◌∙◌}
use Rattle.ja_abstract.specs.AbstractValue.{AbstractValue}
use Rattle.ja_value.specs.Labels.{aged_labels}
use Rattle.ja_functions.proofs.functions.chain.Goals as goal

pub returns : goal.returns
returns c =
    c.in_ok-age-2.ensures.aged
    ∙ ap (aged_labels c.args.second) (c.in_ok-age.ensures.aged
    ∙ ap (aged_labels c.args.first) (c.in_ok-chain.ensures
    ∙ ap (λ (v : AbstractValue). v.label) c.register.ensures))
