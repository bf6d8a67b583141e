use Rattle.std.proofs.Common.{◌∙◌}
use Rattle.ja_value.proofs.ValueLemmas.{one_label}
use Rattle.ja_value.proofs.value.AValue.of_label.Goals as goal

pub returns : goal.returns
returns c =
    c.of_labels.ensures
    ∙ one_label _ _ c.args.label c.new-labels.ensures c.in_ok-insert.ensures.inserted
