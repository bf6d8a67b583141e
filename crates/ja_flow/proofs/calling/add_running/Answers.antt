use Rattle.std.proofs.Common.{Bool, ◌&&◌, ◌||◌, sym, ap, ◌∙◌}
use Rattle.ja_base.specs.declared.ids.Label.{Label}
use Rattle.ja_abstract.specs.AbstractValue.{Labels, same_label}
use Rattle.ja_value.specs.Value.{labels_in}
use Rattle.ja_flow.proofs.calling.add_running.Goals as goal

pub returns-in_ok-insert : goal.returns-in_ok-insert
returns-in_ok-insert c =
    c.in_ok-insert.ensures.inserted
    ∙ ap {B = Labels} (λ (b : Bool) (l : Label).
    labels_in c.args.labels.now l || (b && same_label c.args.label l))
    (sym c.if-runs.true ∙ c.runs.ensures)
