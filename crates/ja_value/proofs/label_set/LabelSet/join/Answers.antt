use Rattle.std.proofs.Common.{◌||◌, ap, sym, ◌∙◌}
use Rattle.ja_abstract.specs.AbstractValue.{Labels}
use Rattle.ja_value.specs.Value.{labels_in}
use Rattle.ja_value.proofs.label_set.LabelSet.join.Goals as goal

pub returns-then-covers-clause-joined : goal.returns-then-covers-clause-joined
returns-then-covers-clause-joined c = sym (c.covers.ensures.0 c.if-covers.true)

pub returns-clause-joined : goal.returns-clause-joined
returns-clause-joined c =
    c.in_ok-changed.ensures.joined ∙ ap (λ (f : Labels). let g : Labels = λ l. f l
    || labels_in c.args.other.now l in g) c.in_ok-joined.ensures

pub returns-clause-changed : goal.returns-clause-changed
returns-clause-changed c =
    λ said same. c.in_ok-changed.ensures.changed said (same ∙ sym c.in_ok-joined.ensures)

pub returns-clause-same : goal.returns-clause-same
returns-clause-same c = λ said. c.in_ok-changed.ensures.same said ∙ c.in_ok-joined.ensures
