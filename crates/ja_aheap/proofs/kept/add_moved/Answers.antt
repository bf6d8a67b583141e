use Rattle.std.proofs.Common.{Bool, ◌||◌, ap, inr, ◌∙◌}
use Rattle.ja_base.proofs.Tests.{or_right_true}
use Rattle.ja_abstract.specs.AbstractValue.{Labels, same_label}
use Rattle.ja_abstract.specs.AbstractState.{new, site_of}
use Rattle.ja_abstract.proofs.Labels.{same_label-self}
use Rattle.ja_value.specs.Value.{labels_in}
use Rattle.ja_aheap.proofs.KeptLemmas.{by_number}
use Rattle.ja_aheap.proofs.kept.add_moved.Goals as goal

pub returns-in_ok-insert-clause-added : goal.returns-in_ok-insert-clause-added
returns-in_ok-insert-clause-added c = λ s same below.
    let label = new (site_of c.args.number) in
    inr (by_number (labels_in c.insert.new.self) s c.args.number same
    (ap (λ (set : Labels). set label) c.in_ok-insert.ensures.inserted
    ∙ or_right_true (labels_in c.args.labels.now label) (same_label-self label)))

pub returns-in_ok-insert-clause-kept : goal.returns-in_ok-insert-clause-kept
returns-in_ok-insert-clause-kept c = λ s there.
    ap (λ (set : Labels). set (new s)) c.in_ok-insert.ensures.inserted
    ∙ ap (λ (b : Bool). b || same_label (new (site_of c.args.number)) (new s)) there
