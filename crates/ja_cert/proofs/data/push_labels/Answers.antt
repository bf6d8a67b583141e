use Rattle.std.proofs.Common.{sym, append-nil, false}
use Rattle.ja_base.specs.declared.ids.Label.{Label}
use Rattle.ja_cert.proofs.Views.{labels_more}
use Rattle.ja_cert.proofs.data.push_labels.Goals as goal

pub loop-number-init : goal.loop-number-init
loop-number-init c = sym (append-nil _)

pub loop-number-preserved : goal.loop-number-preserved
loop-number-preserved c =
    let d : Label = record { site = record { 0 = 0 }; old = false } in
    labels_more _ _ _ _ _ _ d c.loop-number.invariant c.loop-number-test.true
    c.in_ok-push.ensures.ok c.label.ensures
