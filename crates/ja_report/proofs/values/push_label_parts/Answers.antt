use Rattle.std.proofs.Common.{rules, sym, append-nil, false}
use Rattle.ja_base.specs.declared.ids.Label.{Label}
use Rattle.ja_report.proofs.PartLemmas.{labels_none, labels_more, sites_more}
use Rattle.ja_report.proofs.values.push_label_parts.Goals as goal

pub loop-label-init : goal.loop-label-init
loop-label-init c = (labels_none _, sym (append-nil _))

pub loop-label-preserved : goal.loop-label-preserved
loop-label-preserved c =
    let d : Label = record { site = record { 0 = 0 }; old = false } in (
      labels_more _ _ _ _ _ _ _ d c.loop-label.invariant.0 (search rules)
          c.in_ok-name_label.ensures.text c.in_ok-push.ensures.items,
      sites_more _ _ _ _ _ d c.loop-label.invariant.1 (search rules)
          c.in_ok-name_label.ensures.named,
    )
