use Rattle.std.proofs.Common.{ap, ◌∙◌}
use Rattle.ja_value.specs.Value.{labels_in}
use Rattle.ja_cert_parts.proofs.ValueLemmas.{among_all, among_more, among_none, among_same}
use Rattle.ja_cert_parts.proofs.values.labels_among.Goals as goal
use Rattle.ja_cert_parts.proofs.values.labels_among.Goals.{in-Label+in_ok-insert, in_default}

pub loop-part-init : goal.loop-part-init
loop-part-init c = among_none (labels_in c.new-labels.result) c.new-labels.ensures

pub loop-part-preserved : goal.loop-part-preserved
loop-part-preserved c = elim c.match-part.branch [
  | in-Label+in_ok-insert w ↦
      ap labels_in w.labels-is
      ∙ among_more c.args.parts.now c.loop-part.part-index c.part-item.result w.in-Label.label
      (labels_in c.loop-part.labels) (labels_in w.insert.new.self) c.loop-part-test.true
      c.part-item.is w.in-Label.is c.loop-part.invariant w.in_ok-insert.ensures.inserted
  | in_default w ↦
      ap labels_in w.labels-is
      ∙ among_same c.args.parts.now c.loop-part.part-index c.part-item.result
      (labels_in c.loop-part.labels) c.loop-part-test.true c.part-item.is w.in_default.not-Label
      c.loop-part.invariant
]

pub returns : goal.returns
returns c =
    among_all c.args.parts.now c.loop-part.part-index (labels_in c.loop-part.labels)
    c.loop-part-test.false c.loop-part.invariant
