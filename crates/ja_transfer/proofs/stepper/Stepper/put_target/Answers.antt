use Rattle.std.proofs.Common.{◌&&◌, not, List, ap, ◌∙◌, false}
use Rattle.std.proofs.lemmas.List.{take_all}
use Rattle.ja_base.specs.declared.ids.Label.{Label}
use Rattle.ja_abstract.specs.AbstractValue.{Labels}
use Rattle.ja_rows.specs.Names.{without_arrays}
use Rattle.ja_value.specs.Value.{labels_in}
use Rattle.ja_transfer.proofs.TargetLemmas.{array_in, none_dropped, dropped_more, none_left}
use Rattle.ja_transfer.proofs.stepper.Stepper.put_target.Goals as goal

pub loop-label-init : goal.loop-label-init
loop-label-init c = none_dropped c.args.self.now.reader.program.now (labels_in c.in_ok-target.target)

pub loop-label-preserved : goal.loop-label-preserved
loop-label-preserved c =
    dropped_more c.args.self.now.reader.program.now (labels_in c.in_ok-target.target)
    (labels_in c.loop-label.target) (labels_in c.remove_if.new.set) c.deref-label-items.result.now
    c.loop-label.label-index (record { site = record { 0 = 0 }; old = false }) c.is_array.result
    c.loop-label-test.true c.is_array.ensures c.loop-label.invariant c.remove_if.ensures

pub returns : goal.returns
returns c =
    let p = c.args.self.now.reader.program.now in
    let set : Labels = labels_in c.in_ok-target.target in
    let items = c.deref-label-items.result.now in
    c.loop-label.invariant
    ∙ ap {B = Labels} (λ (xs : List Label) (m : Label). set m && not (array_in p xs m))
    (take_all c.loop-label.label-index items c.loop-label-test.false)
    ∙ none_left p set items (c.deref-label-items.ensures.value ∙ c.in_ok-members.ensures)
    ∙ ap (without_arrays p) c.in_ok-target.ensures
