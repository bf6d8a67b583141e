use Rattle.std.proofs.Common.{List, false, ◌||◌, sym, ap, ◌∙◌}
use Rattle.std.specs.List.{list_any}
use Rattle.std.proofs.lemmas.List.{take_all}
use Rattle.std.proofs.lemmas.List.Folds.{list_any_more}
use Rattle.ja_base.specs.declared.ids.Label.{Label}
use Rattle.ja_abstract.specs.AbstractValue.{Labels}
use Rattle.ja_abstract.specs.Made.{scope_key}
use Rattle.ja_abstract.specs.Reading.{slot}
use Rattle.ja_astate.specs.Looks.{view_of}
use Rattle.ja_flow.proofs.entering.chains.Goals as goal

pub loop-label-preserved : goal.loop-label-preserved
loop-label-preserved c =
    let w = view_of c.args.reader.now in
    let none : Label = record { site = record { 0 = 0 }; old = false } in
    let next = λ (m : Label) (l : Label). (slot w l scope_key).label m in
    c.in_ok-join.ensures.joined
    ∙ (λ i m. c.loop-label.invariant i m || (c.in_ok-property.ensures i).value.label m)
    ∙ (λ i m. sym (list_any_more (next m) c.args.members.now c.loop-label.label-index none
    c.loop-label-test.true) i)

pub returns : goal.returns
returns c =
    let w = view_of c.args.reader.now in
    c.loop-label.invariant
    ∙ ap {B = Labels} (λ (ls : List Label) m.
    list_any (λ (l : Label). (slot w l scope_key).label m) ls)
    (take_all c.loop-label.label-index c.args.members.now c.loop-label-test.false)
