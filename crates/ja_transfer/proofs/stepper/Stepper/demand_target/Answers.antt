use Rattle.std.proofs.Common.{List, ap, refl, ◌∙◌, false}
use Rattle.std.proofs.lemmas.List.{take_all}
use Rattle.ja_base.specs.declared.ids.Label.{Label}
use Rattle.ja_abstract.specs.Reading.{demands_of_own}
use Rattle.ja_abstract.specs.Resolved.{Demands}
use Rattle.ja_aheap.specs.Objects.{demands_in}
use Rattle.ja_value.specs.Value.{labels_in}
use Rattle.ja_transfer.specs.Outcomes.{at_view}
use Rattle.ja_transfer.specs.code.Members.{demands_over}
use Rattle.ja_transfer.proofs.MemberLemmas.{demands_more}
use Rattle.ja_transfer.proofs.WeakLemmas.{demands_at_set}
use Rattle.ja_transfer.proofs.stepper.Stepper.demand_target.Goals as goal

pub loop-label-preserved : goal.loop-label-preserved
loop-label-preserved c =
    let each : Label → Demands =
    λ x. demands_of_own (at_view c.args.self.now) x c.args.keys.now in
    demands_more c.deref-label-items.result.now c.loop-label.label-index
    (record { site = record { 0 = 0 }; old = false }) c.loop-label-test.true each
    (demands_in c.loop-label.demands) _ (demands_in c.demand_own.new.demands)
    c.loop-label.invariant refl c.in_ok-demand_own.ensures

pub returns : goal.returns
returns c =
    let w = at_view c.args.self.now in
    let each : Label → Demands = λ x. demands_of_own w x c.args.keys.now in
    let items = c.deref-label-items.result.now in
    c.loop-label.invariant
    ∙ ap (λ (xs : List Label). demands_over xs each)
    (take_all c.loop-label.label-index items c.loop-label-test.false)
    ∙ demands_at_set w (labels_in c.args.target.now) each items
    (c.deref-label-items.ensures.value ∙ c.in_ok-members.ensures)
