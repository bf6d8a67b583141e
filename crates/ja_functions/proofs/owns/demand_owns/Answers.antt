use Rattle.std.proofs.Common.{List, false, ap, ◌∙◌}
use Rattle.std.proofs.lemmas.List.{take_all}
use Rattle.ja_base.specs.declared.ids.Label.{Label}
use Rattle.ja_abstract.specs.Reading.{demands_of_own}
use Rattle.ja_abstract.specs.Resolved.{Demands}
use Rattle.ja_aheap.specs.Objects.{demands_in}
use Rattle.ja_astate.specs.Looks.{view_of}
use Rattle.ja_astate.specs.code.Pairs.{demands_over}
use Rattle.ja_functions.proofs.Labels.{demands_more}
use Rattle.ja_functions.proofs.owns.demand_owns.Goals as goal

pub loop-label-preserved : goal.loop-label-preserved
loop-label-preserved c =
    let each : Label → Demands = λ m. demands_of_own (view_of c.args.reader.now) m c.args.keys.now in
    demands_more each c.args.members.now c.loop-label.label-index
    (record { site = record { 0 = 0 }; old = false }) c.loop-label-test.true
    (demands_in c.loop-label.demands) (demands_in c.demand_own.new.demands) c.loop-label.invariant
    c.in_ok-demand_own.ensures

pub returns : goal.returns
returns c =
    let each : Label → Demands = λ m. demands_of_own (view_of c.args.reader.now) m c.args.keys.now in
    c.loop-label.invariant
    ∙ ap (λ (ls : List Label). demands_over ls each)
    (take_all c.loop-label.label-index c.args.members.now c.loop-label-test.false)
