use Rattle.std.proofs.Common.{List, false, ap, ◌∙◌}
use Rattle.std.proofs.lemmas.List.{take_all}
use Rattle.ja_base.specs.declared.ids.Label.{Label}
use Rattle.ja_abstract.specs.Made.{value_key}
use Rattle.ja_abstract.specs.Resolved.{Demands, demands_of}
use Rattle.ja_aheap.specs.Objects.{demands_in}
use Rattle.ja_astate.specs.Looks.{view_of}
use Rattle.ja_astate.specs.code.Pairs.{demands_over}
use Rattle.ja_functions.proofs.Labels.{demands_more}
use Rattle.ja_functions.proofs.internals.demand_held.Goals as goal

pub loop-label-preserved : goal.loop-label-preserved
loop-label-preserved c =
    let each : Label → Demands = λ m. demands_of (view_of c.args.reader.now).state m value_key in
    demands_more each c.args.members.now c.loop-label.label-index
    (record { site = record { 0 = 0 }; old = false }) c.loop-label-test.true
    (demands_in c.loop-label.demands) (demands_in c.demand.new.demands) c.loop-label.invariant
    c.in_ok-demand.ensures

pub returns : goal.returns
returns c =
    let each : Label → Demands = λ m. demands_of (view_of c.args.reader.now).state m value_key in
    c.loop-label.invariant
    ∙ ap (λ (ls : List Label). demands_over ls each)
    (take_all c.loop-label.label-index c.args.members.now c.loop-label-test.false)
