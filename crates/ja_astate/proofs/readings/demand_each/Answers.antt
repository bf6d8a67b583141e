use Rattle.std.proofs.Common.{false, ◌&&◌}
use Rattle.ja_base.specs.declared.ids.Label.{Label}
use Rattle.ja_abstract.specs.AbstractValue.{same_label}
use Rattle.ja_abstract.specs.AbstractState.{same_key}
use Rattle.ja_aheap.specs.Objects.{demands_in}
use Rattle.ja_astate.proofs.Loops.{demanded_more}
use Rattle.ja_astate.proofs.readings.demand_each.Goals as goal

pub loop-label-preserved : goal.loop-label-preserved
loop-label-preserved c =
    let none : Label = record { site = record { 0 = 0 }; old = false } in
    demanded_more (λ (l : Label) m j. same_label l m && same_key c.args.key j) c.args.labels.now
    c.loop-label.label-index none c.loop-label-test.true
    (demands_in c.args.demands.now) (demands_in c.loop-label.demands) (demands_in c.push.new.self)
    c.loop-label.invariant c.in_ok-push.ensures.demanded
