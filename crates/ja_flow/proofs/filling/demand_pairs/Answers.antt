use Rattle.std.proofs.Common.{false}
use Rattle.ja_base.specs.declared.ids.Label.{Label}
use Rattle.ja_abstract.specs.declared.abstraction.Key.{Key}
use Rattle.ja_abstract.specs.declared.abstraction.Key.TheVariants as key
use Rattle.ja_abstract.specs.Reading.{no_demands}
use Rattle.ja_abstract.specs.Resolved.{demands_of}
use Rattle.ja_aheap.specs.Objects.{demands_in}
use Rattle.ja_astate.specs.Looks.{view_of}
use Rattle.ja_astate.proofs.Loops.{demanded_more}
use Rattle.ja_flow.proofs.filling.demand_pairs.Goals as goal

pub loop-pair-preserved : goal.loop-pair-preserved
loop-pair-preserved c =
    demanded_more (λ (p : Label × Key). demands_of (view_of c.args.reader.now).state p.0 p.1)
    c.args.pairs.now c.loop-pair.pair-index
    (record { site = record { 0 = 0 }; old = false }, key.Name (record { 0 = 0 }))
    c.loop-pair-test.true
    no_demands (demands_in c.loop-pair.demands)
    (demands_in c.demand.new.demands) c.loop-pair.invariant c.in_ok-demand.ensures
