use Rattle.ja_abstract.specs.declared.abstraction.Key.TheVariants as key
use Rattle.ja_abstract.specs.Resolved.{demands_of}
use Rattle.ja_aheap.specs.Objects.{demands_in}
use Rattle.ja_astate.specs.Looks.{view_of}
use Rattle.ja_astate.proofs.Loops.{demanded_more}
use Rattle.ja_astate.proofs.reader.Reader.demand_own.Goals as goal

pub loop-key-preserved : goal.loop-key-preserved
loop-key-preserved c =
    demanded_more (demands_of (view_of c.args.self.now).state c.args.label) c.args.keys.now
    c.loop-key.key-index (key.Name (record { 0 = 0 })) c.loop-key-test.true
    (demands_in c.args.demands.now) (demands_in c.loop-key.demands)
    (demands_in c.demand.new.demands) c.loop-key.invariant c.in_ok-demand.ensures
