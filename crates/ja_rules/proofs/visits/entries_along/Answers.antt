use Rattle.std.proofs.Common.{refl}
use Rattle.ja_astate.specs.Looks.{view_of}
use Rattle.ja_rules.specs.code.Stepping.{IsCallerOf}
use Rattle.ja_rules.proofs.Entered.{all_or, entered_more}
use Rattle.ja_rules.proofs.visits.entries_along.Goals as goal

pub enter-requires : goal.enter-requires
enter-requires c =
    all_or (IsCallerOf c.args.reader.now c.args.info.now) c.args.edges.now c.requires
    c.loop-edge.edge-index c.loop-edge-test.true _

pub loop-edge-preserved : goal.loop-edge-preserved
loop-edge-preserved c =
    entered_more c.args.reader.now.program.now (view_of c.args.reader.now) c.args.info.now
    c.args.edges.now c.loop-edge.edge-index c.loop-edge.entries.items c.push.new.self.items
    _ _ c.loop-edge-test.true c.loop-edge.invariant refl c.in_ok-entered.ensures
    c.in_ok-push.ensures.items
