use Rattle.std.proofs.Common.{arith}
use Rattle.ja_table.specs.Tables.{states_in}
use Rattle.ja_report.proofs.PointLemmas.{points_none, points_more, points_all}
use Rattle.ja_report.proofs.table.push_points.Goals as goal

pub loop-node-init : goal.loop-node-init
loop-node-init c = points_none _ _ _ _

pub loop-node-preserved : goal.loop-node-preserved
loop-node-preserved c =
    points_more _ _ (states_in c.args.own.now.nodes.items) _ _ _ _ c.loop-node.invariant
    c.in_ok-push_node.ensures

pub returns : goal.returns
returns c =
    points_all c.args.program.now _ (states_in c.args.own.now.nodes.items) _ _ _ _
    c.loop-node.invariant (omega arith) c.requires.fits.nodes
