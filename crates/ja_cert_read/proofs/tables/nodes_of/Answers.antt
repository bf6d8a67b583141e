use Rattle.std.proofs.Common.{arith}
use Rattle.std.specs.Vec.Iter.{into_iter_items}
use Rattle.ja_base.proofs.Lists.{empty_by_length}
use Rattle.ja_cert_read.proofs.TablesBuilt.{front_begin, front_end, front_more, front_next}
use Rattle.ja_cert_read.proofs.tables.nodes_of.Goals as goal

pub loop-point-init : goal.loop-point-init
loop-point-init c =
    front_begin c.args.program.now c.args.function c.args.points.items _ _ c.requires.right
    c.requires.states c.into_iter-point-iterator.ensures.into_iter_gives.0
    c.new-nodes.ensures.items

pub loop-point-preserved : goal.loop-point-preserved
loop-point-preserved c =
    front_more c.args.program.now c.args.function c.args.points.items c.in-Some.point
    (into_iter_items c.next.new.self) c.loop-point.nodes.items c.fill_up.new.nodes.items
    c.push.new.self.items _
    (front_next c.args.program.now c.args.function c.args.points.items _ c.in-Some.point
    (into_iter_items c.next.new.self) c.loop-point.nodes.items c.loop-point.invariant
    c.in-Some.ensures.steps.0)
    c.in_ok-fill_up.ensures c.new.ensures c.in_ok-push.ensures.items

pub returns : goal.returns
returns c =
    front_end c.args.program.now c.args.function c.args.points.items
    (into_iter_items c.loop-point.point-iterator) c.loop-point.nodes.items
    c.fill_up-2.new.nodes.items c.node_count.result c.loop-point.invariant
    (empty_by_length _ (omega (
      arith,
      c.in-None.ensures.steps.0,
      c.loop-point.point-iterator.rest.ok.0,
    )))
    c.in_ok-fill_up-2.ensures c.node_count.ensures
