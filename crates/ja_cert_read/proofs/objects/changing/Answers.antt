use Rattle.std.specs.Vec.Iter.{into_iter_items}
use Rattle.ja_aheap.specs.Heap.{heap_of}
use Rattle.ja_astate.specs.State.{state_of}
use Rattle.ja_cert_read.specs.code.Building.{IsPlaced}
use Rattle.ja_cert_read.proofs.Apart.{left_dropped}
use Rattle.ja_cert_read.proofs.objects.changing.Goals as goal

pub loop-listed-preserved : goal.loop-listed-preserved
loop-listed-preserved c =
    let h = heap_of c.args.state.now.heap in
    left_dropped (state_of c.args.state.now) (IsPlaced h.sites h.names) c.args.heap.items _
    c.in-Some.listed (into_iter_items c.next.new.self) c.loop-listed.left.items
    c.loop-listed.invariant c.in-Some.ensures.steps.0
    (c.has_property.ensures c.if-not-has_property.false)
