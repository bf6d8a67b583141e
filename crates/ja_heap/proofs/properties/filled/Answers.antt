use Rattle.ja_heap.proofs.InSlots.{more_places}
use Rattle.ja_heap.proofs.properties.filled.Goals as goal

pub loop-i-preserved : goal.loop-i-preserved
loop-i-preserved c =
    more_places c.loop-i.table.value c.in-Some.longer.value c.args.slots.now c.loop-i.i
    c.index-slots-i.result c.loop-i-test.true c.index-slots-i.is c.requires.apart
    c.loop-i.invariant c.in-Some.ensures
