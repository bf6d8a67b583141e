use Rattle.ja_heap.proofs.InSlots.{last_placed}
use Rattle.ja_heap.proofs.properties.with_last.Goals as goal

pub returns-in-Some : goal.returns-in-Some
returns-in-Some c =
    let slots = c.args.slots.now in
    last_placed c.in-Some.table.value c.with_slot.result slots c.index-slots-last.result
    c.requires.some c.index-slots-last.is c.requires.apart
    (rw c.in-Some.is at c.requires.placed) c.with_slot.ensures
