use Rattle.std.proofs.Common.{◌≡◌, rules}
use Rattle.ja_heap.specs.code.Slots.{slot_of}
use Rattle.ja_heap.proofs.InSlots.{within_all}
use Rattle.ja_heap.proofs.properties.slot_of.Goals as goal

pub returns-in-Some-clause-within : goal.returns-in-Some-clause-within
returns-in-Some-clause-within c =
    let e : c.copied.result ≡ slot_of c.args.name.now c.args.slots.now = search rules in
    within_all c.args.name.now c.args.slots.now c.copied.result e

pub returns-in-None-clause-within : goal.returns-in-None-clause-within
returns-in-None-clause-within c =
    within_all c.args.name.now c.args.slots.now c.looked_through.result c.looked_through.ensures
