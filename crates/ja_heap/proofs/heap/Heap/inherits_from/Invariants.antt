use Rattle.std.proofs.Common.{◌≡◌, ◌-◌}
use Rattle.std.specs.List.{list_any}
use Rattle.ja_machine.specs.Heap.{chain, prototype_of, same_address, inherits_from}
use Rattle.ja_heap.proofs.heap.Heap.inherits_from.Given as goal

abbrev pub invariant-loop-object : goal.invariant-loop-object
invariant-loop-object l =
    list_any (same_address l.prototype) (chain prototype_of l.self (l._object-end - l._object) l.at)
    ≡ inherits_from l.self l.fn.left l.prototype
