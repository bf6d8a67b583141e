use Rattle.std.proofs.Common.{◌≡◌, ◌-◌}
use Rattle.ja_machine.specs.Heap.{chain, prototype_of, first_own, get}
use Rattle.ja_heap.proofs.heap.Heap.get.Given as goal

abbrev pub invariant-loop-object : goal.invariant-loop-object
invariant-loop-object l =
    first_own l.self l.name (chain prototype_of l.self (l._object-end - l._object) l.at)
    ≡ get l.self l.fn.a l.name
