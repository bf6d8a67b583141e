use Rattle.std.proofs.Common.{◌≡◌, ◌-◌, ◌++◌}
use Rattle.ja_machine.specs.Heap.{chain, prototype_of, prototypes}
use Rattle.ja_heap.proofs.heap.Heap.prototypes.Given as goal

abbrev pub invariant-loop-object : goal.invariant-loop-object
invariant-loop-object l =
    l.chain.items ++ chain prototype_of l.self (l._object-end - l._object) l.at
    ≡ prototypes l.self l.fn.a
