use Rattle.std.proofs.Common.{◌≡◌, ◌-◌}
use Rattle.std.specs.Prelude.{find}
use Rattle.ja_machine.specs.Heap.{chain, outer_of, has, scopes}
use Rattle.ja_heap.proofs.heap.Heap.find_name.Given as goal

abbrev pub invariant-loop-object : goal.invariant-loop-object
invariant-loop-object l =
    find (λ b. has l.self b l.name) (chain outer_of l.self (l._object-end - l._object) l.at)
    ≡ find (λ b. has l.self b l.name) (scopes l.self l.fn.scope)
