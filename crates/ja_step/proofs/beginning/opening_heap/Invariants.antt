use Rattle.std.proofs.Common.{◌≡◌, map}
use Rattle.std.specs.List.{range_with_len}
use Rattle.ja_machine.specs.Machine.{opening_objects_at}
use Rattle.ja_step.proofs.beginning.opening_heap.Given as goal

abbrev pub invariant-loop-site : goal.invariant-loop-site
invariant-loop-site l =
    l.heap ≡ record { objects = map (opening_objects_at l.program) (range_with_len 0 l.site) }
