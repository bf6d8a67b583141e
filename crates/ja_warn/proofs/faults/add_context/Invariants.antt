-- What is held of the nodes below this one, behind what was.
use Rattle.std.proofs.Common.{◌≡◌}
use Rattle.std.specs.List.{flat_map, range_with_len}
use Rattle.ja_warn.specs.code.Faults.{Spot, found_at, held, reached_at}
use Rattle.ja_warn.proofs.faults.add_context.Given as goal

abbrev pub invariant-loop-node : goal.invariant-loop-node
invariant-loop-node l = (k : Spot) → found_at l.found k
    ≡ held k (found_at l.fn.found k) (flat_map (reached_at l.program l.own)
    (range_with_len 0 l.node))
