-- What is held of the contexts before this one.
use Rattle.std.proofs.Common.{◌≡◌, None, take}
use Rattle.std.specs.List.{flat_map}
use Rattle.ja_warn.specs.code.Faults.{Spot, found_at, held, reached_of_context}
use Rattle.ja_warn.proofs.faults.operations_by.Given as goal

abbrev pub invariant-loop-own : goal.invariant-loop-own
invariant-loop-own l = (k : Spot) → found_at l.found k
    ≡ held k None (flat_map (reached_of_context l.program)
    (take l.own-index l.table.contexts.items))
