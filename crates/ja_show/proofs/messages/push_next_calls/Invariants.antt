use Rattle.std.proofs.Common.{◌≡◌, ◌++◌, take}
use Rattle.std.specs.List.{flat_map}
use Rattle.ja_show.specs.Messages.{next_call}
use Rattle.ja_show.specs.code.Kept.{lists_in}
use Rattle.ja_show.proofs.messages.push_next_calls.Given as goal

abbrev pub invariant-loop-spot : goal.invariant-loop-spot
invariant-loop-spot l =
    l.out.items
    ≡ l.initial.out.items ++ flat_map (next_call (lists_in l.names)) (take l.spot-index l.calls)
