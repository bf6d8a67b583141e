use Rattle.std.proofs.Common.{◌≡◌, ◌++◌, take}
use Rattle.std.specs.Prelude.{filter}
use Rattle.ja_transfer.specs.code.Receivers.{is_more}
use Rattle.ja_transfer.proofs.receivers.add_receivers.Given as goal

abbrev pub invariant-loop-label : goal.invariant-loop-label
invariant-loop-label l =
    l.receivers.items ≡ l.initial.receivers.items
    ++ filter (is_more l.program l.is_listed) (take l.label-index l.labels)
