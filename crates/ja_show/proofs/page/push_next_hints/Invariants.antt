use Rattle.std.proofs.Common.{◌≡◌, ◌++◌, take}
use Rattle.std.specs.List.{flat_map}
use Rattle.ja_show.specs.Page.{next_hint}
use Rattle.ja_show.proofs.page.push_next_hints.Given as goal

abbrev pub invariant-loop-message : goal.invariant-loop-message
invariant-loop-message l =
    l.out.items ≡ l.initial.out.items ++ flat_map next_hint (take l.message-index l.messages)
