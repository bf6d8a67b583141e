use Rattle.std.proofs.Common.{◌≡◌, ◌++◌, take}
use Rattle.std.specs.List.{flat_map}
use Rattle.ja_show.specs.Page.{message_item}
use Rattle.ja_show.specs.code.Kept.{lists_in}
use Rattle.ja_show.proofs.page.push_items.Given as goal

abbrev pub invariant-loop-message : goal.invariant-loop-message
invariant-loop-message l =
    l.out.items
    ≡ l.initial.out.items
    ++ flat_map (message_item (lists_in l.names)) (take l.message-index l.messages)
