use Rattle.std.proofs.Common.{◌≡◌, ◌++◌, map, take}
use Rattle.std.specs.List.{flat_map}
use Rattle.ja_show.specs.Messages.{message_text}
use Rattle.ja_show.specs.code.Kept.{lines_in, lists_in}
use Rattle.ja_show.proofs.messages.push_messages.Given as goal

-- the messages so far are written
abbrev pub invariant-loop-message : goal.invariant-loop-message
invariant-loop-message l =
    l.out.items
    ≡ l.initial.out.items
    ++ flat_map (message_text (lists_in l.names) (map lines_in l.sources))
    (take l.message-index l.messages)
