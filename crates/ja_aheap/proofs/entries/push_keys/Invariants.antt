use Rattle.std.proofs.Common.{◌≡◌, ◌++◌, filter, take}
use Rattle.ja_aheap.specs.Numbers.{is_demanded}
use Rattle.ja_aheap.proofs.entries.push_keys.Given as goal

abbrev pub invariant-loop-key : goal.invariant-loop-key
invariant-loop-key l =
    l.keys.items ≡ l.initial.keys.items ++ filter (is_demanded l.properties)
    (take l.key-index l.others)
