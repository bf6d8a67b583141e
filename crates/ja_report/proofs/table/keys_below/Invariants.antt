use Rattle.std.proofs.Common.{◌≡◌, map}
use Rattle.std.specs.List.{range_with_len}
use Rattle.ja_abstract.specs.AbstractState.{name_key}
use Rattle.ja_report.proofs.table.keys_below.Given as goal

-- the names so far
abbrev pub invariant-loop-number : goal.invariant-loop-number
invariant-loop-number l = l.keys.items ≡ map name_key (range_with_len 0 l.number)
