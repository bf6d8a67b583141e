use Rattle.std.proofs.Common.{◌≡◌, ◌+◌, drop}
use Rattle.std.specs.List.{position_or_len}
use Rattle.std.specs.Str.{bytes_eq}
use Rattle.ja_load.proofs.hosts.number.Given as goal

abbrev pub invariant-loop-place : goal.invariant-loop-place
invariant-loop-place l =
    l.place + position_or_len (bytes_eq l.name) (drop l.place l.names)
    ≡ position_or_len (bytes_eq l.name) l.names
