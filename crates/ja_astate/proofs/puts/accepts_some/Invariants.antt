use Rattle.std.proofs.Common.{◌≡◌, drop}
use Rattle.std.specs.List.{list_any}
use Rattle.ja_astate.specs.Looks.{view_of}
use Rattle.ja_astate.specs.code.Puts.{accepts_length}
use Rattle.ja_astate.proofs.puts.accepts_some.Given as goal

-- what is still to come decides
abbrev pub invariant-loop-key : goal.invariant-loop-key
invariant-loop-key l =
    list_any (accepts_length (view_of l.reader) l.label) (drop l.key-index l.keys)
    ≡ list_any (accepts_length (view_of l.reader) l.label) l.keys
