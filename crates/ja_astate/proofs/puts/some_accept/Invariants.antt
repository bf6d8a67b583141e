use Rattle.std.proofs.Common.{◌≡◌, drop}
use Rattle.ja_astate.specs.Looks.{view_of}
use Rattle.ja_astate.specs.code.Puts.{some_accept}
use Rattle.ja_astate.proofs.puts.some_accept.Given as goal

-- what is still to come decides
abbrev pub invariant-loop-label : goal.invariant-loop-label
invariant-loop-label l =
    some_accept (view_of l.reader) (drop l.label-index l.labels) l.keys
    ≡ some_accept (view_of l.reader) l.labels l.keys
