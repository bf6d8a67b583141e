use Rattle.std.proofs.Common.{◌≡◌, drop}
use Rattle.ja_astate.specs.Looks.{view_of}
use Rattle.ja_astate.specs.code.Chains.{some_show}
use Rattle.ja_astate.proofs.reader.Reader.some_show.Given as goal

-- what is still to come decides
abbrev pub invariant-loop-label : goal.invariant-loop-label
invariant-loop-label l =
    some_show (view_of l.self) (drop l.label-index l.labels) l.key
    ≡ some_show (view_of l.self) l.labels l.key
