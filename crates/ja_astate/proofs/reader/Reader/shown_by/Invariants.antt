use Rattle.std.proofs.Common.{◌≡◌, take, map}
use Rattle.ja_abstract.specs.Resolved.{join_values}
use Rattle.ja_value.specs.Value.{value_of}
use Rattle.ja_astate.specs.Looks.{view_of}
use Rattle.ja_astate.specs.code.Chains.{shown_text}
use Rattle.ja_astate.proofs.reader.Reader.shown_by.Given as goal

abbrev pub invariant-loop-key : goal.invariant-loop-key
invariant-loop-key l =
    value_of l.sum
    ≡ join_values (map (shown_text (view_of l.self) l.labels) (take l.key-index l.keys))
