use Rattle.std.proofs.Common.{◌≡◌, take}
use Rattle.ja_abstract.specs.Reading.{own}
use Rattle.ja_value.specs.Value.{property_of}
use Rattle.ja_astate.specs.Looks.{view_of}
use Rattle.ja_astate.proofs.reader.Reader.own.Given as goal

abbrev pub invariant-loop-key : goal.invariant-loop-key
invariant-loop-key l =
    property_of l.sum ≡ own (view_of l.self) l.label (take l.key-index l.keys)
