use Rattle.std.proofs.Common.{◌≡◌, ◌++◌, take}
use Rattle.std.specs.List.{flat_map}
use Rattle.ja_texts.specs.Texts.{plain_unit}
use Rattle.ja_texts.proofs.texts.push_plain.Given as goal

-- the units so far are written
abbrev pub invariant-loop-unit : goal.invariant-loop-unit
invariant-loop-unit l =
    l.text.items ≡ l.initial.text.items ++ flat_map plain_unit (take l.unit-index l.units)
