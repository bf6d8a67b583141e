use Rattle.std.proofs.Common.{◌≡◌, ◌++◌, take}
use Rattle.std.specs.List.{flat_map}
use Rattle.std.specs.String.{string_bytes}
use Rattle.ja_texts.specs.Texts.{four_digits}
use Rattle.ja_cert.proofs.strings.push_units.Given as goal

-- the units so far are written
abbrev pub invariant-loop-unit : goal.invariant-loop-unit
invariant-loop-unit l =
    string_bytes l.text ≡ string_bytes l.initial.text
    ++ flat_map four_digits (take l.unit-index l.units)
