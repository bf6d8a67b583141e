use Rattle.std.proofs.Common.{◌≡◌, take}
use Rattle.std.specs.Char.Escape.{encode_utf16}
use Rattle.std.specs.List.{flat_map}
use Rattle.ja_prim.proofs.text16.units_of.Given as goal

abbrev pub invariant-characters : goal.invariant-characters
invariant-characters l = l.units.items ≡ flat_map encode_utf16 (take l.c-index l.characters)
